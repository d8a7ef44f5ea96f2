-- `step::propagate_step` meets its contract: the callees' equations joined. Assumes nothing.
use native.Mathlib.Omega.{arith}
use Rattle.step.specs.Step.{propagate_step}
use Rattle.step.proofs.propagate_step.Goals as goal

pub returns-in-Done : goal.returns-in-Done
unfolding propagate_step
returns-in-Done c = (rw (← c.propagate_one.ensures.0, c.in-Done.is), omega (arith, rw c.in-Done.is at c.propagate_one.ensures.1))

pub returns-in-NeedMainThread : goal.returns-in-NeedMainThread
unfolding propagate_step
returns-in-NeedMainThread c = (rw (← c.propagate_one.ensures.0, c.in-NeedMainThread.is) c.traverse_main_thread.ensures.0, c.traverse_main_thread.ensures.1)

pub returns-in-Empty : goal.returns-in-Empty
unfolding propagate_step
returns-in-Empty c = (rw (← c.propagate_one.ensures.0, c.in-Empty.is, ← c.atomic.ensures), omega arith)
