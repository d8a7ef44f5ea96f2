-- `run_walk::main_thread::mark_frames` meets its contract: what is left of the loop gives the whole. Assumes nothing.
use native.Mathlib.Omega.{arith}
use mathlib.Core.Path.{refl, ◌∙◌}
use Rattle.base.specs.Loop.{run_again, run_end}
use Rattle.run_walk.specs.MainThread.{mark_frames}
use Rattle.run_walk.proofs.main_thread.mark_frames.Goals as goal

pub loop-i-init : goal.loop-i-init
loop-i-init c = record { rest = refl; long = refl }

pub mark_frame-requires : goal.mark_frame-requires
mark_frame-requires c = record { l_in_bounds = omega (arith, c.requires.l_in_bounds, c.loop-i.invariant.long); i_bound = omega (arith, c.requires.n_bound, c.loop-i-test.true) }

pub loop-i-preserved : goal.loop-i-preserved
loop-i-preserved c = record { rest = run_again _ c.loop-i.invariant.rest c.loop-i-test.true c.mark_frame.ensures; long = c.mark_frame.auto.w ∙ c.loop-i.invariant.long }

pub shape_of-w : goal.shape_of-w
shape_of-w c = c.loop-i.invariant.long

pub returns : goal.returns
unfolding mark_frames
returns c = run_end _ c.loop-i.invariant.rest c.loop-i-test.false
