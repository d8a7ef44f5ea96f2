-- `step::start_cycle` meets its contract: the callees' equations joined. Assumes nothing.
use native.Mathlib.Omega.{arith}
use Rattle.laid.specs.Laid.{laid_of}
use Rattle.run_walk.proofs.Laws.{parts_in}
use Rattle.step.specs.Step.{start_cycle}
use Rattle.step.proofs.start_cycle.Goals as goal

pub put-requires : goal.put-requires
put-requires c = omega (arith, (parts_in (laid_of _ c.args.l.fits) c.requires.l_in_bounds).header, c.clear_lists.auto.w, c.mark_roots.auto.w)

pub returns : goal.returns
unfolding start_cycle
returns c = rw (← c.clear_lists.ensures, ← c.mark_roots.ensures) c.put.ensures
