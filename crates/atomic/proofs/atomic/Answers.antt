-- `atomic::atomic` meets its contract: the callees' equations joined. Assumes nothing.
use native.Mathlib.Omega.{arith}
use Rattle.laid.specs.Laid.{laid_of}
use Rattle.run_walk.proofs.Laws.{parts_in}
use Rattle.atomic.specs.Atomic.{atomic}
use Rattle.atomic.proofs.atomic.Goals as goal

pub begin_sweep-requires : goal.begin_sweep-requires
begin_sweep-requires c = (omega (arith, (parts_in (laid_of _ c.args.l.fits) c.requires.l_in_bounds).header, c.mark_all.auto.w, c.finish_marking-n.auto.w, c.flip.auto.w), c.finish_marking-n.ensures.1)

pub returns : goal.returns
unfolding atomic
returns c = rw (← c.mark_all.ensures, ← c.finish_marking-n.ensures.0, ← c.flip.ensures) c.begin_sweep.ensures
