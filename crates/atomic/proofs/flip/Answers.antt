-- `atomic::flip` meets its contract: the callees' equations joined. Assumes nothing.
use native.Mathlib.Omega.{arith}
use Rattle.laid.specs.Laid.{laid_of}
use Rattle.run_walk.proofs.Laws.{parts_in}
use Rattle.atomic.specs.Atomic.{flipped}
use Rattle.atomic.proofs.flip.Goals as goal

pub get-old-requires : goal.get-old-requires
get-old-requires c = omega (arith, (parts_in (laid_of _ c.args.l.fits) c.requires.l_in_bounds).header)

pub put-requires : goal.put-requires
put-requires c = omega (arith, (parts_in (laid_of _ c.args.l.fits) c.requires.l_in_bounds).header)

pub returns : goal.returns
unfolding flipped
returns c = rw (← c.get-old.ensures, ← c.other_white-white.ensures, ← c.put.ensures) c.clear_weak_tables.ensures
