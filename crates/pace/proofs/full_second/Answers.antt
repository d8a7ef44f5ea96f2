-- `pace::full_second` meets its contract: the callees' equations joined. Assumes nothing.
use native.Mathlib.Omega.{arith}
use Rattle.laid.specs.Laid.{laid_of}
use Rattle.run_walk.proofs.Laws.{parts_in}
use Rattle.pace.specs.Pace.{full_second}
use Rattle.pace.proofs.full_second.Goals as goal

pub update_threshold-requires : goal.update_threshold-requires
update_threshold-requires c = omega (arith, (parts_in (laid_of _ c.args.l.fits) c.requires.l_in_bounds).header, c.drive.auto.w)

pub returns-in-None : goal.returns-in-None
unfolding full_second
returns-in-None c = rw (← c.drive.ensures, c.in-None.is, ← c.update_threshold.ensures)

pub returns-in-Some : goal.returns-in-Some
unfolding full_second
returns-in-Some c = rw (← c.drive.ensures, c.in-Some.is)
