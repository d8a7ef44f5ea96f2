-- `pace::give_up_marking` meets its contract: each way by its test. Assumes nothing.
use mathlib.Core.Path.{refl}
use native.Mathlib.Omega.{arith}
use Rattle.base.specs.Ways.{le_yes, le_no}
use Rattle.laid.specs.Laid.{laid_of}
use Rattle.run_walk.proofs.Laws.{parts_in}
use Rattle.pace.specs.Pace.{gave_up}
use Rattle.pace.proofs.give_up_marking.Goals as goal

pub get-requires : goal.get-requires
get-requires c = omega (arith, (parts_in (laid_of _ c.args.l.fits) c.requires.l_in_bounds).header)

pub put-requires : goal.put-requires
put-requires c = omega (arith, (parts_in (laid_of _ c.args.l.fits) c.requires.l_in_bounds).header, c.clear_lists.auto.w)

pub write_cursor-requires : goal.write_cursor-requires
write_cursor-requires c = omega (arith, (parts_in (laid_of _ c.args.l.fits) c.requires.l_in_bounds).header, c.clear_lists.auto.w, c.put.auto.w)

pub returns-then-get-le1 : goal.returns-then-get-le1
unfolding gave_up
returns-then-get-le1 c = le_yes _ _ _ _ _ (rw c.get.ensures at c.if-get-le1.true) (rw (← c.clear_lists.ensures, ← c.put.ensures) (rw c.start.ensures at c.write_cursor.ensures))

pub returns-else-get-le1 : goal.returns-else-get-le1
unfolding gave_up
returns-else-get-le1 c = le_no _ _ _ _ _ (rw c.get.ensures at c.if-get-le1.false) refl
