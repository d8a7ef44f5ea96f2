-- `arena_engine::sieddesan_arena_sweep` meets its contract: each way by its test. Assumes nothing.
use mathlib.Core.Path.{refl}
use native.Mathlib.Omega.{arith}
use Rattle.arena_engine.specs.Exports.{sweep_on, lies_room}
use Rattle.base.specs.Ways.{lt_yes, lt_no}
use Rattle.arena_engine.proofs.sieddesan_arena_sweep.Goals as goal

pub returns-then-out-lt3 : goal.returns-then-out-lt3
unfolding sweep_on
returns-then-out-lt3 c = lt_yes _ _ _ _ _ (omega arith) refl

pub sweep_in-requires : goal.sweep_in-requires
sweep_in-requires c = record { room = lies_room _ _ _ (rw c.in-Ok.is at c.place.ensures.1); wide = (rw c.in-Ok.is at c.place.ensures.1).wide; in_bounds = omega arith }

pub returns-in-Ok : goal.returns-in-Ok
unfolding sweep_on
returns-in-Ok c = lt_no _ _ _ _ _ (omega arith) (rw (← c.place.ensures.0, c.in-Ok.is) c.sweep_in.ensures)

pub returns-in-Err : goal.returns-in-Err
unfolding sweep_on
returns-in-Err c = lt_no _ _ _ _ _ (omega arith) (rw (← c.place.ensures.0, c.in-Err.is, c.number.ensures))
