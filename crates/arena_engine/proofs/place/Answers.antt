-- `arena_engine::place` meets its contract: each way by its test. Assumes nothing.
use mathlib.Core.Path.{refl}
use native.Mathlib.Nat.{mul-le-mul}
use native.Mathlib.Omega.{arith}
use Rattle.arena_engine.specs.Exports.{placed}
use Rattle.base.specs.Ways.{lt_yes, lt_no}
use Rattle.arena_engine.proofs.place.Goals as goal

pub returns-then-slots-gt4096 : goal.returns-then-slots-gt4096
unfolding placed
returns-then-slots-gt4096 c = (lt_yes _ _ _ _ _ (omega arith) refl, tt)

pub returns-then-stride-gt1024 : goal.returns-then-stride-gt1024
unfolding placed
returns-then-stride-gt1024 c = (lt_no _ _ _ _ _ (omega arith) (lt_yes _ _ _ _ _ (omega arith) refl), tt)

pub returns-then-width-gt64 : goal.returns-then-width-gt64
unfolding placed
returns-then-width-gt64 c = (lt_no _ _ _ _ _ (omega arith) (lt_no _ _ _ _ _ (omega arith) (lt_yes _ _ _ _ _ (omega arith) refl)), tt)

pub overflow_mul-slots-2 : goal.overflow_mul-slots-2
overflow_mul-slots-2 c = record { fits = omega (arith, mul-le-mul c.if-slots-gt4096.false c.if-stride-gt1024.false) }

pub overflow_add-slots-2 : goal.overflow_add-slots-2
overflow_add-slots-2 c = record { fits = omega (arith, mul-le-mul c.if-slots-gt4096.false c.if-stride-gt1024.false) }

pub returns-then-words-slots : goal.returns-then-words-slots
unfolding placed
returns-then-words-slots c = (lt_no _ _ _ _ _ (omega arith) (lt_no _ _ _ _ _ (omega arith) (lt_no _ _ _ _ _ (omega arith) (lt_yes _ _ _ _ _ (omega arith) refl))), tt)

pub overflow_mul-slots-3 : goal.overflow_mul-slots-3
overflow_mul-slots-3 c = record { fits = omega (arith, mul-le-mul c.if-slots-gt4096.false c.if-width-gt64.false) }

pub returns-then-bytes-slots : goal.returns-then-bytes-slots
unfolding placed
returns-then-bytes-slots c = (lt_no _ _ _ _ _ (omega arith) (lt_no _ _ _ _ _ (omega arith) (lt_no _ _ _ _ _ (omega arith) (lt_no _ _ _ _ _ (omega arith) (lt_yes _ _ _ _ _ (omega arith) refl)))), tt)

pub returns : goal.returns
unfolding placed
returns c = (lt_no _ _ _ _ _ (omega arith) (lt_no _ _ _ _ _ (omega arith) (lt_no _ _ _ _ _ (omega arith) (lt_no _ _ _ _ _ (omega arith) (lt_no _ _ _ _ _ (omega arith) refl)))), record { slots = omega arith; apart = omega arith; below = omega arith; fits = omega arith; wide = omega arith })
