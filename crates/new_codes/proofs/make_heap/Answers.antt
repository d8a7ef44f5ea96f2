-- `new_codes::make_heap` meets its contract: each way by its test. Assumes nothing.
use native.Mathlib.Omega.{arith}
use Rattle.base.specs.Ways.{eq_yes, eq_no}
use Rattle.new_codes.specs.NewCodes.{make_heap_on}
use Rattle.new_codes.proofs.make_heap.Goals as goal

pub returns-then-sizes-ne10 : goal.returns-then-sizes-ne10
unfolding make_heap_on
returns-then-sizes-ne10 c = eq_no _ _ _ _ _ c.if-sizes-ne10.true (rw c.number.ensures)

pub returns : goal.returns
unfolding make_heap_on
returns c = eq_yes _ _ _ _ _ (omega arith) (rw (← c.sizes_of.ensures, ← c.make_heap-m.ensures, c.code.ensures))
