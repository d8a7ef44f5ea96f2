-- `script_fields::word_at` meets its contract: by the cases of its tests. Assumes nothing.
use native.Mathlib.Omega.{arith}
use Rattle.script_fields.specs.Fields.{word_at}
use Rattle.script_fields.specs.Laws.{word_past}
use Rattle.script_fields.proofs.word_at.Goals as goal

pub returns-then-line-at : goal.returns-then-line-at
returns-then-line-at c = word_past _ _ c.if-line-at.true

pub slice_bounds-word_of-count : goal.slice_bounds-word_of-count
slice_bounds-word_of-count c = omega (arith, c.field_end-end.ensures.1.from)

pub returns : goal.returns
unfolding word_at
returns c = rw (← c.field_end-end.ensures.0) c.word_of.ensures
