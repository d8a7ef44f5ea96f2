-- `mark::mark_place` meets its contract: a tag below 4 marks nothing, a table that is not white is left, and any other is left to the callee. Assumes nothing.
use Rattle.base.specs.Ways.{if_eq}
use Rattle.value.specs.Values.{value_of}
use Rattle.laid.specs.Laid.{tables_room, laid_of}
use Rattle.mark.specs.Marking.{mark_table, mark_value, mark_value_at}
use Rattle.mark.proofs.Laws.{plain_low}
use Rattle.mark.proofs.mark_place.Goals as goal

pub returns-then-tag-lt4 : goal.returns-then-tag-lt4
unfolding mark_value_at
returns-then-tag-lt4 c = plain_low _ _ _ _ _ _ (rw c.get-tag.ensures at c.if-tag-lt4.true)

pub shade-requires : goal.shade-requires
shade-requires c = rw c.tables_of.ensures (tables_room _ _ (laid_of _ c.args.l.fits) c.requires.l_in_bounds)

pub returns-then-not-is_white : goal.returns-then-not-is_white
unfolding mark_value_at mark_value value_of if_eq mark_table
returns-then-not-is_white c = rw (← c.get-tag.ensures, c.if-tag-eq5.true, ← c.get.ensures, ← c.get-then-tag-eq5.ensures, ← (rw c.tables_of.ensures at c.shade.ensures), ← c.is_white.ensures, c.if-not-is_white.true)

pub returns : goal.returns
returns c = c.mark_value_at.ensures
