-- `make_engine::sieddesan_make_proto` meets its contract: each way by its test. Assumes nothing.
use Rattle.std.specs.Prelude.{Err}
use mathlib.Core.Path.{◌∙◌, sym, refl}
use Rattle.told.specs.Answers.{lent_short, lent_told}
use Rattle.make_codes.specs.Codes.{made_told, listed_no, listed_yes}
use Rattle.make_engine.proofs.sieddesan_make_proto.Goals as goal

pub returns-then-out-lt2 : goal.returns-then-out-lt2
returns-then-out-lt2 c = lent_short _ _ _ _ _ c.if-out-lt2.true

pub returns-then-not-are_tags : goal.returns-then-not-are_tags
unfolding made_told
returns-then-not-are_tags c = lent_told _ _ _ _ _ (Err _) _ _ _ c.if-out-lt2.false (listed_no _ _ _ _ (sym c.are_tags.ensures ∙ c.if-not-are_tags.true) refl) (rw c.no_number.ensures)

pub returns : goal.returns
returns c = lent_told _ _ _ _ _ _ _ _ _ c.if-out-lt2.false (listed_yes _ _ _ _ (sym c.are_tags.ensures ∙ c.if-not-are_tags.false) c.make_proto-a.ensures) c.tell_made.ensures
