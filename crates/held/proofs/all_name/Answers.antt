-- `held::all_name` meets its contract: each way by its test. Assumes nothing.
use mathlib.Core.Path.{◌∙◌, sym}
use Rattle.held.specs.Held.{all_name}
use Rattle.held.proofs.all_name.Goals as goal

pub returns-then-not-slots_name : goal.returns-then-not-slots_name
unfolding all_name
returns-then-not-slots_name c = rw (sym c.slots_name.ensures ∙ c.if-not-slots_name.true)

pub returns-then-not-slots_name-2 : goal.returns-then-not-slots_name-2
unfolding all_name
returns-then-not-slots_name-2 c = rw (sym c.slots_name.ensures ∙ c.if-not-slots_name.false, sym c.slots_name-2.ensures ∙ c.if-not-slots_name-2.true)

pub returns-then-not-slots_name-3 : goal.returns-then-not-slots_name-3
unfolding all_name
returns-then-not-slots_name-3 c = rw (sym c.slots_name.ensures ∙ c.if-not-slots_name.false, sym c.slots_name-2.ensures ∙ c.if-not-slots_name-2.false, sym c.slots_name-3.ensures ∙ c.if-not-slots_name-3.true)

pub returns-then-not-slots_name-4 : goal.returns-then-not-slots_name-4
unfolding all_name
returns-then-not-slots_name-4 c = rw (sym c.slots_name.ensures ∙ c.if-not-slots_name.false, sym c.slots_name-2.ensures ∙ c.if-not-slots_name-2.false, sym c.slots_name-3.ensures ∙ c.if-not-slots_name-3.false, sym c.slots_name-4.ensures ∙ c.if-not-slots_name-4.true)

pub returns : goal.returns
unfolding all_name
returns c = rw (sym c.slots_name.ensures ∙ c.if-not-slots_name.false, sym c.slots_name-2.ensures ∙ c.if-not-slots_name-2.false, sym c.slots_name-3.ensures ∙ c.if-not-slots_name-3.false, sym c.slots_name-4.ensures ∙ c.if-not-slots_name-4.false) c.slots_name-5.ensures
