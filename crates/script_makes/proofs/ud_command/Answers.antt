-- `script_makes::ud_command` meets its contract: its callees' equations joined. Assumes nothing.
use mathlib.Core.Path.{sym, ◌∙◌}
use Rattle.script_made.specs.Objects.{not_full}
use Rattle.script_makes.specs.Laws.{full, makes}
use Rattle.script_makes.proofs.ud_command.Goals as goal

pub returns-then-is_full : goal.returns-then-is_full
returns-then-is_full c = full _ _ (sym c.is_full.ensures ∙ c.if-is_full.true)

pub number_made-requires : goal.number_made-requires
number_made-requires c = not_full _ (sym c.is_full.ensures ∙ c.if-is_full.false)

pub returns : goal.returns
returns c = makes _ _ _ _ _ _ _ (sym c.is_full.ensures ∙ c.if-is_full.false) c.make_userdata-m.ensures c.number_made.ensures
