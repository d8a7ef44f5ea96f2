-- `held::userdata_names` meets its contract: the callees' equations joined. Assumes nothing.
use mathlib.Core.Path.{◌∙◌, sym}
use Rattle.held.specs.Held.{userdata_names}
use Rattle.held.proofs.userdata_names.Goals as goal

pub returns-then-not-is_table_or : goal.returns-then-not-is_table_or
unfolding userdata_names
returns-then-not-is_table_or c = rw (← c.ud_meta.ensures, sym c.is_table_or.ensures ∙ c.if-not-is_table_or.true)

pub returns : goal.returns
unfolding userdata_names
returns c = rw (← c.ud_meta.ensures, sym c.is_table_or.ensures ∙ c.if-not-is_table_or.false, ← c.ud_env.ensures) c.is_table_or-2.ensures
