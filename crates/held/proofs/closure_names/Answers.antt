-- `held::closure_names` meets its contract: the callees' equations joined. Assumes nothing.
use mathlib.Core.Path.{◌∙◌, sym}
use Rattle.held.specs.Held.{closure_names}
use Rattle.held.proofs.closure_names.Goals as goal

pub returns-then-not-is_table_or : goal.returns-then-not-is_table_or
unfolding closure_names
returns-then-not-is_table_or c = rw (← c.closure_env.ensures, sym c.is_table_or.ensures ∙ c.if-not-is_table_or.true)

pub returns-then-is_rust : goal.returns-then-is_rust
unfolding closure_names
returns-then-is_rust c = rw (← c.closure_env.ensures, sym c.is_table_or.ensures ∙ c.if-not-is_table_or.false, sym c.is_rust.ensures ∙ c.if-is_rust.true, ← c.closure_count-n.ensures.0) c.are_sound.ensures

pub returns : goal.returns
unfolding closure_names
returns c = rw (← c.closure_env.ensures, sym c.is_table_or.ensures ∙ c.if-not-is_table_or.false, sym c.is_rust.ensures ∙ c.if-is_rust.false, ← c.closure_count-n.ensures.0) c.upvalues_name.ensures
