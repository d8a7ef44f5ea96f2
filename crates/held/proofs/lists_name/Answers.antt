-- `held::lists_name` meets its contract: the callees' equations joined. Assumes nothing.
use mathlib.Core.Path.{◌∙◌, sym}
use Rattle.held.specs.Held.{lists_name}
use Rattle.held.proofs.lists_name.Goals as goal

pub returns-then-not-upvalues_name : goal.returns-then-not-upvalues_name
unfolding lists_name
returns-then-not-upvalues_name c = rw (← c.thread_open_count-n.ensures.0, sym c.upvalues_name.ensures ∙ c.if-not-upvalues_name.true)

pub returns : goal.returns
unfolding lists_name
returns c = rw (← c.thread_open_count-n.ensures.0, sym c.upvalues_name.ensures ∙ c.if-not-upvalues_name.false, ← c.thread_suspended_count-m.ensures.0) c.upvalues_name-2.ensures
