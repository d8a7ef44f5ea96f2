-- `make_closures::lua_sound` meets its contract: the callees' equations joined. Assumes nothing.
use Rattle.std.proofs.Common.{◌∙◌, refl, sym, true≢false}
use Rattle.make_closures.specs.Making.{lua_sound}
use Rattle.make_closures.proofs.lua_sound.Goals.{then-is_table, else-is_table}
use Rattle.make_closures.proofs.lua_sound.Goals as goal

pub returns-then-are_upvalues : goal.returns-then-are_upvalues
unfolding lua_sound
returns-then-are_upvalues c =
    elim c.if-is_table.branch [
      | then-is_table w ↦ rw (← c.is_table.ensures, w.if-is_table.true, ← w.are_upvalues.ensures, ← w.value-is, c.if-are_upvalues.true) c.is_proto_sound.ensures
      | else-is_table w ↦ absurd (true≢false (sym c.if-are_upvalues.true ∙ w.value-is ∙ w.if-is_table.false))
    ]

pub returns-else-are_upvalues : goal.returns-else-are_upvalues
unfolding lua_sound
returns-else-are_upvalues c =
    elim c.if-is_table.branch [
      | then-is_table w ↦ rw (← c.is_table.ensures, w.if-is_table.true, ← w.are_upvalues.ensures, ← w.value-is, c.if-are_upvalues.false) refl
      | else-is_table w ↦ rw (← c.is_table.ensures, w.if-is_table.false) c.if-are_upvalues.false
    ]
