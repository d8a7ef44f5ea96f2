-- `make_closures::lua_in` meets its contract: each way by its test. Assumes nothing.
use mathlib.Core.Path.{◌∙◌, refl, sym}
use native.Mathlib.Omega.{arith}
use lib.ListN.{length}
use Rattle.base.specs.Ways.{le_no, le_yes}
use Rattle.laid.specs.Laid.{parts_room, laid_of}
use Rattle.make_closures.specs.Making.{lua_in, upvalues_most}
use Rattle.make_closures.proofs.lua_in.Goals as goal

pub protos_used-requires : goal.protos_used-requires
protos_used-requires c = parts_room _ c.args.w.now (laid_of _ c.args.l.fits) c.requires.l_in_bounds

pub returns-then-protos_used-n : goal.returns-then-protos_used-n
unfolding lua_in
returns-then-protos_used-n c = rw (← c.protos_used.ensures.0) (le_yes _ _ _ _ _ (omega (arith, c.if-protos_used-n.true, c.wide-n.ensures.0)) refl)

pub returns-then-not-upvalues_fit : goal.returns-then-not-upvalues_fit
unfolding lua_in
returns-then-not-upvalues_fit c = rw (← c.protos_used.ensures.0) (le_no _ _ _ _ _ (omega (arith, c.if-protos_used-n.false, c.wide-n.ensures.0)) (rw (← c.upvalues_fit.ensures, c.if-not-upvalues_fit.true)))

pub new_lua-requires : goal.new_lua-requires
new_lua-requires c = record { l_in_bounds = c.requires.l_in_bounds; proto_bound = (c.wide-n.ensures.1, upvalues_most (length c.args.s.now) (sym c.upvalues_fit.ensures ∙ c.if-not-upvalues_fit.false)) }

pub returns-then-lua_sound : goal.returns-then-lua_sound
unfolding lua_in
returns-then-lua_sound c = rw (← c.protos_used.ensures.0) (le_no _ _ _ _ _ (omega (arith, c.if-protos_used-n.false, c.wide-n.ensures.0)) (rw (← c.upvalues_fit.ensures, c.if-not-upvalues_fit.false, ← (rw c.wide-n.ensures.0 at c.lua_sound.ensures), c.if-lua_sound.true) (rw c.wide-n.ensures.0 at c.new_lua.ensures)))

pub returns-else-lua_sound : goal.returns-else-lua_sound
unfolding lua_in
returns-else-lua_sound c = rw (← c.protos_used.ensures.0) (le_no _ _ _ _ _ (omega (arith, c.if-protos_used-n.false, c.wide-n.ensures.0)) (rw (← c.upvalues_fit.ensures, c.if-not-upvalues_fit.false, ← (rw c.wide-n.ensures.0 at c.lua_sound.ensures), c.if-lua_sound.false)))
