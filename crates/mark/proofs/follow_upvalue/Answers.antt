-- `mark::follow_upvalue` meets its contract: the callees' equations joined. Assumes nothing.
use native.Mathlib.Omega.{arith}
use Rattle.laid.specs.Laid.{upvalues_room, upvalue_words, laid_of}
use Rattle.mark.specs.Marking.{follow_upvalue}
use Rattle.mark.proofs.follow_upvalue.Goals as goal

pub body_of-p-requires : goal.body_of-p-requires
body_of-p-requires c = record { room = rw c.upvalues_of-upvalues.ensures (upvalues_room _ _ (laid_of _ c.args.l.fits) c.requires.l_in_bounds); i_lt_slots = rw c.upvalues_of-upvalues.ensures (omega (arith, c.wide-i.ensures.0, c.requires.r_bound)) }

pub set_colour-requires : goal.set_colour-requires
set_colour-requires c = record { room = rw c.upvalues_of-upvalues.ensures (upvalues_room _ _ (laid_of _ c.args.l.fits) c.requires.l_in_bounds); i_lt_slots = rw c.upvalues_of-upvalues.ensures (omega (arith, c.wide-i.ensures.0, c.requires.r_bound)) }

pub is_closed-requires : goal.is_closed-requires
is_closed-requires c = omega (arith, upvalue_words _ (laid_of _ c.args.l.fits), (rw c.upvalues_of-upvalues.ensures at c.body_of-p.ensures).1, c.set_colour.auto.w)

pub mark_value_at-requires : goal.mark_value_at-requires
mark_value_at-requires c = record { l_in_bounds = omega (arith, c.requires.l_in_bounds, c.set_colour.auto.w); p_in_bounds = omega (arith, upvalue_words _ (laid_of _ c.args.l.fits), (rw c.upvalues_of-upvalues.ensures at c.body_of-p.ensures).1, c.set_colour.auto.w) }

pub returns-then-is_closed : goal.returns-then-is_closed
unfolding follow_upvalue
returns-then-is_closed c = rw (← c.wide-i.ensures.0, ← (rw c.upvalues_of-upvalues.ensures at c.body_of-p.ensures).0, ← (rw c.upvalues_of-upvalues.ensures at c.set_colour.ensures), ← c.is_closed.ensures, c.if-is_closed.true) c.mark_value_at.ensures

pub returns-else-is_closed : goal.returns-else-is_closed
unfolding follow_upvalue
returns-else-is_closed c = rw (← c.wide-i.ensures.0, ← (rw c.upvalues_of-upvalues.ensures at c.body_of-p.ensures).0, ← (rw c.upvalues_of-upvalues.ensures at c.set_colour.ensures), ← c.is_closed.ensures, c.if-is_closed.false)
