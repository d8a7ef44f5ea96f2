-- `upvalue_calls::store_closed` meets its contract: each way by its test. Assumes nothing.
use mathlib.Core.Path.{◌∙◌}
use native.Mathlib.Omega.{arith}
use Rattle.laid.specs.Laid.{upvalues_room, laid_of}
use Rattle.upvalue_calls.specs.UpvalueCalls.{store_closed}
use Rattle.upvalue_calls.proofs.store_closed.Goals as goal

pub returns-then-not-is_sound : goal.returns-then-not-is_sound
unfolding store_closed
returns-then-not-is_sound c = rw (← c.is_sound.ensures, c.if-not-is_sound.true)

pub set_closed-requires : goal.set_closed-requires
set_closed-requires c = c.requires.p_in_bounds

pub set_upvalue_value-requires : goal.set_upvalue_value-requires
set_upvalue_value-requires c = omega (arith, c.requires.p_in_bounds, c.set_closed.auto.w)

pub shade-c-requires : goal.shade-c-requires
shade-c-requires c = rw c.upvalues_of.ensures (upvalues_room _ _ (laid_of _ c.args.l.fits) (omega (arith, c.requires.l_in_bounds, c.set_closed.auto.w, c.set_upvalue_value.auto.w)))

pub barrier_forward-requires : goal.barrier_forward-requires
barrier_forward-requires c = record { l_in_bounds = omega (arith, c.requires.l_in_bounds, c.set_closed.auto.w, c.set_upvalue_value.auto.w) }

pub shape_of-w : goal.shape_of-w
shape_of-w c = c.barrier_forward.auto.w ∙ c.set_upvalue_value.auto.w ∙ c.set_closed.auto.w

pub returns : goal.returns
unfolding store_closed
returns c = rw (← c.is_sound.ensures, c.if-not-is_sound.false, ← c.set_closed.ensures, ← c.set_upvalue_value.ensures, ← (rw c.upvalues_of.ensures at c.shade-c.ensures), ← c.barrier_forward.ensures)
