-- `make_threads::new_upvalue` meets its contract: the record is written where it was made; a refusal is the answer. Assumes nothing.
use native.Mathlib.Omega.{arith}
use Rattle.std.proofs.lemmas.Result.{err_from_is_err_and}
use Rattle.laid.specs.Laid.{header_room, upvalue_words, upvalues_room, laid_of}
use Rattle.make_threads.specs.Making.{new_upvalue}
use Rattle.make_threads.proofs.new_upvalue.Goals as goal

pub new_object-requires : goal.new_object-requires
new_object-requires c = record { room = rw c.upvalues_of.ensures (upvalues_room _ _ (laid_of _ c.args.l.fits) c.requires.l_in_bounds); in_bounds = rw c.upvalues_of.ensures ((header_room _ c.args.w.now (laid_of _ c.args.l.fits) c.requires.l_in_bounds, omega (arith, upvalue_words _ (laid_of _ c.args.l.fits)), omega arith)) }

pub set_closed-requires : goal.set_closed-requires
set_closed-requires c = omega (arith, (rw c.in_ok-i.was at (rw c.upvalues_of.ensures at c.new_object.ensures).1).1, upvalue_words _ (laid_of _ c.args.l.fits), c.new_object.auto.w)

pub set_upvalue_value-requires : goal.set_upvalue_value-requires
set_upvalue_value-requires c = omega (arith, (rw c.in_ok-i.was at (rw c.upvalues_of.ensures at c.new_object.ensures).1).1, upvalue_words _ (laid_of _ c.args.l.fits), c.new_object.auto.w, c.set_closed.auto.w)

pub returns : goal.returns
unfolding new_upvalue
returns c = rw (← (rw c.upvalues_of.ensures at c.new_object.ensures).0, c.in_ok-i.was, ← c.set_closed.ensures, ← c.set_upvalue_value.ensures)

pub returns-in_err-i : goal.returns-in_err-i
unfolding new_upvalue
returns-in_err-i c = let p = err_from_is_err_and c.from_residual.result c.from_residual.ensures.1 in rw (← (rw c.upvalues_of.ensures at c.new_object.ensures).0, c.in_err-i.was, p.1, p.2)
