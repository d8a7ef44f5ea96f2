-- `closures::new_closure` meets its contract: the record is written where it was made; a refusal is the answer. Assumes nothing.
use native.Mathlib.Omega.{arith}
use Rattle.std.proofs.lemmas.Result.{err_from_is_err_and}
use Rattle.laid.specs.Laid.{function_words, functions_room, header_room, laid_of}
use Rattle.closures.specs.Closures.{new_closure}
use Rattle.closures.proofs.new_closure.Goals as goal

pub new_object-requires : goal.new_object-requires
new_object-requires c = record { room = rw c.functions_of.ensures (functions_room _ _ (laid_of _ c.args.l.fits) c.requires.l_in_bounds); in_bounds = rw c.functions_of.ensures ((header_room _ c.args.w.now (laid_of _ c.args.l.fits) c.requires.l_in_bounds, omega (arith, c.closure_extent-extent.ensures.1, function_words _ (laid_of _ c.args.l.fits)), omega (arith, c.closure_extent-extent.ensures.1))) }

pub put_head-requires : goal.put_head-requires
put_head-requires c = record { p_in_bounds = omega (arith, (rw c.in_ok-i.was at (rw c.functions_of.ensures at c.new_object.ensures).1).1, function_words _ (laid_of _ c.args.l.fits), c.new_object.auto.w); proto_bound = c.requires.proto_bound }

pub returns : goal.returns
unfolding new_closure
returns c = (rw (← c.closure_extent-extent.ensures.0, ← (rw c.functions_of.ensures at c.new_object.ensures).0, c.in_ok-i.was, ← c.put_head.ensures), rw c.in_ok-i.was at (rw c.functions_of.ensures at c.new_object.ensures).1)

pub returns-in_err-i : goal.returns-in_err-i
unfolding new_closure
returns-in_err-i c = let p = err_from_is_err_and c.from_residual.result c.from_residual.ensures.1 in rw (p.1, p.2) ((rw (← c.closure_extent-extent.ensures.0, ← (rw c.functions_of.ensures at c.new_object.ensures).0, c.in_err-i.was), tt))
