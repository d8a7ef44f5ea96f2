-- `closures::new_rust` meets its contract: the record is written where it was made; a refusal is the answer. Assumes nothing.
use native.Mathlib.Omega.{arith}
use Rattle.std.proofs.lemmas.Result.{err_from_is_err_and}
use Rattle.laid.specs.Laid.{function_words, laid_of}
use Rattle.closures.specs.Closures.{new_rust}
use Rattle.closures.proofs.new_rust.Goals as goal

pub overflow_add-p : goal.overflow_add-p
overflow_add-p c = omega (arith, (rw c.in_ok-i.was at c.new_closure.ensures.1).1, function_words _ (laid_of _ c.args.l.fits))

pub put_values-requires : goal.put_values-requires
put_values-requires c = (omega (arith, (rw c.in_ok-i.was at c.new_closure.ensures.1).1, function_words _ (laid_of _ c.args.l.fits), c.new_closure.auto.w, c.requires.s_len_bound), omega arith)

pub returns : goal.returns
unfolding new_rust
returns c = rw (← c.new_closure.ensures.0, c.in_ok-i.was, ← c.put_values.ensures)

pub returns-in_err-i : goal.returns-in_err-i
unfolding new_rust
returns-in_err-i c = let p = err_from_is_err_and c.from_residual.result c.from_residual.ensures.1 in rw (← c.new_closure.ensures.0, c.in_err-i.was, p.1, p.2)
