-- `make_strings::new_string` meets its contract: the record and the bytes are written where it was made; a refusal is the answer. Assumes nothing.
use native.Mathlib.Omega.{arith}
use Rattle.std.proofs.lemmas.Result.{err_from_is_err_and}
use Rattle.laid.specs.Laid.{header_room, string_words, strings_room, text_bytes, laid_of}
use Rattle.make_strings.specs.Making.{new_string}
use Rattle.make_strings.proofs.new_string.Goals as goal

pub new_object-requires : goal.new_object-requires
new_object-requires c = record { room = rw c.strings_of.ensures (strings_room _ _ (laid_of _ c.args.l.fits) c.requires.l_in_bounds); in_bounds = rw c.strings_of.ensures ((header_room _ c.args.w.now (laid_of _ c.args.l.fits) c.requires.l_in_bounds, omega (arith, string_words _ (laid_of _ c.args.l.fits)), omega arith)) }

pub set_string_length-requires : goal.set_string_length-requires
set_string_length-requires c = record { p_in_bounds = omega (arith, (rw c.in_ok-i.was at (rw c.strings_of.ensures at c.new_object.ensures).1).1, string_words _ (laid_of _ c.args.l.fits), c.new_object.auto.w); n_bound = c.requires.s_len_bound }

pub put_text-requires : goal.put_text-requires
put_text-requires c = record { i_in_bounds = omega (arith, (rw c.in_ok-i.was at (rw c.strings_of.ensures at c.new_object.ensures).1).0, c.wide.ensures.0, text_bytes _ (laid_of _ c.args.l.fits), c.requires.l_in_bounds_2); s_len_bound = c.requires.s_len_bound }

pub returns : goal.returns
unfolding new_string
returns c = rw (← (rw c.strings_of.ensures at c.new_object.ensures).0, c.in_ok-i.was, ← c.set_string_length.ensures, ← (rw c.wide.ensures.0 at c.put_text.ensures))

pub returns-in_err-i : goal.returns-in_err-i
unfolding new_string
returns-in_err-i c = let p = err_from_is_err_and c.from_residual.result c.from_residual.ensures.1 in rw (← (rw c.strings_of.ensures at c.new_object.ensures).0, c.in_err-i.was, p.1, p.2)
