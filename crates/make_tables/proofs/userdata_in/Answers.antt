-- `make_tables::userdata_in` meets its contract: the record is written where it was made; a refusal is the answer. Assumes nothing.
use native.Mathlib.Omega.{arith}
use Rattle.std.proofs.lemmas.Result.{err_from_is_err_and}
use Rattle.laid.specs.Laid.{header_room, userdata_room, userdata_words, laid_of}
use Rattle.make_tables.specs.Making.{userdata_in}
use Rattle.make_tables.proofs.userdata_in.Goals as goal

pub new_object-requires : goal.new_object-requires
new_object-requires c = record { room = rw c.userdata_of.ensures (userdata_room _ _ (laid_of _ c.args.l.fits) c.requires.l_in_bounds); in_bounds = rw c.userdata_of.ensures ((header_room _ c.args.w.now (laid_of _ c.args.l.fits) c.requires.l_in_bounds, omega (arith, userdata_words _ (laid_of _ c.args.l.fits)), omega arith)) }

pub get64-number-requires : goal.get64-number-requires
get64-number-requires c = omega (arith, header_room _ c.args.w.now (laid_of _ c.args.l.fits) c.requires.l_in_bounds, c.new_object.auto.w)

pub set_ud_creation-requires : goal.set_ud_creation-requires
set_ud_creation-requires c = omega (arith, (rw c.in_ok-i.was at (rw c.userdata_of.ensures at c.new_object.ensures).1).1, userdata_words _ (laid_of _ c.args.l.fits), c.new_object.auto.w)

pub put64-requires : goal.put64-requires
put64-requires c = omega (arith, header_room _ c.args.w.now (laid_of _ c.args.l.fits) c.requires.l_in_bounds, c.new_object.auto.w, c.set_ud_creation.auto.w)

pub returns : goal.returns
unfolding userdata_in
returns c = rw (← (rw c.userdata_of.ensures at c.new_object.ensures).0, c.in_ok-i.was, ← c.get64-number.ensures, ← c.set_ud_creation.ensures, ← c.add_sat.ensures, ← c.put64.ensures)

pub returns-in_err-i : goal.returns-in_err-i
unfolding userdata_in
returns-in_err-i c = let p = err_from_is_err_and c.from_residual.result c.from_residual.ensures.1 in rw (← (rw c.userdata_of.ensures at c.new_object.ensures).0, c.in_err-i.was, p.1, p.2)
