-- `make_closures::rust_in` meets its contract: each way by its test. Assumes nothing.
use mathlib.Core.Path.{◌∙◌, sym}
use lib.ListN.{length}
use Rattle.make_closures.specs.Making.{rust_in, values_most}
use Rattle.make_closures.proofs.rust_in.Goals as goal

pub returns-then-not-values_fit : goal.returns-then-not-values_fit
unfolding rust_in
returns-then-not-values_fit c = rw (← c.values_fit.ensures, c.if-not-values_fit.true)

pub new_rust-requires : goal.new_rust-requires
new_rust-requires c = record { l_in_bounds = c.requires.l_in_bounds; s_len_bound = values_most (length c.args.s.now) (sym c.values_fit.ensures ∙ c.if-not-values_fit.false) }

pub returns-then-rust_sound : goal.returns-then-rust_sound
unfolding rust_in
returns-then-rust_sound c = rw (← c.values_fit.ensures, c.if-not-values_fit.false, ← c.rust_sound.ensures, c.if-rust_sound.true) c.new_rust.ensures

pub returns-else-rust_sound : goal.returns-else-rust_sound
unfolding rust_in
returns-else-rust_sound c = rw (← c.values_fit.ensures, c.if-not-values_fit.false, ← c.rust_sound.ensures, c.if-rust_sound.false)
