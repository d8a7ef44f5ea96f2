-- What the colour of a handle says of it. Assumes nothing.
--     shade_in, named_in, white_in     a handle with a colour, and so a white one, has an index below the slots
use Rattle.std.specs.Prelude.{◌≡◌, refl, ◌≢◌, Bool, true, List as Words, ℕ, zero, suc, ◌<◌}
use Rattle.std.proofs.Common.{sym, ◌∙◌, true≢false, arith}
use Rattle.std.proofs.Math.Decide.{dec_lt}
use Rattle.base.specs.Ways.{if_eq, le_yes}
use Rattle.arena.specs.declared.Arena.{Arena}
use Rattle.arena.specs.Slots.{used, gen, colour}
use Rattle.mark.specs.Ops.{is_white}
use Rattle.mark.specs.Words.{shade}

-- A handle that has a colour has an index below the slots.
pub shade_in : (a : Arena) (i g : ℕ) (w : Words ℕ) → shade a i g w ≢ 0 → i < a.slots
unfolding shade
shade_in a i g w d = go (dec_lt i (used a w))
  where
    go : Dec (i < used a w) → i < a.slots
    go (yes h) = omega arith
    go (no h) = absurd (d (sym (le_yes (used a w) i 0 (if_eq (gen a i w) g (colour a i w) 0) 0 (omega arith) refl)))

-- the same of the answer of a call, at a test for 0 and at a test for white
pub named_in : (a : Arena) (i g : ℕ) (w : Words ℕ) {c : ℕ} → c ≡ shade a i g w → c ≢ 0 → i < a.slots
named_in a i g w e d = shade_in a i g w (λ z. d (e ∙ z))

white_named : (c : ℕ) → is_white c ≡ true → c ≢ 0
unfolding is_white
white_named zero e z = true≢false (sym e)
white_named (suc c) e z = omega arith

pub white_in : (a : Arena) (i g : ℕ) (w : Words ℕ) {c : ℕ} {b : Bool} → c ≡ shade a i g w → b ≡ is_white c → b ≡ true → i < a.slots
white_in a i g w {c} e f t = named_in a i g w e (white_named c (sym f ∙ t))
