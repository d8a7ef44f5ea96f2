-- What the colour of a handle says. Assumes nothing.
--     shade_most, shade_parts     no colour is more than 4; a handle with a colour names a slot, and has the colour of it
--     shade_is                    the other way round
--     shade_same                  the colour stays where the fresh index, the generation and the colour's word stay
--     shade_past, shade_stale     no colour past the fresh index, none for another generation
--     named_shade                 a handle names its slot exactly if it has a colour
--     white_true, white_false, not_white     the whites are 1 and 2
use Rattle.std.specs.Prelude.{◌≡◌, Bool, List as Words, ◌≢◌, ℕ, zero, suc, ◌+◌, ◌≤◌, ◌<◌, Some, None}
use Rattle.std.proofs.Math.Path.{refl, sym}
use Rattle.std.proofs.Math.Bool.{true, false, cond}
use Rattle.std.proofs.Common.{true≢false}
use native.Mathlib.Omega.{arith}
use Rattle.std.proofs.Math.Dec.{leb, eqb}
use borrow.Author.Tests.{leb-true, leb-false, eqb-true, eqb-false}
use Rattle.base.specs.Ways.{if_le, if_eq, le_yes}
use Rattle.base.specs.Words.{at}
use Rattle.arena.specs.declared.Arena.{Arena}
use Rattle.arena.specs.Slots.{used, gen, colour, named}
use Rattle.mark.specs.Ops.{is_white}
use Rattle.mark.specs.Words.{shade}

module _ (a : Arena) (i g : ℕ) (w : Words ℕ) where
  -- No colour is more than 4.
  pub shade_most : shade a i g w ≤ 4
  unfolding shade if_le if_eq
  shade_most = go (leb (used a w) i) (eqb (gen a i w) g) (leb (at w (a.base + i)) 4) refl
    where
      go : (x y z : Bool) → leb (at w (a.base + i)) 4 ≡ z → cond x 0 (cond y (cond z (at w (a.base + i)) 0) 0) ≤ 4
      go true y z e = omega arith
      go false true true e = leb-true _ _ e
      go false true false e = omega arith
      go false false z e = omega arith

  -- A handle that has a colour has an index below the fresh one, the slot's generation, and the colour that stands there.
  pub shade_parts : 1 ≤ shade a i g w → (i < used a w) × (gen a i w ≡ g) × (shade a i g w ≡ at w (a.base + i))
  unfolding shade if_le if_eq
  shade_parts h = go (leb (used a w) i) (eqb (gen a i w) g) (leb (at w (a.base + i)) 4) refl refl h
    where
      go : (x y z : Bool) → leb (used a w) i ≡ x → eqb (gen a i w) g ≡ y → 1 ≤ cond x 0 (cond y (cond z (at w (a.base + i)) 0) 0)
          → (i < used a w) × (gen a i w ≡ g) × (cond x 0 (cond y (cond z (at w (a.base + i)) 0) 0) ≡ at w (a.base + i))
      go true y z e f k = absurd (let n : ⊥ = omega arith in n)
      go false true true e f k = (leb-false _ _ e, eqb-true _ _ f, refl)
      go false true false e f k = absurd (let n : ⊥ = omega arith in n)
      go false false z e f k = absurd (let n : ⊥ = omega arith in n)

  -- and so the other way round
  pub shade_is : i < used a w → gen a i w ≡ g → at w (a.base + i) ≤ 4 → shade a i g w ≡ at w (a.base + i)
  unfolding shade if_le if_eq
  shade_is h e k = go (leb (used a w) i) (eqb (gen a i w) g) (leb (at w (a.base + i)) 4) refl refl refl
    where
      go : (x y z : Bool) → leb (used a w) i ≡ x → eqb (gen a i w) g ≡ y → leb (at w (a.base + i)) 4 ≡ z
          → cond x 0 (cond y (cond z (at w (a.base + i)) 0) 0) ≡ at w (a.base + i)
      go true y z p q t = absurd (let n : ⊥ = omega (arith, leb-true (used a w) i p) in n)
      go false false z p q t = absurd (eqb-false _ _ q e)
      go false true true p q t = refl
      go false true false p q t = absurd (let n : ⊥ = omega (arith, leb-false (at w (a.base + i)) 4 t) in n)

  -- no colour from the fresh index on, and none for another generation
  pub shade_past : used a w ≤ i → shade a i g w ≡ 0
  unfolding shade
  shade_past h = sym (le_yes (used a w) i 0 (if_eq (gen a i w) g (colour a i w) 0) 0 h refl)

  -- none for another generation
  pub shade_stale : gen a i w ≢ g → shade a i g w ≡ 0
  shade_stale d = go (shade a i g w) refl
    where
      go : (c : ℕ) → shade a i g w ≡ c → shade a i g w ≡ 0
      go zero e = e
      go (suc c) e = absurd (d (shade_parts (omega (arith, e))).1)

  -- A handle names the slot exactly if it has a colour.
  pub named_shade : named a i g w ≡ if_eq (shade a i g w) 0 None (Some i)
  unfolding named shade if_le if_eq
  named_shade = go (leb (used a w) i) (eqb (gen a i w) g) (leb (at w (a.base + i)) 4)
    where
      go : (x y z : Bool) → cond x None (cond y (cond (eqb (cond z (at w (a.base + i)) 0) 0) None (Some i)) None)
          ≡ cond (eqb (cond x 0 (cond y (cond z (at w (a.base + i)) 0) 0)) 0) None (Some i)
      go true y z = refl
      go false true z = refl
      go false false z = refl

-- The colour stays where the fresh index, the generation and the colour's word stay.
pub shade_same : (a : Arena) (i g : ℕ) (w u : Words ℕ) → used a u ≡ used a w → gen a i u ≡ gen a i w → at u (a.base + i) ≡ at w (a.base + i) → shade a i g u ≡ shade a i g w
unfolding shade
shade_same a i g w u e f h = rw (e, f, h)

-- what is white has colour 1 or 2
pub white_true : (c : ℕ) → is_white c ≡ true → (1 ≤ c) × (c ≤ 2)
unfolding is_white
white_true c e = go (eqb c 1) (eqb c 2) refl refl e
  where
    go : (x y : Bool) → eqb c 1 ≡ x → eqb c 2 ≡ y → cond x true y ≡ true → (1 ≤ c) × (c ≤ 2)
    go true y p q t = (omega (arith, eqb-true c 1 p), omega (arith, eqb-true c 1 p))
    go false true p q t = (omega (arith, eqb-true c 2 q), omega (arith, eqb-true c 2 q))
    go false false p q t = absurd (true≢false (sym t))

-- and what is not white has none, or 3 and more
pub white_false : (c : ℕ) → is_white c ≡ false → 1 ≤ c → 3 ≤ c
unfolding is_white
white_false c e h = go (eqb c 1) (eqb c 2) refl refl e
  where
    go : (x y : Bool) → eqb c 1 ≡ x → eqb c 2 ≡ y → cond x true y ≡ false → 3 ≤ c
    go true y p q t = absurd (true≢false t)
    go false true p q t = absurd (true≢false t)
    go false false p q t = omega (arith, eqb-false c 1 p, eqb-false c 2 q)

-- a colour that is none, or 3 and more, is not white
pub not_white : (c : ℕ) → (c ≡ 1 → ⊥) → (c ≡ 2 → ⊥) → is_white c ≡ false
unfolding is_white
not_white c f g = go (eqb c 1) (eqb c 2) refl refl
  where
    go : (x y : Bool) → eqb c 1 ≡ x → eqb c 2 ≡ y → cond x true y ≡ false
    go true y p q = absurd (f (eqb-true _ _ p))
    go false true p q = absurd (g (eqb-true _ _ q))
    go false false p q = refl
