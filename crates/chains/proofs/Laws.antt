-- The walk along a chain, a step at a time: what is left of it answers what the whole does. Assumes nothing.
--     leads_start                            before the first step
--     leads_again, leads_stop, leads_end     a step to a free slot; a step to none; after the last
--     free_none, free_past, free_at          the three ways of a stored word: none, past the fresh index, a slot below it
--     occupied_most                          no more slots are occupied than lie below the fresh index
use mathlib.Core.Path.{◌≡◌, ap, ◌∙◌}
use mathlib.Core.Bool.{Bool, true, false}
use mathlib.Core.List.{List}
use Prim.Native.Nat.{ℕ, zero, suc, ◌+◌, ◌-◌, ◌≤◌, ◌<◌}
use native.Mathlib.Omega.{arith}
use lib.Dec.{eqb}
use borrow.Author.Tests.{lt-ltb, le-ltb}
use Rattle.arena.specs.Slots.{colour, link, used, occupied}
use Rattle.arena.specs.declared.Arena.{Arena}
use Rattle.arena_laws.specs.Counts.{tally_most, colours, occupied_is}
use Rattle.chains.specs.Chains.{names_free, leads}

pub occupied_most : (a : Arena) (w : List ℕ) → occupied a w ≤ used a w
occupied_most a w = omega (arith, occupied_is a w, tally_most (colours a w) (used a w) 0)

module _ (a : Arena) (w : List ℕ) where
  module _ (x : ℕ) where
    pub free_none : x ≡ 0 → false ≡ names_free a w x
    unfolding names_free
    free_none h = rw (le-ltb 0 x (omega arith))

    pub free_past : 0 < x → used a w ≤ x - 1 → false ≡ names_free a w x
    unfolding names_free
    free_past h l = rw (lt-ltb 0 x h, le-ltb (x - 1) (used a w) l)

    pub free_at : (i : ℕ) → 0 < x → i ≡ x - 1 → i < used a w → eqb (colour a i w) 0 ≡ names_free a w x
    unfolding names_free
    free_at i h e l = rw (lt-ltb 0 x h, lt-ltb (x - 1) (used a w) (omega arith), e)

  pub leads_start : (n m x y : ℕ) → n ≡ m → x ≡ y → leads a w (n - 0) x ≡ leads a w m y
  leads_start n m x y e f =
      let q : n - 0 ≡ m = omega arith in
      rw (q, f)

  module _ (n k x : ℕ) {r : Bool} (rest : leads a w (n - k) x ≡ r) where
    step : k < n → leads a w (suc (n - (k + 1))) x ≡ r
    step h =
        let q : suc (n - (k + 1)) ≡ n - k = omega arith in
        ap (λ (i : ℕ). leads a w i x) q ∙ rest

    pub leads_again : k < n → names_free a w x ≡ true → leads a w (n - (k + 1)) (link a (x - 1) w) ≡ r
    unfolding leads
    leads_again h e = rw e at (step h)

    pub leads_stop : k < n → names_free a w x ≡ false → false ≡ r
    unfolding leads
    leads_stop h e = rw e at (step h)

    pub leads_end : n ≤ k → eqb x 0 ≡ r
    unfolding leads
    leads_end h =
        let q : zero ≡ n - k = omega arith in
        ap (λ (i : ℕ). leads a w i x) q ∙ rest
