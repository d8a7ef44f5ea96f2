-- How many steps there can be, and one step of the loop by the definition. Assumes nothing.
--     gray_most, slots_most     what a planned layout gives
--     Steps                     the invariant: what is left of the steps gives the whole, and the words stay as many
--     all_first                 no step is made yet
--     all_stops, all_goes       a step that finds nothing gray, and any other
--     all_over                  no step is left
use mathlib.Core.Path.{◌≡◌, refl, sym, ap, ◌∙◌}
use mathlib.Core.Bool.{Bool, true, false, not}
use mathlib.Core.List.{List}
use Prim.Native.Nat.{ℕ, zero, suc, ◌+◌, ◌-◌, ◌≤◌, ◌<◌}
use native.Mathlib.Omega.{arith}
use lib.ListN.{length}
use Rattle.layout.specs.declared.Lay.{Lay}
use Rattle.laid.specs.Laid.{Laid}
use Rattle.mark.specs.Ops.{Ops}
use Rattle.mark.specs.Words.{ops}
use Rattle.propagate.specs.declared.Propagated.{Propagated}
use Rattle.propagate.specs.Propagation.{goes_on, propagate_one, propagate_for}

pub gray_most : (l : Lay) → Laid l → l.gray.room ≤ 12289
unfolding Laid
gray_most l ok = ok.gray.room

pub slots_most : (l : Lay) → Laid l → (l.tables.slots ≤ 4096) × (l.functions.slots ≤ 4096) × (l.threads.slots ≤ 4096)
unfolding Laid
slots_most l ok = (ok.tables.slots, ok.functions.slots, ok.threads.slots)

pub record Steps (l : Lay) (b : List ℕ) (n : ℕ) (w₀ w : List ℕ) (i : ℕ) : Type 0 where
  pub rest : propagate_for (ops l) l b (n - i) w ≡ propagate_for (ops l) l b n w₀
  pub long : length w ≡ length w₀

-- the code tests the denial
was_false : (g : Bool) → not g ≡ true → g ≡ false
was_false true e = sym e
was_false false e = refl

was_true : (g : Bool) → not g ≡ false → g ≡ true
was_true true e = refl
was_true false e = sym e

module _ {S : Type 0} (O : Ops S) (l : Lay) (b : List ℕ) where
  stops : (n : ℕ) (s : S) (p : Propagated) (u : S) → (p, u) ≡ propagate_one O l b s → goes_on p ≡ false → u ≡ propagate_for O l b (suc n) s
  unfolding propagate_for
  stops n s p u q e = rw (← q, e)

  goes : (n : ℕ) (s : S) (p : Propagated) (u : S) → (p, u) ≡ propagate_one O l b s → goes_on p ≡ true → propagate_for O l b n u ≡ propagate_for O l b (suc n) s
  unfolding propagate_for
  goes n s p u q e = rw (← q, e)

  -- at step i of n
  pub all_first : (n : ℕ) (s : S) → propagate_for O l b (n - 0) s ≡ propagate_for O l b n s
  all_first n s =
      let k : n - 0 ≡ n = omega arith in
      ap (λ (m : ℕ). propagate_for O l b m s) k

  pub all_stops : (n i : ℕ) (s : S) {p : Propagated} {u : S} {g : Bool} → i < n → (p, u) ≡ propagate_one O l b s → g ≡ goes_on p → not g ≡ true → u ≡ propagate_for O l b (n - i) s
  all_stops n i s {p} {u} {g} h q e d =
      let k : suc (n - (i + 1)) ≡ n - i = omega arith in
      stops (n - (i + 1)) s p u q (sym e ∙ was_false g d) ∙ ap (λ (m : ℕ). propagate_for O l b m s) k

  pub all_goes : (n i : ℕ) (s : S) {p : Propagated} {u : S} {g : Bool} → i < n → (p, u) ≡ propagate_one O l b s → g ≡ goes_on p → not g ≡ false → propagate_for O l b (n - (i + 1)) u ≡ propagate_for O l b (n - i) s
  all_goes n i s {p} {u} {g} h q e d =
      let k : suc (n - (i + 1)) ≡ n - i = omega arith in
      goes (n - (i + 1)) s p u q (sym e ∙ was_true g d) ∙ ap (λ (m : ℕ). propagate_for O l b m s) k

  pub all_over : (n i : ℕ) (s : S) → n ≤ i → s ≡ propagate_for O l b (n - i) s
  unfolding propagate_for
  all_over n i s h =
      let k : zero ≡ n - i = omega arith in
      ap (λ (m : ℕ). propagate_for O l b m s) k
