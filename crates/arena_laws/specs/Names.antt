-- What a handle names: it names an occupied slot of its generation below the fresh index, or nothing. Assumes nothing.
use Rattle.std.specs.Prelude.{◌≡◌, refl, ◌⊎◌, ◌≢◌, List, ℕ, ◌≤◌, ◌<◌, Some, None, Option}
use Rattle.std.proofs.Math.Path.{sym, ap₂}
use Rattle.std.proofs.Common.{◌∙◌, inl, inr, arith}
use Rattle.std.proofs.Math.Logic.{⊎_elim}
use Rattle.std.proofs.Math.Decide.{ℕ_discrete}
use Rattle.base.specs.Ways.{if_eq, le_yes, le_no, eq_yes, eq_no}
use Rattle.arena.specs.Slots.{colour, gen, used, named}
use Rattle.arena.specs.declared.Arena.{Arena}
use Rattle.arena_laws.specs.Words.{le_or_lt}

-- what a handle of a slot below the fresh index names, by the slot's generation and colour
abbrev pub seen : ℕ → ℕ → ℕ → ℕ → Option ℕ
seen i g x c = if_eq x g (if_eq c 0 None (Some i)) None

module _ (a : Arena) (i g : ℕ) (w : List ℕ) where
  -- no index from the fresh index on names a slot
  pub named_past : used a w ≤ i → named a i g w ≡ None
  unfolding named
  named_past h = sym (le_yes (used a w) i None (seen i g (gen a i w) (colour a i w)) None h refl)

  -- below it, generation and colour tell
  pub named_in : i < used a w → named a i g w ≡ seen i g (gen a i w) (colour a i w)
  unfolding named
  named_in h = sym (le_no (used a w) i None (seen i g (gen a i w) (colour a i w)) _ h refl)

  seen_old : (x c : ℕ) → x ≢ g → seen i g x c ≡ None
  seen_old x c h = sym (eq_no x g (if_eq c 0 None (Some i)) None None h refl)

  seen_free : (x c : ℕ) → c ≡ 0 → seen i g x c ≡ None
  seen_free x c h = go (ℕ_discrete x g)
    where
      go : Dec (x ≡ g) → seen i g x c ≡ None
      go (yes e) = sym (eq_yes x g (if_eq c 0 None (Some i)) None None e (eq_yes c 0 None (Some i) None h refl))
      go (no e) = seen_old x c e

  seen_at : (x c : ℕ) → x ≡ g → c ≢ 0 → seen i g x c ≡ Some i
  seen_at x c e h = sym (eq_yes x g (if_eq c 0 None (Some i)) None (Some i) e (eq_no c 0 None (Some i) (Some i) h refl))

  -- a handle of another generation names nothing
  pub named_old : gen a i w ≢ g → named a i g w ≡ None
  named_old h = ⊎_elim (λ p. named_past p) (λ p. named_in p ∙ seen_old (gen a i w) (colour a i w) h) (le_or_lt (used a w) i)

  -- a handle of a free slot names nothing
  pub named_free : colour a i w ≡ 0 → named a i g w ≡ None
  named_free h = ⊎_elim (λ p. named_past p) (λ p. named_in p ∙ seen_free (gen a i w) (colour a i w) h) (le_or_lt (used a w) i)

  -- a handle of an occupied slot of its generation names it
  pub named_at : i < used a w → gen a i w ≡ g → colour a i w ≢ 0 → named a i g w ≡ Some i
  named_at h e n = named_in h ∙ seen_at (gen a i w) (colour a i w) e n

  -- what a handle that names a slot tells
  pub record Names : Type 0 where
    pub below : i < used a w
    pub gen : gen a i w ≡ g
    pub occupied : colour a i w ≢ 0

  not_both : named a i g w ≡ Some i → named a i g w ≡ None → ⊥
  not_both p q = let z : ◌≡◌ {A = ℕ} 0 1 = cc in omega arith

  -- it tells this
  pub named_tells : named a i g w ≡ Some i → Names
  named_tells e = record {
    below = ⊎_elim (λ p. absurd (not_both e (named_past p))) (λ p. p) (le_or_lt (used a w) i);
    gen = go (ℕ_discrete (gen a i w) g);
    occupied = λ z. not_both e (named_free z);
  }
    where
      go : Dec (gen a i w ≡ g) → gen a i w ≡ g
      go (yes p) = p
      go (no p) = absurd (not_both e (named_old p))

  -- a handle names its slot or nothing
  pub named_either : (named a i g w ≡ Some i) ⊎ (named a i g w ≡ None)
  named_either = ⊎_elim (λ p. inr (named_past p)) (λ p. go p (ℕ_discrete (gen a i w) g) (ℕ_discrete (colour a i w) 0)) (le_or_lt (used a w) i)
    where
      go : i < used a w → Dec (gen a i w ≡ g) → Dec (colour a i w ≡ 0) → (named a i g w ≡ Some i) ⊎ (named a i g w ≡ None)
      go p (no q) d = inr (named_old q)
      go p (yes q) (yes z) = inr (named_free z)
      go p (yes q) (no z) = inl (named_at p q z)

  -- a handle names what it named, where its slot kept generation and colour, or lay past the fresh index and does so still
  pub named_alike : (w' : List ℕ)
      → ((used a w ≤ i) × (used a w' ≤ i)) ⊎ ((i < used a w) × (i < used a w') × (gen a i w' ≡ gen a i w) × (colour a i w' ≡ colour a i w))
      → named a i g w' ≡ named a i g w
  unfolding named
  named_alike w' h =
      ⊎_elim
      (λ p. sym (le_yes (used a w') i None (seen i g (gen a i w') (colour a i w')) _ p.1 (named_past p.0)))
      (λ p.
      sym (le_no (used a w') i None (seen i g (gen a i w') (colour a i w')) _ p.1 (named_in p.0 ∙ ap₂ (λ (x c : ℕ). seen i g x c) (sym p.2) (sym p.3))))
      h
