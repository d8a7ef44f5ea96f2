-- Two sequences of calls from one heap, with other budgets and in another order, give the same outcome. Assumes nothing.
--     falling_same           a falling list is known by what it holds
--     Alike, outcome_alike   one arena of two heaps, and that two outcomes from one heap have it so
--     planned_same           two sequences of calls
use Rattle.std.specs.Prelude.{◌≡◌, refl, ◌⊎◌, ◌≢◌, ◌↔◌, ℕ, ◌+◌, ◌*◌, ◌≤◌, ◌<◌, length}
use Rattle.std.proofs.Common.{sym, subst, ap, ◌∙◌, inl, inr, ⊎_elim, arith}
use mathlib.Core.List.Memᴰ
use mathlib.Core.List.{List, [], ◌∷◌, ◌++◌, Memᴰ}
use Rattle.std.proofs.Math.Decide.{ℕ_discrete, dec_lt}
use Rattle.base.specs.Words.{at}
use Rattle.base.specs.Heap.{Heap, heap}
use Rattle.arena.specs.Slots.{colour, gen, fresh}
use Rattle.arena_laws.specs.Chain.{Falling}
use Rattle.layout.specs.declared.Sizes.{Sizes}
use Rattle.layout.specs.declared.Lay.{Lay}
use Rattle.layout.specs.Sizes.{SizesOk}
use Rattle.layout.specs.Layout.{lay_of}
use Rattle.layout.specs.Places.{PHASE, WHITE}
use Rattle.lists.specs.Lists.{damage, length_of}
use Rattle.mark.specs.Words.{arena_of, colour_w}
use Rattle.reach.specs.Reached.{Occupied}
use Rattle.reach.specs.Cycle.{AllWhite}
use Rattle.atomic_laws.proofs.Dues.{shade_colour}
use Rattle.sweep_laws.specs.Turns.{Arenas}
use Rattle.sweep_laws.specs.Collections.{slot_at, Freed}
use Rattle.sweep_laws.specs.Mixtures.{Outcome}
use Rattle.sweep_laws.proofs.Outcomes.{listed}
use Rattle.pace_laws.specs.Budgets.{Call, calls, planned_calls}

-- A falling list is known by what it holds.
pub falling_same : (xs ys : List ℕ) → Falling xs → Falling ys → ((i : ℕ) → Memᴰ i xs ↔ Memᴰ i ys) → xs ≡ ys
falling_same [] [] f g h = refl
falling_same [] (y ∷ ys) f g h = absurd (Memᴰ.not-nil ((h y).1 (Memᴰ.head refl)))
falling_same (x ∷ xs) [] f g h = absurd (Memᴰ.not-nil ((h x).0 (Memᴰ.head refl)))
falling_same (x ∷ xs) (y ∷ ys) f g h =
    ap (λ (z : ℕ). z ∷ xs) first
    ∙ ap (λ (zs : List ℕ). y ∷ zs) (falling_same xs ys f.1 g.1
    (λ i. (λ m. rest (λ j k. f.0 j k) first i m (Memᴰ.cases_cons ((h i).0 (Memᴰ.tail m))), λ m. rest (λ j k. g.0 j k) (sym first) i m (Memᴰ.cases_cons ((h i).1 (Memᴰ.tail m))))))
  where
    first : x ≡ y
    first = go (Memᴰ.cases_cons ((h x).0 (Memᴰ.head refl))) (Memᴰ.cases_cons ((h y).1 (Memᴰ.head refl)))
      where
        go : (x ≡ y) ⊎ Memᴰ x ys → (y ≡ x) ⊎ Memᴰ y xs → x ≡ y
        go (inl e) k = e
        go (inr m) (inl e) = sym e
        go (inr m) (inr n) = absurd (let p = g.0 x m in let q = f.0 y n in let z : ⊥ = omega (arith, p, q) in z)

    rest : {p q : ℕ} {ps qs : List ℕ} → ((j : ℕ) → Memᴰ j ps → j < p) → p ≡ q → (i : ℕ) → Memᴰ i ps → (i ≡ q) ⊎ Memᴰ i qs → Memᴰ i qs
    rest {p} {q} f e i m (inl z) = absurd (let k = f i m in let y : ⊥ = omega (arith, k, e, z) in y)
    rest f e i m (inr k) = k

-- Arena k of two heaps after a collection from the words w: the same slots are freed, in the same order, the chain is the same, and every
-- slot has the same colour, generation and bytes; the records of those freed are zero as sized in both.
pub record Alike (l : Lay) (w b : List ℕ) (k : ℕ) (before : List ℕ) (g₁ g₂ h₁ h₂ : Heap) (x₁ : Freed l w b k before g₁ h₁) (x₂ : Freed l w b k before g₂ h₂) : Type 0 where
  pub gone : x₁.gone ≡ x₂.gone
  pub chain : x₁.keeps.free ≡ x₂.keeps.free
  pub end : fresh (arena_of l k) h₁.words ≡ fresh (arena_of l k) h₂.words
  pub colours : (i : ℕ) → i < (arena_of l k).slots → colour (arena_of l k) i h₁.words ≡ colour (arena_of l k) i h₂.words
  pub gens : (i : ℕ) → i < (arena_of l k).slots → gen (arena_of l k) i h₁.words ≡ gen (arena_of l k) i h₂.words
  pub texts : (i j : ℕ) → i < (arena_of l k).slots → j < (arena_of l k).width → at h₁.bytes (i * (arena_of l k).width + j) ≡ at h₂.bytes (i * (arena_of l k).width + j)

module _ (l : Lay) (w b : List ℕ) (v : Arenas l w) (h₁ h₂ : Heap) (x₁ : Outcome l w b v h₁) (x₂ : Outcome l w b v h₂) where
  -- Two outcomes of a collection from one heap.
  pub outcome_alike : (k : ℕ) (i : k ≤ 5) → Alike l w b k (v k i).free x₁.left x₂.left h₁ h₂ (x₁.arenas k i) (x₂.arenas k i)
  outcome_alike k i = record {
    gone = same;
    chain = y₁.chain ∙ ap (λ (xs : List ℕ). xs ++ (v k i).free) same ∙ sym y₂.chain;
    end = y₁.end ∙ sym y₂.end;
    colours = λ j p. painted j p (listed j y₁.gone) (ℕ_discrete (colour (arena_of l k) j w) 0);
    gens = λ j p. aged j p (listed j y₁.gone);
    texts = λ j n p q. written j n p q (listed j y₁.gone);
  }
    where
      y₁ : Freed l w b k (v k i).free x₁.left h₁
      y₁ = x₁.arenas k i

      y₂ : Freed l w b k (v k i).free x₂.left h₂
      y₂ = x₂.arenas k i

      same : y₁.gone ≡ y₂.gone
      same = falling_same y₁.gone y₂.gone y₁.falls y₂.falls (λ j. ((λ m. (y₂.is j).1 ((y₁.is j).0 m)), λ m. (y₁.is j).1 ((y₂.is j).0 m)))

      in_second : (j : ℕ) → Memᴰ j y₁.gone → Memᴰ j y₂.gone
      in_second j m = subst (λ (xs : List ℕ). Memᴰ j xs) same m

      out_second : (j : ℕ) → (Memᴰ j y₁.gone → ⊥) → Memᴰ j y₂.gone → ⊥
      out_second j d m = d (subst (λ (xs : List ℕ). Memᴰ j xs) (sym same) m)

      some : (n m : ℕ) → n ≡ m → m ≢ 0 → 1 ≤ n
      some n m e d = omega (arith, e, d)

      taken : (j : ℕ) → j < (arena_of l k).slots → colour (arena_of l k) j w ≢ 0 → Occupied l w (slot_at l w k j)
      taken j p d = go (dec_lt j (fresh (arena_of l k) w))
        where
          go : Dec (j < fresh (arena_of l k) w) → Occupied l w (slot_at l w k j)
          go (yes q) = some (colour_w l (slot_at l w k j) w) (colour (arena_of l k) j w) (shade_colour (arena_of l k) j (gen (arena_of l k) j w) w (omega (arith, q, p)) refl) d
          go (no q) = absurd (d ((v k i).unused j (omega (arith, q)) p))

      painted : (j : ℕ) → j < (arena_of l k).slots → Dec (Memᴰ j y₁.gone) → Dec (colour (arena_of l k) j w ≡ 0) → colour (arena_of l k) j h₁.words ≡ colour (arena_of l k) j h₂.words
      painted j p (yes m) e = y₁.died j m ∙ sym (y₂.died j (in_second j m))
      painted j p (no d) (yes e) = y₁.idle j p e ∙ sym (y₂.idle j p e)
      painted j p (no d) (no e) = y₁.lives j (taken j p e) d ∙ x₁.white ∙ sym x₂.white ∙ sym (y₂.lives j (taken j p e) (out_second j d))

      aged : (j : ℕ) → j < (arena_of l k).slots → Dec (Memᴰ j y₁.gone) → gen (arena_of l k) j h₁.words ≡ gen (arena_of l k) j h₂.words
      aged j p (yes m) = y₁.aged j m ∙ sym (y₂.aged j (in_second j m))
      aged j p (no d) = y₁.gens j p d ∙ sym (y₂.gens j p (out_second j d))

      written : (j n : ℕ) → j < (arena_of l k).slots → n < (arena_of l k).width → Dec (Memᴰ j y₁.gone) → at h₁.bytes (j * (arena_of l k).width + n) ≡ at h₂.bytes (j * (arena_of l k).width + n)
      written j n p q (yes m) = y₁.erased j n m q ∙ sym (y₂.erased j n (in_second j m) q)
      written j n p q (no d) = y₁.texts j n p d q ∙ sym (y₂.texts j n p (out_second j d) q)

-- Two sequences of single, budgeted and automatic steps, with any budgets and in any order, each of which has ended the sweep: the same
-- white, no damage, and each arena alike.
pub record SameOutcome (l : Lay) (w b : List ℕ) (v : Arenas l w) (h₁ h₂ : Heap) : Type 0 where
  pub first : Outcome l w b v h₁
  pub second : Outcome l w b v h₂
  pub white : at h₁.words WHITE ≡ at h₂.words WHITE
  pub whole : at h₁.words damage ≡ at h₂.words damage
  pub arenas : (k : ℕ) (i : k ≤ 5) → Alike l w b k (v k i).free first.left second.left h₁ h₂ (first.arenas k i) (second.arenas k i)

abbrev Swept : Heap → Type 0
Swept h = (at h.words PHASE ≡ 4) ⊎ (at h.words PHASE ≡ 0)

pub planned_same : (s : Sizes) → SizesOk s → (w b : List ℕ) → (lay_of s).words ≤ length w → (lay_of s).bytes ≤ length b → at w PHASE ≡ 0 → AllWhite (lay_of s) w → length_of (lay_of s).queue w ≡ 0
    → (v : Arenas (lay_of s) w) (c₁ c₂ : Call) (cs₁ cs₂ : List Call) → Swept (calls (lay_of s) (c₁ ∷ cs₁) (heap w b)) → Swept (calls (lay_of s) (c₂ ∷ cs₂) (heap w b))
    → SameOutcome (lay_of s) w b v (calls (lay_of s) (c₁ ∷ cs₁) (heap w b)) (calls (lay_of s) (c₂ ∷ cs₂) (heap w b))
planned_same s h w b long wide pause f none v c₁ c₂ cs₁ cs₂ e₁ e₂ =
    let x₁ = planned_calls s h w b long wide pause f none v c₁ cs₁ e₁ in
    let x₂ = planned_calls s h w b long wide pause f none v c₂ cs₂ e₂ in
    record {
      first = x₁;
      second = x₂;
      white = x₁.white ∙ sym x₂.white;
      whole = x₁.whole ∙ sym x₂.whole;
      arenas = outcome_alike (lay_of s) w b v (calls (lay_of s) (c₁ ∷ cs₁) (heap w b)) (calls (lay_of s) (c₂ ∷ cs₂) (heap w b)) x₁ x₂;
    }
