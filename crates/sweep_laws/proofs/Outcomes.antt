-- After a collection the heap is again as one asked for: every occupied slot has the current white, and the six arenas are
-- well-formed. So the next collection has what it asks for, where the queue is empty at Pause. Assumes nothing.
--     outcome_white, outcome_arenas     the premises hold again
--     outcome_names                     what an occupied slot's handle names then
use Rattle.std.specs.Prelude.{◌≡◌, refl, ◌⊎◌, ◌≢◌, ◌↔◌, ℕ, ◌+◌, ◌≤◌, ◌<◌, length}
use Rattle.std.proofs.Common.{sym, subst, ap, ◌∙◌, inl, inr, ⊎_elim, arith}
use mathlib.Core.List.Memᴰ
use mathlib.Core.List.{List, [], ◌∷◌, Memᴰ}
use Rattle.std.proofs.Math.Decide.{ℕ_discrete}
use Rattle.base.specs.Words.{at}
use Rattle.base.specs.Heap.{Heap}
use Rattle.arena.specs.declared.Arena.{Arena}
use Rattle.arena.specs.Slots.{colour, gen, fresh, used}
use Rattle.layout.specs.declared.Lay.{Lay}
use Rattle.layout.specs.Places.{WHITE}
use Rattle.laid.specs.Laid.{Laid}
use Rattle.mark.specs.Ops.{Ref, ref, other_white}
use Rattle.mark.specs.Words.{arena_of, shade, colour_w}
use Rattle.mark_laws.specs.Apart.{Apart, Order, order, arena_kind}
use Rattle.mark_laws.specs.Colours.{shade_parts}
use Rattle.reach.specs.Reached.{Occupied}
use Rattle.reach.specs.Cycle.{AllWhite}
use Rattle.atomic_laws.specs.Kept.{Kept, Spared}
use Rattle.atomic_laws.proofs.Dues.{shade_colour}
use Rattle.atomic_laws.proofs.Survives.{other_white_lem}
use Rattle.sweep_laws.specs.Turns.{Arenas}
use Rattle.sweep_laws.specs.Collections.{slot_at, ToFree, Freed}
use Rattle.sweep_laws.proofs.Collections.{other_back}
use Rattle.sweep_laws.specs.Mixtures.{Outcome}

-- whether a slot is in a list
pub listed : (i : ℕ) (xs : List ℕ) → Dec (Memᴰ i xs)
listed i [] = no (λ m. Memᴰ.not-nil m)
listed i (x ∷ xs) = go (ℕ_discrete i x) (listed i xs)
  where
    go : Dec (i ≡ x) → Dec (Memᴰ i xs) → Dec (Memᴰ i (x ∷ xs))
    go (yes e) d = yes (Memᴰ.head e)
    go (no e) (yes m) = yes (Memᴰ.tail m)
    go (no e) (no d) = no (λ m. ⊎_elim e d (Memᴰ.cases_cons m))

-- a handle of a free slot names nothing
shade_free : (a : Arena) (i g : ℕ) (w : List ℕ) → colour a i w ≡ 0 → shade a i g w ≡ 0
shade_free a i g w e = go (ℕ_discrete (shade a i g w) 0)
  where
    some : (n : ℕ) → n ≢ 0 → 1 ≤ n
    some n d = omega (arith, d)

    go : Dec (shade a i g w ≡ 0) → shade a i g w ≡ 0
    go (yes z) = z
    go (no d) = let p = shade_parts a i g w (some (shade a i g w) d) in absurd (d (shade_colour a i g w p.0 p.1 ∙ e))

module _ (l : Lay) (ok : Laid l) (a : Apart l) (w b : List ℕ) (f : AllWhite l w) (v : Arenas l w) (h : Heap) (x : Outcome l w b v h) where
  abbrev o : Order l
  o = order l ok a

  -- the six arenas are well-formed
  pub outcome_arenas : Arenas l h.words
  outcome_arenas k i = (x.arenas k i).keeps

  new_low : 1 ≤ at h.words WHITE
  new_low = omega (arith, x.white, (other_white_lem (at w WHITE) f.low f.high).0)

  -- an occupied slot has the current white
  own_white : (k i : ℕ) → k ≤ 5 → i < fresh (arena_of l k) h.words → colour (arena_of l k) i h.words ≢ 0 → colour (arena_of l k) i h.words ≡ at h.words WHITE
  own_white k i g p d =
      let s = x.arenas k g in
      let q : i < fresh (arena_of l k) w = omega (arith, p, s.end) in
      let t : i < (arena_of l k).slots = omega (arith, q, (v k g).within) in
      s.lives i
      (some (colour_w l (slot_at l w k i) w) (colour (arena_of l k) i w) (shade_colour (arena_of l k) i (gen (arena_of l k) i w) w (omega (arith, q, t)) refl) (λ z. d (s.idle i t z)))
      (λ m. d (s.died i m))
    where
      some : (n m : ℕ) → n ≡ m → m ≢ 0 → 1 ≤ n
      some n m e d = omega (arith, e, d)

  -- So every occupied slot has the current white.
  pub outcome_white : AllWhite l h.words
  outcome_white = record {
    white = λ q i.
        let p = shade_parts (arena_of l q.kind) q.at q.gen h.words i in
        let e = shade_colour (arena_of l q.kind) q.at q.gen h.words p.0 p.1 in
        e ∙ own_white q.kind q.at (arena_kind l o q.kind q.at (omega (arith, p.0))) (omega (arith, p.0)) (λ z. some (colour_w l q h.words) i (e ∙ z));
    low = new_low;
    high = omega (arith, x.white, (other_back (at w WHITE) f.low f.high).1);
  }
    where
      some : (n : ℕ) → 1 ≤ n → n ≡ 0 → ⊥
      some n i z = omega (arith, i, z)

  -- A handle that named an occupied slot names nothing exactly if the slot was to be freed.
  pub outcome_names : (q : Ref) → Occupied l w q → (colour_w l q h.words ≡ 0) ↔ ((Kept l w b q → ⊥) × (Spared l w b q → ⊥))
  outcome_names q i = ((λ z. let t = (s.is q.at).0 (named z) in (subst free same (t.1, t.2))), λ z. let t = subst free (sym same) z in gone ((s.is q.at).1 (subst (λ (t : Ref). Occupied l w t) (sym same) i, t.0, t.1)))
    where
      p : (q.at < used (arena_of l q.kind) w) × (gen (arena_of l q.kind) q.at w ≡ q.gen) × (colour_w l q w ≡ at w ((arena_of l q.kind).base + q.at))
      p = shade_parts (arena_of l q.kind) q.at q.gen w i

      g : q.kind ≤ 5
      g = arena_kind l o q.kind q.at (omega (arith, p.0))

      s : Freed l w b q.kind (v q.kind g).free x.left h
      s = x.arenas q.kind g

      free : Ref → Type 0
      free t = (Kept l w b t → ⊥) × (Spared l w b t → ⊥)

      same : slot_at l w q.kind q.at ≡ q
      same = ap (λ (n : ℕ). ref q.kind q.at n) p.1

      gone : Memᴰ q.at s.gone → colour_w l q h.words ≡ 0
      gone m = shade_free (arena_of l q.kind) q.at q.gen h.words (s.died q.at m)

      named : colour_w l q h.words ≡ 0 → Memᴰ q.at s.gone
      named z = go (listed q.at s.gone)
        where
          some : (n m k : ℕ) → n ≡ m → m ≡ k → 1 ≤ k → n ≡ 0 → ⊥
          some n m k e f d z = omega (arith, e, f, d, z)

          go : Dec (Memᴰ q.at s.gone) → Memᴰ q.at s.gone
          go (yes m) = m
          go (no d) =
              let t : q.at < (arena_of l q.kind).slots = omega (arith, p.0) in
              let e = shade_colour (arena_of l q.kind) q.at q.gen h.words (omega (arith, p.0, s.end)) (s.gens q.at t d ∙ p.1) in
              absurd
              (some (colour_w l q h.words) (colour (arena_of l q.kind) q.at h.words) (at h.words WHITE) e (s.lives q.at (subst (λ (t : Ref). Occupied l w t) (sym same) i) d) new_low z)
