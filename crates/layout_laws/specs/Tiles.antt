-- Spans of places that lie one after the other. `Follow` is the whole of what is said; that no place lies in two of them
-- and every place in one is then proved, by induction over the list. Assumes nothing.
use Rattle.std.specs.Prelude.{◌≡◌, refl, ◌⊎◌, List, [], ◌∷◌, ℕ, zero, suc, ◌+◌, ◌≤◌, ◌<◌, length}
use Rattle.std.proofs.Common.{ap, inl, inr, ⊎_elim, zero-le, suc-le-suc, arith}

-- a span of places: the first, and how many
pub record Span : Type 0 where
  pub first : ℕ
  pub size : ℕ

abbrev pub span : ℕ → ℕ → Span
span first size = record { first = first; size = size }

-- the place after its last
abbrev pub end : Span → ℕ
end s = s.first + s.size

-- place p lies in the span
abbrev pub In : ℕ → Span → Type 0
In p s = (s.first ≤ p) × (p < end s)

-- The first span begins at i, each other where the one before it ends, and the last ends at e.
abbrev pub Follow : ℕ → List Span → ℕ → Type 0
Follow i [] e = i ≡ e
Follow i (s ∷ ss) e = (s.first ≡ i) × Follow (end s) ss e

pub record Tiles (i : ℕ) (ss : List Span) (e : ℕ) : Type 0 where
  pub follow : Follow i ss e

-- one more span in front, and the end of a list
infixr 5 ◌▸◌
pub ◌▸◌ : {i e : ℕ} {s : Span} {ss : List Span} → s.first ≡ i → Tiles (end s) ss e → Tiles i (s ∷ ss) e
◌▸◌ p t = record { follow = (p, t.follow) }

pub over : {i e : ℕ} → i ≡ e → Tiles i [] e
over p = record { follow = p }

-- the span of number k, from 0 on; past the last there is none, which has no place
abbrev pub nth : List Span → ℕ → Span
nth [] k = span 0 0
nth (s ∷ ss) zero = s
nth (s ∷ ss) (suc k) = nth ss k

-- a place in one of the spans lies at i or past it, and before e
follow_from : (i e : ℕ) (ss : List Span) (k p : ℕ) → Follow i ss e → In p (nth ss k) → i ≤ p
follow_from i e [] k p t h = absurd (omega arith)
follow_from i e (s ∷ ss) zero p t h = omega (arith, t.0)
follow_from i e (s ∷ ss) (suc k) p t h = omega (arith, t.0, follow_from (end s) e ss k p t.1 h)

follow_to : (i e : ℕ) (ss : List Span) → Follow i ss e → i ≤ e
follow_to i e [] t = omega (arith, t)
follow_to i e (s ∷ ss) t = omega (arith, t.0, follow_to (end s) e ss t.1)

follow_below : (i e : ℕ) (ss : List Span) (k p : ℕ) → Follow i ss e → In p (nth ss k) → p < e
follow_below i e [] k p t h = absurd (omega arith)
follow_below i e (s ∷ ss) zero p t h = omega (arith, follow_to (end s) e ss t.1, h.1)
follow_below i e (s ∷ ss) (suc k) p t h = follow_below (end s) e ss k p t.1 h

-- no place lies in two of the spans
follow_one : (i e : ℕ) (ss : List Span) (j k p : ℕ) → Follow i ss e → In p (nth ss j) → In p (nth ss k) → j ≡ k
follow_one i e [] j k p t g h = absurd (omega arith)
follow_one i e (s ∷ ss) zero zero p t g h = refl
follow_one i e (s ∷ ss) zero (suc k) p t g h = absurd (omega (arith, g.1, follow_from (end s) e ss k p t.1 h))
follow_one i e (s ∷ ss) (suc j) zero p t g h = absurd (omega (arith, h.1, follow_from (end s) e ss j p t.1 g))
follow_one i e (s ∷ ss) (suc j) (suc k) p t g h = ap suc (follow_one (end s) e ss j k p t.1 g h)

-- every place from i to below e lies in one of them
le_or_lt : (a b : ℕ) → (a ≤ b) ⊎ (b < a)
le_or_lt zero b = inl zero-le
le_or_lt (suc a) zero = inr (suc-le-suc zero-le)
le_or_lt (suc a) (suc b) = ⊎_elim (λ p. inl (suc-le-suc p)) (λ q. inr (suc-le-suc q)) (le_or_lt a b)

abbrev pub Found : ℕ → List Span → Type 0
Found p ss = (k : ℕ) × (k < length ss) × In p (nth ss k)

follow_some : (i e : ℕ) (ss : List Span) (p : ℕ) → Follow i ss e → i ≤ p → p < e → Found p ss
follow_some i e [] p t g h = absurd (omega (arith, t))
follow_some i e (s ∷ ss) p t g h = ⊎_elim (λ past. later (follow_some (end s) e ss p t.1 past h)) (λ here. (0, omega arith, (omega (arith, t.0), here))) (le_or_lt (end s) p)
  where
    later : Found p ss → Found p (s ∷ ss)
    later f = (suc f.0, suc-le-suc f.1, f.2)

-- the same, of tiles
pub tiles_one : {i e : ℕ} {ss : List Span} (j k p : ℕ) → Tiles i ss e → In p (nth ss j) → In p (nth ss k) → j ≡ k
tiles_one {i} {e} {ss} j k p t g h = follow_one i e ss j k p t.follow g h

pub tiles_some : {i e : ℕ} {ss : List Span} (p : ℕ) → Tiles i ss e → i ≤ p → p < e → Found p ss
tiles_some {i} {e} {ss} p t g h = follow_some i e ss p t.follow g h

pub tiles_below : {i e : ℕ} {ss : List Span} (k p : ℕ) → Tiles i ss e → In p (nth ss k) → p < e
tiles_below {i} {e} {ss} k p t h = follow_below i e ss k p t.follow h
