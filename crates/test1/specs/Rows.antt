-- Rows 1 and 8 of document 01, once for every call: what is answered, and what is changed. Assumes nothing.
use Rattle.std.specs.Prelude.{◌≡◌, true, false, List, ℕ, length, Ok, Err}
use borrow.Author.Tests.{eq-eqb, ne_eqb}
use Rattle.base.specs.Ways.{if_eq}
use Rattle.base.specs.Words.{at}
use Rattle.base.specs.Heap.{Heap, heap}
use Rattle.base.specs.declared.Refusal.TheVariants.{Unfit, Damaged}
use Rattle.base.specs.declared.Refusal.{Refusal}
use Rattle.layout.specs.Places.{DAMAGE}
use Rattle.layout.specs.Layout.{lay_of}
use Rattle.test1.specs.Test1.{sizes_at, accepted, opened}
use Rattle.test1.specs.Calls.{call, call_marked, ask}
use Rattle.layout.specs.declared.Lay.{Lay}

-- the three ways in which a call begins
module _ (w : List ℕ) (m : ℕ) where
  pub opened_1 : accepted w m ≡ false → opened w m ≡ Err Unfit
  unfolding opened
  opened_1 p = rw p

  pub opened_8 : accepted w m ≡ true → (at w DAMAGE ≡ 0 → ⊥) → opened w m ≡ Err Damaged
  unfolding opened
  opened_8 p q = rw (p, ne_eqb (at w DAMAGE) 0 q)

  pub opened_else : accepted w m ≡ true → at w DAMAGE ≡ 0 → opened w m ≡ Ok (sizes_at w)
  unfolding opened
  opened_else p q = rw (p, eq-eqb (at w DAMAGE) 0 q)

-- A buffer is too short or a stored size, count, phase or current white lies outside its range: 1, and nothing is changed.
-- Else the damage mark was set before the call: 8, and nothing is changed. Else the work.
module _ {A : Type 0} (refuse : Refusal → A) (f : Lay → Heap → A × Heap) (w b : List ℕ) where
  pub row_1 : accepted w (length b) ≡ false → call refuse f (heap w b) ≡ (refuse Unfit, heap w b)
  unfolding call
  row_1 p = rw (opened_1 w (length b) p)

  pub row_8 : accepted w (length b) ≡ true → (at w DAMAGE ≡ 0 → ⊥) → call refuse f (heap w b) ≡ (refuse Damaged, heap w b)
  unfolding call
  row_8 p q = rw (opened_8 w (length b) p q)

  pub row_else : accepted w (length b) ≡ true → at w DAMAGE ≡ 0 → call refuse f (heap w b) ≡ f (lay_of (sizes_at w)) (heap w b)
  unfolding call
  row_else p q = rw (opened_else w (length b) p q)

  -- The same of a call whose work can set the mark: if it did, 8, and the buffers are as the work left them.
  pub marked_row_1 : accepted w (length b) ≡ false → call_marked refuse f (heap w b) ≡ (refuse Unfit, heap w b)
  unfolding call_marked
  marked_row_1 p = rw (opened_1 w (length b) p)

  pub marked_row_8 : accepted w (length b) ≡ true → (at w DAMAGE ≡ 0 → ⊥) → call_marked refuse f (heap w b) ≡ (refuse Damaged, heap w b)
  unfolding call_marked
  marked_row_8 p q = rw (opened_8 w (length b) p q)

  pub marked_row_set : accepted w (length b) ≡ true → at w DAMAGE ≡ 0 → (at (f (lay_of (sizes_at w)) (heap w b)).1.words DAMAGE ≡ 0 → ⊥) → call_marked refuse f (heap w b) ≡ (refuse Damaged, (f (lay_of (sizes_at w)) (heap w b)).1)
  unfolding call_marked if_eq
  marked_row_set p q r = rw (opened_else w (length b) p q, ne_eqb (at (f (lay_of (sizes_at w)) (heap w b)).1.words DAMAGE) 0 r)

  pub marked_row_else : accepted w (length b) ≡ true → at w DAMAGE ≡ 0 → at (f (lay_of (sizes_at w)) (heap w b)).1.words DAMAGE ≡ 0 → call_marked refuse f (heap w b) ≡ f (lay_of (sizes_at w)) (heap w b)
  unfolding call_marked if_eq
  marked_row_else p q r = rw (opened_else w (length b) p q, eq-eqb (at (f (lay_of (sizes_at w)) (heap w b)).1.words DAMAGE) 0 r)

-- The same of a call that only reads.
module _ {A : Type 0} (refuse : Refusal → A) (f : Lay → Heap → A) (w b : List ℕ) where
  pub ask_row_1 : accepted w (length b) ≡ false → ask refuse f (heap w b) ≡ refuse Unfit
  unfolding ask
  ask_row_1 p = rw (opened_1 w (length b) p)

  pub ask_row_8 : accepted w (length b) ≡ true → (at w DAMAGE ≡ 0 → ⊥) → ask refuse f (heap w b) ≡ refuse Damaged
  unfolding ask
  ask_row_8 p q = rw (opened_8 w (length b) p q)

  pub ask_row_else : accepted w (length b) ≡ true → at w DAMAGE ≡ 0 → ask refuse f (heap w b) ≡ f (lay_of (sizes_at w)) (heap w b)
  unfolding ask
  ask_row_else p q = rw (opened_else w (length b) p q)
