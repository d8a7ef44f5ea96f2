-- How many slots are white, and that marking makes them fewer. Assumes nothing.
--     whites_to, whites_most       the whites among n colours
--     whites_of, whites_room       the white tables, closures and threads, the kinds that are listed gray; how many there can be
--     fall, less, whites_fall, whites_less    marking makes none white; a slot that was white and is not makes one fewer
use Rattle.std.specs.Prelude.{◌≡◌, refl, Bool, true, false, cond, List as Words, ℕ, zero, suc, ◌+◌, ◌≤◌, ◌<◌}
use Rattle.std.proofs.Common.{sym, ap, ◌∙◌, inl, inr, arith}
use Rattle.std.proofs.Math.Decide.{ℕ_discrete}
use Rattle.base.specs.Words.{at}
use Rattle.layout.specs.declared.Lay.{Lay}
use Rattle.mark.specs.Ops.{is_white}
use Rattle.mark.specs.Words.{arena_of}
use Rattle.mark_laws.specs.Colours.{white_true}
use Rattle.mark_laws.specs.Changes.{Up, Marked}

abbrev one : Bool → ℕ
one b = cond b 1 0

-- How many of the n words from p on are white colours.
unfoldable pub whites_to : ℕ → ℕ → Words ℕ → ℕ
whites_to p zero w = 0
whites_to p (suc n) w = cond (is_white (at w (p + n))) 1 0 + whites_to p n w

one_most : (x : Bool) → cond x 1 0 ≤ 1
one_most true = omega arith
one_most false = omega arith

one_le : (x y : Bool) → (x ≡ true → y ≡ true) → cond x 1 0 ≤ cond y 1 0
one_le true y h = rw (h refl) (omega arith)
one_le false y h = omega arith

-- as many as there are words, at most
pub whites_most : (p n : ℕ) (w : Words ℕ) → whites_to p n w ≤ n
unfolding whites_to
whites_most p zero w = omega arith
whites_most p (suc n) w = omega (arith, one_most (is_white (at w (p + n))), whites_most p n w)

-- where none becomes white
to_le : (p n : ℕ) (w u : Words ℕ) → ((i : ℕ) → i < n → is_white (at u (p + i)) ≡ true → is_white (at w (p + i)) ≡ true) → whites_to p n u ≤ whites_to p n w
unfolding whites_to
to_le p zero w u h = omega arith
to_le p (suc n) w u h = omega (arith, one_le (is_white (at u (p + n))) (is_white (at w (p + n))) (h n (omega arith)), to_le p n w u (λ i f. h i (omega arith)))

to_less : (p n : ℕ) (w u : Words ℕ) → ((i : ℕ) → i < n → is_white (at u (p + i)) ≡ true → is_white (at w (p + i)) ≡ true)
    → (i : ℕ) → i < n → is_white (at w (p + i)) ≡ true → is_white (at u (p + i)) ≡ false → whites_to p n u + 1 ≤ whites_to p n w
unfolding whites_to
to_less p zero w u h i f e g = absurd (let z : ⊥ = omega arith in z)
to_less p (suc n) w u h i f e g = go (ℕ_discrete i n) (λ k. to_less p n w u (λ j t. h j (omega arith)) i k e g)
  where
    go : Dec (i ≡ n) → (i < n → whites_to p n u + 1 ≤ whites_to p n w) → cond (is_white (at u (p + n))) 1 0 + whites_to p n u + 1 ≤ cond (is_white (at w (p + n))) 1 0 + whites_to p n w
    go (yes k) rest =
        let x : one (is_white (at u (p + n))) ≡ 0 = ap one (ap (λ (j : ℕ). is_white (at u (p + j))) (sym k) ∙ g) in
        let y : one (is_white (at w (p + n))) ≡ 1 = ap one (ap (λ (j : ℕ). is_white (at w (p + j))) (sym k) ∙ e) in
        omega (arith, x, y, to_le p n w u (λ j t. h j (omega arith)))
    go (no k) rest =
        omega (arith, rest (omega (arith, k)), one_le (is_white (at u (p + n))) (is_white (at w (p + n))) (h n (omega arith)))

-- the whites of one kind
abbrev pub whites_in : Lay → ℕ → Words ℕ → ℕ
whites_in l k w = whites_to (arena_of l k).base (arena_of l k).slots w

-- The white tables, closures and threads.
abbrev pub whites_of : Lay → Words ℕ → ℕ
whites_of l w = whites_in l 1 w + whites_in l 2 w + whites_in l 5 w

-- as many as there are slots of these kinds, at most
pub whites_room : (l : Lay) (w : Words ℕ) → whites_of l w ≤ l.tables.slots + l.functions.slots + l.threads.slots
whites_room l w = omega (arith, whites_most l.tables.base l.tables.slots w, whites_most l.functions.base l.functions.slots w, whites_most l.threads.base l.threads.slots w)

-- the kinds that are listed when they are marked
abbrev pub Listed : ℕ → Type 0
Listed zero = ⊥
Listed (suc zero) = Unit {0}
Listed (suc (suc zero)) = Unit {0}
Listed (suc (suc (suc zero))) = ⊥
Listed (suc (suc (suc (suc zero)))) = ⊥
Listed (suc (suc (suc (suc (suc zero))))) = Unit {0}
Listed (suc (suc (suc (suc (suc (suc k)))))) = ⊥

module _ {l : Lay} {w u : Words ℕ} (m : Marked l w u) where
  -- a colour that is white after marking was so before
  was_white : (k i : ℕ) → i < (arena_of l k).slots → is_white (at u ((arena_of l k).base + i)) ≡ true → is_white (at w ((arena_of l k).base + i)) ≡ true
  was_white k i h e = go (m.colours k i h)
    where
      go : Up (at w ((arena_of l k).base + i)) (at u ((arena_of l k).base + i)) → is_white (at w ((arena_of l k).base + i)) ≡ true
      go (inl p) = ap is_white (sym p) ∙ e
      go (inr p) = absurd (let z : ⊥ = omega (arith, (white_true (at u ((arena_of l k).base + i)) e).1, p.2) in z)

  -- so the whites of a kind are no more
  pub fall : (k : ℕ) → whites_in l k u ≤ whites_in l k w
  fall k = to_le (arena_of l k).base (arena_of l k).slots w u (was_white k)

  -- and one fewer where one was white and is not
  pub less : (k i : ℕ) → i < (arena_of l k).slots → is_white (at w ((arena_of l k).base + i)) ≡ true → is_white (at u ((arena_of l k).base + i)) ≡ false → whites_in l k u + 1 ≤ whites_in l k w
  less k i h e g = to_less (arena_of l k).base (arena_of l k).slots w u (was_white k) i h e g

  -- Marking makes none white.
  pub whites_fall : whites_of l u ≤ whites_of l w
  whites_fall = omega (arith, fall 1, fall 2, fall 5)

  -- Where a slot of a listed kind was white and is not, there is one fewer.
  pub whites_less : (k i : ℕ) → Listed k → i < (arena_of l k).slots → is_white (at w ((arena_of l k).base + i)) ≡ true → is_white (at u ((arena_of l k).base + i)) ≡ false
      → whites_of l u + 1 ≤ whites_of l w
  whites_less (suc zero) i t h e g = omega (arith, less 1 i h e g, fall 2, fall 5)
  whites_less (suc (suc zero)) i t h e g = omega (arith, less 2 i h e g, fall 1, fall 5)
  whites_less (suc (suc (suc (suc (suc zero))))) i t h e g = omega (arith, less 5 i h e g, fall 1, fall 2)
  whites_less zero i t h e g = absurd t
  whites_less (suc (suc (suc zero))) i t h e g = absurd t
  whites_less (suc (suc (suc (suc zero)))) i t h e g = absurd t
  whites_less (suc (suc (suc (suc (suc (suc k)))))) i t h e g = absurd t
