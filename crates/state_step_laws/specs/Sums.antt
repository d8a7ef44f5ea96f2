-- What a sweep frees it takes off the count and off the total. Assumes nothing.
--     tally_gone        slots that become free, each once, count so many less
--     cleaned_count     so does the count of a well-formed arena that is swept
--     size_at_lem           the size that a sweep step takes off for each is that of the arena's kind
use Rattle.std.specs.Prelude.{◌≡◌, refl, ◌≢◌, ℕ, zero, suc, min, ◌+◌, ◌≤◌, ◌<◌, length}
use Rattle.std.proofs.Common.{sym, ap, ◌∙◌, inl, inr, ⊎_elim, arith}
use mathlib.Core.List.Memᴰ
use mathlib.Core.List.{List, [], ◌∷◌, Memᴰ}
use Rattle.std.proofs.Math.Decide.{ℕ_discrete, dec_lt}
use Rattle.base.specs.Ways.{if_eq, eq_yes, eq_no}
use Rattle.base.specs.Heap.{Heap}
use Rattle.arena.specs.declared.Arena.{Arena}
use Rattle.arena.specs.Slots.{colour, count, used, occupied}
use Rattle.arena_laws.specs.Counts.{one, one_free, one_occupied, tally, tally_same, tally_more, colours, occupied_is}
use Rattle.arena_laws.specs.Chain.{Falling, WellFormed}
use Rattle.arena_laws.specs.Sweeps.{Cleaned}
use Rattle.sweep_step.specs.Sweeping.{size_at}
use Rattle.state_laws.specs.Takes.{kind_size}

-- f with slot x free
abbrev without : ℕ → (ℕ → ℕ) → ℕ → ℕ
without x f j = if_eq j x 0 (f j)

tally_gone : (gone : List ℕ) (f g : ℕ → ℕ) (n : ℕ) → Falling gone → ((i : ℕ) → Memᴰ i gone → (i < n) × (f i ≢ 0) × (g i ≡ 0))
    → ((j : ℕ) → j < n → (Memᴰ j gone → ⊥) → one (g j) ≡ one (f j)) → tally f 0 n ≡ tally g 0 n + length gone
tally_gone [] f g n fall in-gone same = sym (tally_same f g n 0 (λ j p q. same j (omega (arith, q)) (λ m. Memᴰ.not-nil m))) ∙ omega arith
tally_gone (x ∷ xs) f g n fall in-gone same =
    let here = in-gone x (Memᴰ.head refl) in
    let rest = tally_gone xs (without x f) g n fall.1 (λ i m. later i m) (λ j p d. others j p d (ℕ_discrete j x)) in
    sums (tally f 0 n) (tally (without x f) 0 n) (tally g 0 n) (length xs)
    (tally_more (without x f) f x n 0 (omega arith) (omega (arith, here.0)) (sym (eq_yes x x 0 (f x) 0 refl refl)) here.1 (λ j p q d. eq_no j x 0 (f j) (f j) d refl)) rest
  where
    sums : (t u v k : ℕ) → t ≡ u + 1 → u ≡ v + k → t ≡ v + suc k
    sums t u v k e h = omega (arith, e, h)

    later : (i : ℕ) → Memᴰ i xs → (i < n) × (without x f i ≢ 0) × (g i ≡ 0)
    later i m =
        let p = in-gone i (Memᴰ.tail m) in
        let d : i ≢ x = λ e. omega (arith, fall.0 i m, e) in
        (p.0, (λ z. p.1 (eq_no i x 0 (f i) (f i) d refl ∙ z)), p.2)

    others : (j : ℕ) → j < n → (Memᴰ j xs → ⊥) → Dec (j ≡ x) → one (g j) ≡ one (without x f j)
    others j p d (yes e) =
        one_free (g j) (ap g e ∙ (in-gone x (Memᴰ.head refl)).2) ∙ sym (one_free (without x f j) (sym (eq_yes j x 0 (f j) 0 e refl)))
    others j p d (no e) = same j p (λ m. ⊎_elim e d (Memᴰ.cases_cons m)) ∙ ap (λ (c : ℕ). one c) (eq_no j x 0 (f j) (f j) e refl)

-- A sweep of a well-formed arena: the count falls by what is freed.
pub cleaned_count : {a : Arena} {dead white start next freed seen : ℕ} {h g : Heap} {before : List ℕ} → WellFormed a h.words → 1 ≤ dead → 1 ≤ white → Cleaned a dead white start next freed seen h g before
    → count a g.words + freed ≡ count a h.words
cleaned_count {a} {dead} {white} {start} {next} {freed} {seen} {h} {g} v low bright c =
    sums (count a g.words) (occupied a g.words) (tally (colours a g.words) 0 (used a h.words)) (length c.gone) (count a h.words) (occupied a h.words) (tally (colours a h.words) 0 (used a h.words))
    c.keeps.counts (occupied_is a g.words ∙ ap (tally (colours a g.words) 0) same_used) v.counts (occupied_is a h.words) total c.many
  where
    sums : (x y z k p q t : ℕ) → x ≡ y → y ≡ z → p ≡ q → q ≡ t → t ≡ z + k → freed ≡ k → x + freed ≡ p
    sums x y z k p q t e₁ e₂ e₃ e₄ e₅ e₆ = omega (arith, e₁, e₂, e₃, e₄, e₅, e₆)

    same_used : used a g.words ≡ used a h.words
    same_used = ap (λ (n : ℕ). min n a.slots) c.fresh

    total : tally (colours a h.words) 0 (used a h.words) ≡ tally (colours a g.words) 0 (used a h.words) + length c.gone
    total =
        tally_gone c.gone (colours a h.words) (colours a g.words) (used a h.words) c.falls
        (λ i m. let q = (c.is i).0 m in (omega (arith, q.2, v.within), (λ z. omega (arith, z, low, q.3)), c.died i m))
        (λ j p d. alike j p d (ℕ_discrete (colour a j h.words) 0))
      where
        alike : (j : ℕ) → j < used a h.words → (Memᴰ j c.gone → ⊥) → Dec (colour a j h.words ≡ 0) → one (colour a j g.words) ≡ one (colour a j h.words)
        alike j p d (yes e) = one_free (colour a j g.words) (c.idle j (omega (arith, p)) e) ∙ sym (one_free (colour a j h.words) e)
        alike j p d (no e) = one_occupied (colour a j g.words) (lives (dec_lt j start) (dec_lt j next)) ∙ sym (one_occupied (colour a j h.words) e)
          where
            lives : Dec (j < start) → Dec (j < next) → colour a j g.words ≢ 0
            lives (yes f) z k = e (sym (c.left j (omega (arith, p)) (inl f)) ∙ k)
            lives (no f) (no z) k = e (sym (c.left j (omega (arith, p)) (inr (omega (arith, z)))) ∙ k)
            lives (no f) (yes z) k =
                let w : colour a j g.words ≡ white =
                c.painted j (omega (arith, f)) z (omega (arith, p)) e (λ y. d ((c.is j).1 (omega (arith, f), z, omega (arith, p), y))) in
                omega (arith, w, k, bright)

-- The size that a step takes off for each slot.
pub size_at_lem : (k : ℕ) → k ≤ 4 → size_at k ≡ kind_size (suc k)
unfolding size_at if_eq
size_at_lem zero h = refl
size_at_lem (suc zero) h = refl
size_at_lem (suc (suc zero)) h = refl
size_at_lem (suc (suc (suc zero))) h = refl
size_at_lem (suc (suc (suc (suc zero)))) h = refl
size_at_lem (suc (suc (suc (suc (suc k))))) h = absurd (let z : ⊥ = omega (arith, h) in z)
