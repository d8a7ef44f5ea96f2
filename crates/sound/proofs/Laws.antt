-- One prototype by the definition, step by step, and what the set of numbers seen tells. Assumes nothing.
--     Looking                                   the invariant of the loop over nested prototypes
--     below_enough, proto_step                  any bound above a number gives the same
--     child_below, child_skipped                the two ways of a turn
--     constants_unsound, proto_looked           the two ways past the set
--     known_seen, known_child, known_none       what was seen is sound: of the number itself, of one below it, of none seen
--     added_none, added_more                    nothing new was seen; a nested one adds only sound ones
--     grown_same, grown_no, grown_all           where nothing new was seen; where the answer is no; where the number itself is sound
use mathlib.Core.Path.{◌≡◌, refl, sym, ◌∙◌}
use mathlib.Core.Bool.{Bool, true, false, true≢false}
use mathlib.Core.List.{List}
use mathlib.Core.Logic.{◌⊎◌, inl, inr, ⊎_elim}
use Prim.Native.Nat.{ℕ, zero, suc, ◌-◌, ◌≤◌, ◌<◌}
use native.Mathlib.Decide.{dec_lt, ℕ_discrete}
use native.Mathlib.Omega.{arith}
use lib.ListN.{length, replicate}
use lib.Seq.{get_or-set_other}
use Rattle.base.specs.Ways.{lt_yes, lt_no, eq_yes, eq_no}
use Rattle.base.specs.Words.{at, put}
use Rattle.layout.specs.declared.Lay.{Lay}
use Rattle.main_record.specs.Prototypes.{proto_nested, proto_child}
use Rattle.making.specs.Turns.{turns, each_turn, each}
use Rattle.sound.specs.Sound.{constants_sound, child_sound, sound_by, sound_below, sound_proto, Known, Added, Grown}

-- The turns from here on answer what all do, what is newly seen is sound, and the set stays as long.
pub record Looking (l : Lay) (w : List ℕ) (n m : ℕ) (seen₀ seen : List ℕ) (j : ℕ) : Type 0 where
  pub rest : turns (each_turn (child_sound l w (sound_below l w n) n)) true (m - j) j ≡ each (child_sound l w (sound_below l w n) n) m
  pub new : Added l w seen₀ seen
  pub full : length seen ≡ length seen₀

module _ (l : Lay) (w : List ℕ) where
  pub below_enough : (b n : ℕ) → n < b → sound_below l w b n ≡ sound_proto l w n
  unfolding sound_below sound_proto
  below_enough zero n h = absurd (let z : ⊥ = omega arith in z)
  below_enough (suc b) n h = go (dec_lt n b) (λ k. below_enough b n k)
    where
      go : Dec (n < b) → (n < b → sound_below l w b n ≡ sound_proto l w n) → sound_below l w (suc b) n ≡ sound_proto l w n
      go (yes k) ih = sym (eq_no n b (sound_by l w (sound_below l w b) n) (sound_below l w b n) (sound_proto l w n) (λ e. omega arith) (sym (ih k)))
      go (no k) ih = let e : n ≡ b = omega arith in rw e

  pub proto_step : (n : ℕ) → sound_by l w (sound_below l w n) n ≡ sound_proto l w n
  unfolding sound_below sound_proto
  proto_step n = eq_yes n n (sound_by l w (sound_below l w n) n) (sound_below l w n n) (sound_by l w (sound_below l w n) n) refl refl

  -- one nested prototype: looked at, or skipped
  module _ (n j : ℕ) {q : ℕ} (p : q ≡ proto_child l n j w) where
    pub child_below : {r : Bool} → q < n → r ≡ sound_proto l w q → r ≡ child_sound l w (sound_below l w n) n j
    unfolding child_sound
    child_below {r} h e = rw (← p) (lt_yes q n (sound_below l w n q) true r h (e ∙ sym (below_enough n q h)))

    pub child_skipped : n ≤ q → true ≡ child_sound l w (sound_below l w n) n j
    unfolding child_sound
    child_skipped h = rw (← p) (lt_no q n (sound_below l w n q) true true h refl)

  module _ (n : ℕ) where
    pub constants_unsound : constants_sound l w n ≡ false → false ≡ sound_proto l w n
    unfolding sound_by
    constants_unsound e = rw e at (proto_step n)

    pub proto_looked : {m : ℕ} {r : Bool} → constants_sound l w n ≡ true → m ≡ proto_nested l n w → r ≡ each (child_sound l w (sound_below l w n) n) m → r ≡ sound_proto l w n
    unfolding sound_by
    proto_looked e p q = q ∙ rw p (rw e at (proto_step n))

  pub known_seen : (seen : List ℕ) (n : ℕ) → Known l w seen n → 0 < at seen n → true ≡ sound_proto l w n
  unfolding Known
  known_seen seen n known h = sym (known n (omega arith) h)

  pub known_child : (seen s : List ℕ) (n q : ℕ) → Known l w seen n → Added l w (put n 1 seen) s → q < n → Known l w s q
  unfolding Known Added
  known_child seen s n q known new h k g p = ⊎_elim (λ x. known k (omega arith) (rw (get_or-set_other seen n k 1 0 (λ e. omega arith)) at x)) (λ e. e) (new k p)

  pub known_none : (m n : ℕ) → Known l w (replicate m 0) n
  unfolding Known
  known_none m n k g p = absurd (nothing m k p)
    where
      nothing : (m k : ℕ) → 0 < at (replicate m 0) k → ⊥
      nothing zero k p = omega arith
      nothing (suc m) zero p = omega arith
      nothing (suc m) (suc k) p = nothing m k p

  pub added_none : (seen : List ℕ) → Added l w seen seen
  unfolding Added
  added_none seen q p = inl p

  pub added_more : (seen₀ seen s : List ℕ) (r : Bool) → Grown l w r seen s → r ≡ true → Added l w seen₀ seen → Added l w seen₀ s
  unfolding Added Grown
  added_more seen₀ seen s r grown e new q p = ⊎_elim (λ x. new q x) inr (grown e q p)

  pub grown_same : (r : Bool) (seen : List ℕ) → Grown l w r seen seen
  unfolding Grown
  grown_same r seen e = added_none seen

  pub grown_no : (seen s : List ℕ) → Grown l w false seen s
  unfolding Grown
  grown_no seen s e = absurd (true≢false (sym e))

  pub grown_all : (seen s : List ℕ) (n : ℕ) → true ≡ sound_proto l w n → Added l w (put n 1 seen) s → Grown l w true seen s
  unfolding Added Grown
  grown_all seen s n sound new e k p = ⊎_elim (λ x. go (ℕ_discrete k n) x) inr (new k p)
    where
      go : Dec (k ≡ n) → 0 < at (put n 1 seen) k → (0 < at seen k) ⊎ (sound_proto l w k ≡ true)
      go (yes q) x = inr (rw q (sym sound))
      go (no d) x = inl (rw (get_or-set_other seen n k 1 0 d) at x)
