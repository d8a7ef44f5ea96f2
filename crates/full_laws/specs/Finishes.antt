-- A finish of a single, budgeted or automatic step is a change of words of pacing, perhaps with a budgeted step behind it: so a sequence of
-- steps with finishes in between is one of those that come to Pause. Assumes nothing.
--     Stored, stored_put       words of pacing that were written
--     finish_stores            what a finish does
use Rattle.std.specs.Prelude.{◌≡◌, refl, Bool, true, false, cond, ◌⊎◌, Ok, Err, Result}
use Rattle.std.proofs.Common.{sym, ap, ◌∙◌, inl, inr, arith}
use Rattle.std.proofs.Math.Path.{subst}
use mathlib.Core.List.{List, [], ◌∷◌, ◌++◌}
use Prim.Native.Nat.{ℕ, ◌+◌, ◌-◌, ◌≤◌, ◌<◌}
use Rattle.std.proofs.Math.Decide.{ℕ_discrete, dec_lt}
use Rattle.base.specs.Ways.{eq_yes, eq_no, le_yes, le_no}
use Rattle.base.specs.Words.{at, put, get64}
use Rattle.base.specs.Heap.{Heap, heap}
use Rattle.base.specs.declared.Refusal.TheVariants.{WrongState}
use Rattle.base.specs.declared.Refusal.{Refusal}
use Rattle.std.specs.declared.ops.ControlFlow.TheVariants.{Continue, Break}
use Rattle.std.specs.declared.ops.ControlFlow.{ControlFlow}
use Rattle.value.specs.Handles.{put_handle}
use Rattle.layout.specs.declared.Lay.{Lay}
use Rattle.layout.specs.Places.{PHASE, TOTAL, ESTIMATE, THRESHOLD, DEBT, INTERRUPTED, OUT, REMAINING}
use Rattle.accounts.specs.declared.Answer.{Answer}
use Rattle.accounts.specs.declared.Answer.TheVariants.{Stepped, Unfinished, Ended, Failed}
use Rattle.accounts.specs.Accounts.{update_threshold, step_ends, taken_back, after_cost}
use Rattle.pace.specs.Pace.{on_turn, budgeted}
use Rattle.pace_laws.specs.Ends.{Store, stores}
use Rattle.steps.specs.Steps.{limited_in, steps_on, resumed, succeeded, finish_in}

-- The words u are w with some words of pacing written.
pub record Stored (w u : List ℕ) : Type 0 where
  pub writes : List Store
  pub is : u ≡ stores writes w

stored_none : (w : List ℕ) → Stored w w
unfolding stores
stored_none w = record { writes = []; is = refl }

stores_last : (ss : List Store) (s : Store) (w : List ℕ) → stores (ss ++ s ∷ []) w ≡ put s.0 s.3 (stores ss w)
unfolding stores
stores_last [] s w = refl
stores_last (x ∷ ss) s w = stores_last ss s (put x.0 x.3 w)

stored_put : (p : ℕ) → 57 ≤ p → p < 69 → (n : ℕ) {w u : List ℕ} → Stored w u → Stored w (put p n u)
stored_put p g h n {w} s = record { writes = s.writes ++ (p, g, h, n) ∷ []; is = ap (λ (x : List ℕ). put p n x) s.is ∙ sym (stores_last s.writes (p, g, h, n) w) }

-- What is kept of an interrupted call is taken back,
back_stored : {w u : List ℕ} → Stored w u → Stored w (taken_back u)
unfolding taken_back put_handle
back_stored s =
    stored_put (REMAINING + 1) (omega arith) (omega arith) _
    (stored_put REMAINING (omega arith) (omega arith) _
    (stored_put (OUT + 1) (omega arith) (omega arith) _
    (stored_put OUT (omega arith) (omega arith) _
    (stored_put INTERRUPTED (omega arith) (omega arith) _ s))))

-- success sets the threshold and lowers the estimate,
success_stored : {w u : List ℕ} → Stored w u → Stored w (succeeded u)
unfolding succeeded
success_stored s = stored_put ESTIMATE (omega arith) (omega arith) _ (stored_put (THRESHOLD + 1) (omega arith) (omega arith) _ (stored_put THRESHOLD (omega arith) (omega arith) _ s))

-- and so do the ends of a step and of a cycle.
cycle_stored : {w u : List ℕ} → Stored w u → Stored w (update_threshold u)
unfolding update_threshold
cycle_stored s = stored_put (THRESHOLD + 1) (omega arith) (omega arith) _ (stored_put THRESHOLD (omega arith) (omega arith) _ (stored_put TOTAL (omega arith) (omega arith) _ s))

ends_stored : {w u : List ℕ} → Stored w u → Stored w (step_ends u)
unfolding step_ends
ends_stored s =
    stored_put (THRESHOLD + 1) (omega arith) (omega arith) _
    (stored_put THRESHOLD (omega arith) (omega arith) _
    (stored_put (DEBT + 1) (omega arith) (omega arith) _ (stored_put DEBT (omega arith) (omega arith) _ s)))

-- Words of pacing were written, perhaps with a budgeted step behind it.
abbrev pub Goes : Lay → Heap → Heap → Type 0
Goes l h g = (ss : List Store) × ((g ≡ heap (stores ss h.words) h.bytes) ⊎ ((kind : ℕ) × (n : ℕ) × (g ≡ (budgeted l kind n (heap (stores ss h.words) h.bytes)).1)))

module _ (l : Lay) (h : Heap) where
  only : (u : List ℕ) → Stored h.words u → Goes l h (heap u h.bytes)
  only u s = (s.writes, inl (ap (λ (x : List ℕ). heap x h.bytes) s.is))

  -- The remaining budget, less the finalizer's 100.
  steps_goes : (kind left : ℕ) (u : List ℕ) → Stored h.words u → Goes l h (steps_on l kind left (heap u h.bytes)).1
  unfolding steps_on after_cost
  steps_goes kind left u s = go (ℕ_discrete (at u PHASE) 0) (dec_lt 100 left)
    where
      T : ControlFlow (Result Answer Refusal) ℕ × List ℕ → Type 0
      T x = Goes l h (on_turn (x.0, heap x.1 h.bytes) (λ k g. budgeted l kind k g)).1

      go : Dec (at u PHASE ≡ 0) → Dec (100 < left) → T (after_cost left 100 u)
      go (yes e) d = subst T (eq_yes (at u PHASE) 0 (Break (Ok Ended), update_threshold u) _ _ e refl) (only (update_threshold u) (cycle_stored s))
      go (no e) (no d) =
          subst T (eq_no (at u PHASE) 0 (Break (Ok Ended), update_threshold u) _ _ e (le_yes left 100 (Break (Ok Unfinished), step_ends u) (Continue (left - 100), u) _ (omega (arith, d)) refl)) (only (step_ends u) (ends_stored s))
      go (no e) (yes d) =
          subst T (eq_no (at u PHASE) 0 (Break (Ok Ended), update_threshold u) _ _ e (le_no left 100 (Break (Ok Unfinished), step_ends u) (Continue (left - 100), u) _ d refl))
          (s.writes, inr (kind, left - 100, ap (λ (x : List ℕ). (budgeted l kind (left - 100) (heap x h.bytes)).1) s.is))

  -- A finish of a single step (1), a budgeted (2) or an automatic one (3), with success or failure.
  pub finish_stores : (ok : Bool) → 1 ≤ at h.words INTERRUPTED → at h.words INTERRUPTED ≤ 3 → Goes l h (finish_in ok l h).1
  unfolding finish_in resumed
  finish_stores ok low high =
      subst (λ (x : Result Answer Refusal × Heap). Goes l h x.1) (eq_no (at h.words INTERRUPTED) 0 (Err WrongState, h) _ _ (λ e. omega (arith, e, low)) refl) (by ok)
    where
      n : ℕ
      n = get64 h.words REMAINING

      g : Heap
      g = heap (succeeded (taken_back h.words)) h.bytes

      kept : Stored h.words (succeeded (taken_back h.words))
      kept = success_stored (back_stored (stored_none h.words))

      T : Result Answer Refusal × Heap → Type 0
      T x = Goes l h x.1

      -- by the kind of call that was interrupted
      resumes : Dec (at h.words INTERRUPTED ≡ 1) → Dec (at h.words INTERRUPTED ≡ 2)
          → T (resumed l (at h.words INTERRUPTED) (get64 h.words REMAINING) (heap (succeeded (taken_back h.words)) h.bytes))
      resumes (yes e) d = subst T (eq_yes (at h.words INTERRUPTED) 1 (Ok (Stepped 100), g) _ _ e refl) (only (succeeded (taken_back h.words)) kept)
      resumes (no e) (yes d) =
          subst T (eq_no (at h.words INTERRUPTED) 1 (Ok (Stepped 100), g) _ _ e (eq_yes (at h.words INTERRUPTED) 2 (steps_on l 2 n g) _ _ d refl)) (steps_goes 2 n (succeeded (taken_back h.words)) kept)
      resumes (no e) (no d) =
          subst T
          (eq_no (at h.words INTERRUPTED) 1 (Ok (Stepped 100), g) _ _ e (eq_no (at h.words INTERRUPTED) 2 (steps_on l 2 n g) _ _ d
          (eq_yes (at h.words INTERRUPTED) 3 (limited_in (steps_on l 3 n g)) _ _ (omega (arith, low, high, e, d)) refl)))
          (steps_goes 3 n (succeeded (taken_back h.words)) kept)

      by : (ok : Bool) → Goes l h (cond ok (resumed l (at h.words INTERRUPTED) (get64 h.words REMAINING) (heap (succeeded (taken_back h.words)) h.bytes)) (Ok Failed, heap (taken_back h.words) h.bytes)).1
      by false = only (taken_back h.words) (back_stored (stored_none h.words))
      by true = resumes (ℕ_discrete (at h.words INTERRUPTED) 1) (ℕ_discrete (at h.words INTERRUPTED) 2)
