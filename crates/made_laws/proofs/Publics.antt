-- Demand 3 by the public calls themselves, of every heap that the calls make, at Pause. The definitions are those of specs/Publics.antt.
-- Assumes nothing.
--     step_is           on such a heap before Finalize each is the step that the laws of the sweep speak of
--     made_steps        what is freed, painted and left when the sweep has ended
--     made_ends         and it ends: by some number of single steps
use Rattle.std.specs.Prelude.{◌≡◌, Bool, false, cond, ◌⊎◌, ◌≢◌, List, [], ◌∷◌, ltb, ℤ, length, Ok, Err, Result}
use Rattle.std.proofs.Math.Path.{refl, ap}
use Rattle.std.proofs.Common.{sym, subst, ◌∙◌, inl, inr, ⊎_elim, arith, get_or-set_other}
use Prim.Native.Nat.{ℕ, zero, suc, ◌+◌, ◌≤◌, ◌<◌}
use Rattle.std.proofs.Math.Decide.{ℕ_discrete}
use Rattle.base.specs.Ways.{if_eq, eq_yes, eq_no}
use Rattle.base.specs.Words.{at, put}
use Rattle.base.specs.Heap.{Heap, heap}
use Rattle.base.specs.declared.Refusal.{Refusal}
use Rattle.layout.specs.declared.Lay.{Lay}
use Rattle.layout.specs.declared.Sizes.{Sizes}
use Rattle.layout.specs.Layout.{lay_of}
use Rattle.layout.specs.Places.{PHASE, STEPMUL, DEBT, INTERRUPTED}
use Rattle.test1.specs.Test1.{sizes_at}
use Rattle.accounts.specs.declared.Answer.{Answer}
use Rattle.accounts.specs.declared.Answer.TheVariants.{Busy}
use Rattle.accounts.specs.Accounts.{grown}
use Rattle.pacing.specs.Pacing.{budget_of, automatic_budget}
use Rattle.step.specs.declared.Single.{Single}
use Rattle.step.specs.declared.Single.TheVariants.{Cost, Out}
use Rattle.step.specs.Step.{start_cycle, propagate_step, costs, finalize_step, in_bytes, single_step}
use Rattle.sweep_step.specs.Sweeping.{sweep_strings, sweep_others}
use Rattle.pace.specs.Pace.{budgeted, automatic}
use Rattle.steps.specs.Steps.{is_out, stepped, single_in, budget_in, auto_in, gc_singlestep, gc_step, gc_step_auto}
use Rattle.lists.specs.Lists.{length_of}
use Rattle.laid.specs.Laid.{Laid, laid_of}
use Rattle.mark_laws.specs.Apart.{Apart, apart}
use Rattle.room_laws.specs.Tallies.{Ample}
use Rattle.room_laws.proofs.Tallies.{ample}
use Rattle.reach.specs.Cycle.{AllWhite}
use Rattle.atomic_laws.specs.Bodies.{Bodies, bodies}
use Rattle.cycle_laws.specs.Singles.{singles}
use Rattle.sweep_laws.specs.Places.{Rows, rows}
use Rattle.sweep_laws.specs.Turns.{Arenas}
use Rattle.sweep_laws.specs.Collections.{Collection}
use Rattle.sweep_laws.specs.Mixtures.{Outcome, Going, paused, Past}
use Rattle.sweep_laws.proofs.Mixtures.{based_none, step_keeps}
use Rattle.pace_laws.specs.Budgets.{calls}
use Rattle.pace_laws.specs.Budgets as pace
use Rattle.state_laws.specs.State.{State}
use Rattle.state_laws.specs.Plains.{eq_both}
use Rattle.state_step_laws.proofs.Singles.{swept_past}
use Rattle.made.specs.Made.{Call, Call-gc_singlestep, Call-gc_step, Call-gc_step_auto, called, Made, after}
use Rattle.made_laws.specs.Sounds.{Sound}
use Rattle.made_laws.proofs.Sounds.{called_state, called_sound, made_sound}
use Rattle.made_laws.specs.Pauses.{lay_at, Pausing}
use Rattle.made_laws.proofs.Pauses.{made_pause, made_arenas}
use Rattle.made_laws.proofs.Freed.{made_freed, made_calls}
use Rattle.made_laws.proofs.Opens.{made_marked}
use Rattle.made_laws.specs.Publics.{Step, single, auto, budget, as_call, until, some}

-- each as the laws of the sweep have it
abbrev as_step : Step → pace.Call
as_step single = pace.single
as_step (budget n) = pace.budget 2 (budget_of n)
as_step auto = pace.auto 2

abbrev as_steps : List Step → List pace.Call
as_steps [] = []
as_steps (c ∷ cs) = as_step c ∷ as_steps cs

-- A step before Finalize hands nothing out.
abbrev Costly : Single × Heap → Type 0
Costly (Cost c, h) = Unit {0}
Costly (Out x v, h) = ⊥

step_costs : (l : Lay) (h : Heap) → State l h → at h.words PHASE ≢ 4 → Costly (single_step l h)
unfolding single_step
step_costs l h s d =
    eq_both Costly (at h.words PHASE) 0 (Cost 0, heap (start_cycle l h.words) h.bytes) _ (λ e. tt)
    (λ d₀. eq_both Costly (at h.words PHASE) 1 (costs (propagate_step l h.bytes h.words) h.bytes) _ (λ e. tt)
    (λ d₁. eq_both Costly (at h.words PHASE) 2 (Cost 10, sweep_strings l h) _ (λ e. tt)
    (λ d₂. eq_both Costly (at h.words PHASE) 3 (Cost 800, sweep_others l h) (in_bytes (finalize_step l h.words) h.bytes) (λ e. tt)
    (λ d₃. absurd (⊎_elim (λ z. d₀ z) (λ z. d z) (swept_past (s.swept d₁) d₂ d₃).1)))))

costly_stepped : (x : Single × Heap) → Costly x → (stepped x).1 ≡ x.1
costly_stepped (Cost c, h) t = refl
costly_stepped (Out z v, h) t = absurd t

-- where none is out
not_out : (w : List ℕ) → at w INTERRUPTED ≡ 0 → is_out w ≡ false
not_out w e = ap (λ (n : ℕ). ltb 0 n) e

module _ (h : Heap) (m : Made h) (d : at h.words PHASE ≢ 4) where
  s : Sound h
  s = made_sound m

  none : at h.words INTERRUPTED ≡ 0
  none = s.state.out d

  single_is : (gc_singlestep h).1 ≡ (single_step (lay_at h) h).1
  unfolding gc_singlestep single_in
  single_is =
      ap (λ (x : Result Answer Refusal × Heap). x.1) (made_marked Err single_in h m (called_sound Call-gc_singlestep h s))
      ∙ ap (λ (b : Bool). (cond {A = Result Answer Refusal × Heap} b (Ok Busy, h) (stepped (single_step (lay_at h) h))).1) (not_out h.words none)
      ∙ costly_stepped (single_step (lay_at h) h) (step_costs (lay_at h) h s.state d)

  budget_is : (n : ℤ) → (gc_step n h).1 ≡ (budgeted (lay_at h) 2 (budget_of n) h).1
  unfolding gc_step budget_in
  budget_is n =
      ap (λ (x : Result Answer Refusal × Heap). x.1) (made_marked Err (budget_in (budget_of n)) h m (called_sound (Call-gc_step n) h s))
      ∙ ap (λ (b : Bool). (cond {A = Result Answer Refusal × Heap} b (Ok Busy, h) (budgeted (lay_at h) 2 (budget_of n) h)).1) (not_out h.words none)

  auto_is : (gc_step_auto h).1 ≡ (automatic (lay_at h) 2 h).1
  unfolding gc_step_auto auto_in budget_in automatic
  auto_is =
      ap (λ (x : Result Answer Refusal × Heap). x.1) (made_marked Err auto_in h m (called_sound Call-gc_step_auto h s))
      ∙ ap (λ (b : Bool). (cond {A = Result Answer Refusal × Heap} b (Ok Busy, g) (budgeted (lay_at h) 2 (automatic_budget (at (grown h.words) STEPMUL)) g)).1) (not_out (grown h.words) same)
    where
      g : Heap
      g = heap (grown h.words) h.bytes

      same : at (grown h.words) INTERRUPTED ≡ 0
      same = get_or-set_other (put DEBT _ h.words) (DEBT + 1) INTERRUPTED _ 0 (omega arith) ∙ get_or-set_other h.words DEBT INTERRUPTED _ 0 (omega arith) ∙ none

  -- Each step is what the laws of the sweep speak of.
  pub step_is : (c : Step) → called (as_call c) h ≡ pace.called (lay_at h) (as_step c) h
  step_is single = single_is
  step_is (budget n) = budget_is n
  step_is auto = auto_is

-- The layout stays.
lay_same : (c : Call) (h : Heap) → Made h → lay_at (called c h) ≡ lay_at h
lay_same c h m =
    let s = made_sound m in
    let t : Sizes = sizes_at h.words in
    (called_state (lay_of t) (laid_of t s.fits) (apart t) (rows t) (ample t) (bodies t) c h s.state).sizes

-- So are all of them.
until_is : (cs : List Step) (h : Heap) → Made h → at h.words PHASE ≢ 4 → until cs h ≡ calls (lay_at h) (as_steps cs) h
unfolding until calls
until_is [] h m d = refl
until_is (c ∷ cs) h m d =
    go (ℕ_discrete (at (called (as_call c) h).words PHASE) 0) (ℕ_discrete (at (called (as_call c) h).words PHASE) 4) (λ n. until_is cs (called (as_call c) h) (after m (as_call c) refl) n)
    ∙ ap (λ (g : Heap). if_eq (at g.words PHASE) 0 g (if_eq (at g.words PHASE) 4 g (calls (lay_at h) (as_steps cs) g))) (step_is h m d c)
  where
    g : Heap
    g = called (as_call c) h

    go : Dec (at (called (as_call c) h).words PHASE ≡ 0) → Dec (at (called (as_call c) h).words PHASE ≡ 4)
        → (at (called (as_call c) h).words PHASE ≢ 4 → until cs (called (as_call c) h) ≡ calls (lay_at (called (as_call c) h)) (as_steps cs) (called (as_call c) h))
        → if_eq (at (called (as_call c) h).words PHASE) 0 (called (as_call c) h) (if_eq (at (called (as_call c) h).words PHASE) 4 (called (as_call c) h) (until cs (called (as_call c) h)))
        ≡ if_eq (at (called (as_call c) h).words PHASE) 0 (called (as_call c) h) (if_eq (at (called (as_call c) h).words PHASE) 4 (called (as_call c) h) (calls (lay_at h) (as_steps cs) (called (as_call c) h)))
    go (yes e) n rest = sym (eq_yes (at g.words PHASE) 0 g _ g e refl) ∙ eq_yes (at g.words PHASE) 0 g _ g e refl
    go (no e) (yes f) rest =
        sym (eq_no (at g.words PHASE) 0 g _ g e (eq_yes (at g.words PHASE) 4 g _ g f refl)) ∙ eq_no (at g.words PHASE) 0 g _ g e (eq_yes (at g.words PHASE) 4 g _ g f refl)
    go (no e) (no f) rest =
        ap (λ (x : Heap). if_eq (at g.words PHASE) 0 g (if_eq (at g.words PHASE) 4 g x)) (rest f ∙ ap (λ (l : Lay). calls l (as_steps cs) g) (lay_same (as_call c) h m))

-- Demand 3. From every heap that the calls make, at Pause: whatever single, budgeted and automatic steps are called, with any budgets,
-- when one has ended the sweep the slots freed are exactly the occupied ones that are neither kept nor spared, each once; the chains,
-- generations, bodies, bytes and the colours of all others are as `Outcome` says.
pub made_steps : (h : Heap) (m : Made h) → at h.words PHASE ≡ 0 → (c : Step) (cs : List Step)
    → ((at (until (c ∷ cs) h).words PHASE ≡ 4) ⊎ (at (until (c ∷ cs) h).words PHASE ≡ 0))
    → Outcome (lay_at h) h.words h.bytes (made_arenas h m) (until (c ∷ cs) h)
made_steps h m e c cs f =
    let q = until_is (c ∷ cs) h m (λ z. omega (arith, e, z)) in
    subst (λ (g : Heap). Outcome (lay_at h) h.words h.bytes (made_arenas h m) g) (sym q)
    (made_calls h m e (as_step c) (as_steps cs) (subst (λ (g : Heap). (at g.words PHASE ≡ 4) ⊎ (at g.words PHASE ≡ 0)) q f))

abbrev steps : ℕ → List pace.Call
steps zero = []
steps (suc n) = pace.single ∷ steps n

steps_are : (n : ℕ) → as_steps (some n) ≡ steps n
steps_are zero = refl
steps_are (suc n) = ap (λ (cs : List pace.Call). pace.single ∷ cs) (steps_are n)

-- Single steps up to the first at Finalize: from a collection under way no other ends the sweep before it.
module _ (l : Lay) (ok : Laid l) (a : Apart l) (r : Rows l) (am : Ample l) (y : Bodies l) (w b : List ℕ) (long : l.words ≤ length w) (f : AllWhite l w) (none : length_of l.queue w ≡ 0)
    (v : Arenas l w) where
  single_ends : (n : ℕ) (g : Heap) → Going l ok a r am y w b long f none v g → ((i : ℕ) → i < n → at (singles l i g).words PHASE ≢ 4) → at (singles l n g).words PHASE ≡ 4
      → calls l (steps n) g ≡ singles l n g
  unfolding calls singles
  single_ends zero g s first last = refl
  single_ends (suc n) g s first last =
      go (ℕ_discrete (at (single_step l g).1.words PHASE) 4) (step_keeps l ok a r am y w b long f none v g s)
      (λ t. single_ends n (single_step l g).1 t (λ i h. first (suc i) (omega (arith, h))) last)
    where
      x : Heap
      x = (single_step l g).1

      -- the first at Finalize is the last
      only : (n : ℕ) → ((i : ℕ) → i < suc n → at (singles l i g).words PHASE ≢ 4) → at (single_step l g).1.words PHASE ≡ 4 → (single_step l g).1 ≡ singles l n (single_step l g).1
      only zero first e = refl
      only (suc n) first e = absurd (first 1 (omega arith) e)

      go : Dec (at (single_step l g).1.words PHASE ≡ 4)
          → (Going l ok a r am y w b long f none v (single_step l g).1 × (at (single_step l g).1.words PHASE ≢ 0)) ⊎ (Past l ok a r am y w b long f none v (single_step l g).1 × (at (single_step l g).1.words PHASE ≡ 4))
          → (Going l ok a r am y w b long f none v (single_step l g).1 → calls l (steps n) (single_step l g).1 ≡ singles l n (single_step l g).1)
          → if_eq (at (single_step l g).1.words PHASE) 0 (single_step l g).1 (if_eq (at (single_step l g).1.words PHASE) 4 (single_step l g).1 (calls l (steps n) (single_step l g).1)) ≡ singles l n (single_step l g).1
      go (yes e) t rest = sym (eq_no (at x.words PHASE) 0 x _ x (λ z. omega (arith, z, e)) (eq_yes (at x.words PHASE) 4 x _ x e refl)) ∙ only n first e
      go (no d) (inl t) rest = sym (eq_no (at x.words PHASE) 0 x _ (calls l (steps n) x) t.1 (eq_no (at x.words PHASE) 4 x (calls l (steps n) x) (calls l (steps n) x) d refl)) ∙ rest t.0
      go (no d) (inr t) rest = absurd (d t.1)

singles_none : (l : Lay) (h : Heap) → singles l 0 h ≡ h
unfolding singles
singles_none l h = refl

-- Such a sequence exists: some single steps, one at least, end the sweep.
pub made_ends : (h : Heap) → Made h → at h.words PHASE ≡ 0 → (n : ℕ) × (at (until (some (suc n)) h).words PHASE ≡ 4)
made_ends h m e = go c.steps refl
  where
    t : Sizes
    t = sizes_at h.words

    p : Pausing h
    p = made_pause h m e

    c : Collection (lay_at h) h.words h.bytes (made_arenas h m)
    c = made_freed h m e

    ended : calls (lay_at h) (steps c.steps) h ≡ singles (lay_at h) c.steps h
    ended =
        single_ends (lay_at h) (laid_of t p.fits) (apart t) (rows t) (ample t) (bodies t) h.words h.bytes p.long p.white p.none (made_arenas h m) c.steps h
        (paused h.words refl (based_none (lay_at h) (laid_of t p.fits) (apart t) (rows t) (ample t) (bodies t) h.words h.bytes p.long p.white p.none (made_arenas h m)) e)
        c.first c.finalize

    all : at (until (some c.steps) h).words PHASE ≡ 4
    all =
        ap (λ (g : Heap). at g.words PHASE)
        (until_is (some c.steps) h m (λ z. omega (arith, e, z)) ∙ ap (λ (cs : List pace.Call). calls (lay_at h) cs h) (steps_are c.steps) ∙ ended)
        ∙ c.finalize

    go : (k : ℕ) → c.steps ≡ k → (n : ℕ) × (at (until (some (suc n)) h).words PHASE ≡ 4)
    go zero q = absurd (let z : ⊥ = omega (arith, e, sym (at_start q) ∙ c.finalize) in z)
      where
        at_start : c.steps ≡ 0 → at (singles (lay_at h) c.steps h).words PHASE ≡ at h.words PHASE
        at_start q = ap (λ (n : ℕ). at (singles (lay_at h) n h).words PHASE) q ∙ none_made
          where
            none_made : at (singles (lay_at h) 0 h).words PHASE ≡ at h.words PHASE
            none_made = ap (λ (g : Heap). at g.words PHASE) (singles_none (lay_at h) h)
    go (suc n) q = (n, ap (λ (k : ℕ). at (until (some k) h).words PHASE) (sym q) ∙ all)
