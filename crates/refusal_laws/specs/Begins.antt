-- How every public call begins and ends: test 1 and the damage mark refuse with 1 and 8 (test1/specs/Calls.antt), so a call
-- that refuses does it by one of the eight if its work does. Assumes nothing.
--     opened_known, given_known                    what test 1 answers; an answer that gives a plan
--     call_known, call_marked_known, ask_known     so each form of a call
use Rattle.std.specs.Prelude.{List, ℕ, length, eqb, Ok, Err, Result}
use Rattle.base.specs.Words.{at}
use Rattle.base.specs.Heap.{Heap}
use Rattle.base.specs.declared.Refusal.{Refusal}
use Rattle.layout.specs.Places.{DAMAGE}
use Rattle.layout.specs.Layout.{lay_of}
use Rattle.layout.specs.Plans.{sizes_given}
use Rattle.layout.specs.declared.plans.Plan.{Plan}
use Rattle.layout.specs.declared.Sizes.{Sizes}
use Rattle.layout.specs.declared.Lay.{Lay}
use Rattle.test1.specs.Test1.{accepted, opened}
use Rattle.test1.specs.Calls.{call, on_opened, call_marked, on_marked, ask, on_asked}
use Rattle.state_laws.specs.Plains.{eq_both, cond_both}
use Rattle.refusal_laws.specs.Known.{Answered}

-- the same of an answer with what was changed
abbrev pub Answers : {A B : Type 0} → Result A Refusal × B → Type 0
Answers x = Answered x.0

pub opened_known : (w : List ℕ) (m : ℕ) → Answered (opened w m)
unfolding opened
opened_known w m = cond_both Answered (accepted w m) _ _ (λ e. cond_both Answered (eqb (at w DAMAGE) 0) _ _ (λ z. tt) (λ z. tt)) (λ e. tt)

-- An answer that gives a plan has the refusal of the one that gives its sizes.
pub given_known : (o : Result Plan Refusal) → Answered (sizes_given o) → Answered o
given_known (Ok l) h = tt
given_known (Err k) h = h

module _ {A : Type 0} (f : Lay → Heap → Result A Refusal × Heap) (h : Heap) (p : (l : Lay) → Answers (f l h)) where
  pub call_known : Answers (call Err f h)
  unfolding call
  call_known = go (opened h.words (length h.bytes)) (opened_known h.words (length h.bytes))
    where
      go : (o : Result Sizes Refusal) → Answered o → Answers (on_opened Err f h o)
      go (Ok s) q = p (lay_of s)
      go (Err k) q = q

  pub call_marked_known : Answers (call_marked Err f h)
  unfolding call_marked
  call_marked_known = go (opened h.words (length h.bytes)) (opened_known h.words (length h.bytes))
    where
      go : (o : Result Sizes Refusal) → Answered o → Answers (on_marked Err f h o)
      go (Ok s) q = eq_both Answered _ _ _ _ (λ e. p (lay_of s)) (λ e. tt)
      go (Err k) q = q

module _ {A : Type 0} (f : Lay → Heap → Result A Refusal) (h : Heap) (p : (l : Lay) → Answered (f l h)) where
  pub ask_known : Answered (ask Err f h)
  unfolding ask
  ask_known = go (opened h.words (length h.bytes)) (opened_known h.words (length h.bytes))
    where
      go : (o : Result Sizes Refusal) → Answered o → Answered (on_asked Err f h o)
      go (Ok s) q = p (lay_of s)
      go (Err k) q = q
