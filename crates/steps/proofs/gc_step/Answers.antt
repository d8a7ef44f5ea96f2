-- `steps::gc_step` meets its contract: from what its callees promise. Assumes nothing.
use Rattle.std.specs.Prelude.{Ok, Err, Result}
use mir.Syntax.{w64}
use mir.ValLaws.{to_z-of_z}
use mathlib.Core.Path.{◌∙◌, ◌≡◌, ap}
use native.Mathlib.Omega.{arith}
use mathlib.Core.List.{List}
use Prim.Native.Nat.{ℕ}
use lib.ListN.{length}
use Rattle.std.proofs.lemmas.Result.{err_from_is_err_and}
use Rattle.pacing.specs.Pacing.{budget_of}
use Rattle.test1.specs.Calls.{call_marked, marked_refused}
use Rattle.base.specs.Heap.{Heap, heap}
use Rattle.base.specs.declared.Refusal.{Refusal}
use Rattle.layout.specs.Plans.{sizes_given}
use Rattle.layout.specs.declared.Sizes.{Sizes}
use Rattle.layout.specs.declared.Lay.{Lay}
use Rattle.layout.specs.Layout.{lay_of}
use Rattle.test1.specs.Test1.{opened}
use Rattle.accounts.specs.declared.Answer.{Answer}
use Rattle.steps.specs.Steps.{unmarked, budget_in, gc_step}
use Rattle.steps.proofs.gc_step.Goals as goal

-- the same budget does the same
same-budget : (n m : ℕ) (l : Lay) (h : Heap) {x : Result Answer Refusal × Heap} → n ≡ m → x ≡ budget_in n l h → x ≡ budget_in m l h
same-budget n m l h p e = e ∙ ap (λ (k : ℕ). budget_in k l h) p

-- a call whose work is done and whose mark is looked at
told : (f : Lay → Heap → Result Answer Refusal × Heap) (w b : List ℕ) (s : Sizes) (a : Result Answer Refusal) (v c : List ℕ) {o : Result Sizes Refusal} {r : Result Answer Refusal} → o ≡ opened w (length b) → o ≡ Ok s → (a, heap v c) ≡ f (lay_of s) (heap w b) → r ≡ unmarked v a → (r, heap v c) ≡ call_marked Err f (heap w b)
unfolding call_marked
told f w b s a v c p q e u = rw (← p, q, ← e, ← u)

pub budget_in-a-requires : goal.budget_in-a-requires
budget_in-a-requires c = record { l_in_bounds = (rw c.in_ok-l.was at c.enter.ensures.1).words; l_in_bounds_2 = (rw c.in_ok-l.was at c.enter.ensures.1).bytes }

pub unmarked-requires : goal.unmarked-requires
unmarked-requires c = omega (arith, (rw c.in_ok-l.was at c.enter.ensures.1).header, c.budget_in-a.auto.w)

pub returns : goal.returns
unfolding gc_step
returns c = told _ _ _ _ _ _ _ c.enter.ensures.0 (ap sizes_given c.in_ok-l.was) (same-budget _ _ _ _ (c.budget_of.ensures ∙ ap budget_of (to_z-of_z w64 c.args.budget c.ranges.budget)) c.budget_in-a.ensures) c.unmarked.ensures

pub returns-in_err-l : goal.returns-in_err-l
unfolding gc_step
returns-in_err-l c = let p = err_from_is_err_and c.from_residual.result c.from_residual.ensures.1 in rw (p.1, p.2) (marked_refused _ _ _ _ _ c.enter.ensures.0 (ap sizes_given c.in_err-l.was))
