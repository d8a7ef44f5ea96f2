-- Runs of the public calls that step. Demand 3 by them is proved in proofs/Publics.antt.
--     Step, until       gc_singlestep, gc_step and gc_step_auto with any budgets, one after the other, until one has ended the sweep
use Rattle.std.specs.Prelude.{List, [], ◌∷◌, ℤ}
use Prim.Native.Nat.{ℕ, zero, suc}
use Rattle.base.specs.Ways.{if_eq}
use Rattle.base.specs.Words.{at}
use Rattle.base.specs.Heap.{Heap}
use Rattle.layout.specs.Places.{PHASE}
use Rattle.made.specs.Made.{Call, Call-gc_singlestep, Call-gc_step, Call-gc_step_auto, called}

-- The steps: single, budgeted, automatic.
pub data Step : Type 0 where
  single : Step
  budget : ℤ → Step
  auto : Step

-- each as a public call
abbrev pub as_call : Step → Call
as_call single = Call-gc_singlestep
as_call (budget n) = Call-gc_step n
as_call auto = Call-gc_step_auto

-- The calls one after the other, until one has ended the sweep: the phase is then Finalize, or Pause again.
unfoldable pub until : List Step → Heap → Heap
until [] h = h
until (c ∷ cs) h =
    let g = called (as_call c) h in
    if_eq (at g.words PHASE) 0 g (if_eq (at g.words PHASE) 4 g (until cs g))

-- n single steps
abbrev pub some : ℕ → List Step
some zero = []
some (suc n) = single ∷ some n
