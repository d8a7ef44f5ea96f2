-- What budgeted steps and full collections come to. That they keep the state is proved in proofs/Paces.antt.
--     Turned            turns of a budgeted step
--     Driven            steps until a phase, as far as they come
--     Through           so many steps as are made come to Pause, or hand a finalizer out
use Rattle.std.specs.Prelude.{Some, None, Option, Result}
use Prim.Native.Nat.{ℕ, zero, suc, ◌+◌, ◌≤◌}
use Rattle.base.specs.Words.{at}
use Rattle.base.specs.Heap.{Heap}
use Rattle.std.specs.declared.ops.ControlFlow.TheVariants.{Continue, Break}
use Rattle.std.specs.declared.ops.ControlFlow.{ControlFlow}
use Rattle.base.specs.declared.Refusal.{Refusal}
use Rattle.value.specs.declared.Value.{Value}
use Rattle.value.specs.declared.UdRef.{UdRef}
use Rattle.accounts.specs.declared.Answer.{Answer}
use Rattle.layout.specs.declared.Lay.{Lay}
use Rattle.layout.specs.Places.{PHASE}
use Rattle.laid.specs.Laid.{Laid}
use Rattle.mark.specs.Words.{arena_of}
use Rattle.mark_laws.specs.Apart.{Apart}
use Rattle.room_laws.specs.Tallies.{Ample}
use Rattle.atomic_laws.specs.Bodies.{Bodies}
use Rattle.sweep_laws.specs.Places.{Rows}
use Rattle.state_laws.specs.State.{State}
use Rattle.state_step_laws.specs.Marks.{Free}

-- The slots of the arenas before the j-th, and one more for each.
unfoldable pub before : Lay → ℕ → ℕ
before l zero = 0
before l (suc j) = before l j + (arena_of l j).slots + 1

module _ (l : Lay) (ok : Laid l) (a : Apart l) (r : Rows l) where
  module _ (am : Ample l) (y : Bodies l) where
    -- What a turn leaves: work to go on with, or an end.
    abbrev pub Turned : ControlFlow (Result Answer Refusal) ℕ × Heap → Type 0
    Turned (Continue k, h) = Free l h
    Turned (Break x, h) = State l h

    -- Steps until a phase, as far as they come.
    abbrev pub Driven : Option (UdRef × Value) × Heap → Type 0
    Driven (None, h) = Free l h
    Driven (Some (z, v), h) = State l h

    -- In the first half the steps come through: to Pause or Propagate, or a finalizer is handed out.
    abbrev pub Through : Option (UdRef × Value) × Heap → Type 0
    Through (None, h) = Free l h × (at h.words PHASE ≤ 1)
    Through (Some (z, v), h) = State l h
