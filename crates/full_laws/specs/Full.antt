-- A full collection from Pause: what it answers. That it does so, and what is freed by then, is proved in proofs/Full.antt.
--     Result               what a full collection answers
use Rattle.std.specs.Prelude.{◌≡◌, ◌⊎◌, length, Ok, Result as Fallible}
use mathlib.Core.List.{List}
use Prim.Native.Nat.{ℕ, ◌≤◌}
use Rattle.base.specs.Words.{at}
use Rattle.base.specs.Heap.{Heap}
use Rattle.base.specs.declared.Refusal.{Refusal}
use Rattle.value.specs.declared.UdRef.{UdRef}
use Rattle.value.specs.declared.Value.{Value}
use Rattle.layout.specs.declared.Lay.{Lay}
use Rattle.layout.specs.Places.{PHASE}
use Rattle.lists.specs.Lists.{length_of}
use Rattle.laid.specs.Laid.{Laid}
use Rattle.mark_laws.specs.Apart.{Apart}
use Rattle.room_laws.specs.Tallies.{Ample}
use Rattle.reach.specs.Cycle.{AllWhite}
use Rattle.atomic_laws.specs.Bodies.{Bodies}
use Rattle.accounts.specs.declared.Answer.{Answer}
use Rattle.accounts.specs.declared.Answer.TheVariants.{Ended, Handed}
use Rattle.sweep_laws.specs.Places.{Rows}
use Rattle.sweep_laws.specs.Turns.{Arenas}
use Rattle.sweep_laws.specs.Mixtures.{Past}

module _ (l : Lay) (ok : Laid l) (a : Apart l) (r : Rows l) (am : Ample l) (y : Bodies l) (w b : List ℕ) (long : l.words ≤ length w) (f : AllWhite l w) (none : length_of l.queue w ≡ 0)
    (v : Arenas l w) (pause : at w PHASE ≡ 0) where
  abbrev Q : Heap → Type 0
  Q h = Past l ok a r am y w b long f none v h

  -- What a full collection answers: it ended, at Pause, or a finalizer is handed out.
  abbrev pub Result : Fallible Answer Refusal × Heap → Type 0
  Result (x, h) = Q h × (((x ≡ Ok Ended) × (at h.words PHASE ≡ 0)) ⊎ ((q : UdRef) × (z : Value) × (x ≡ Ok (Handed q z))))
