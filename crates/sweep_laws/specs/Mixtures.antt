-- A collection with other work on the words of pacing between its single steps: what holds at each point of it. That it does is proved
-- in proofs/Mixtures.antt.
--     Based             the words before the collection, but for the phase and words of pacing
--     Going, Past       a collection under way, before Finalize; one whose sweep is over, in Finalize or at Pause again
--     Outcome           what is freed then
use Rattle.std.specs.Prelude.{◌≡◌, ◌⊎◌, ◌≢◌, ◌↔◌, ℕ, ◌≤◌}
use mathlib.Core.List.{List, []}
use Rattle.std.proofs.Math.ListN.{length}
use Rattle.base.specs.Words.{at}
use Rattle.base.specs.Heap.{Heap, heap}
use Rattle.arena.specs.Slots.{fresh}
use Rattle.layout.specs.declared.Lay.{Lay}
use Rattle.layout.specs.Places.{PHASE, WHITE}
use Rattle.lists.specs.Lists.{damage, length_of}
use Rattle.laid.specs.Laid.{Laid}
use Rattle.mark.specs.Ops.{Ref, other_white}
use Rattle.mark.specs.Words.{arena_of, colour_w}
use Rattle.step.specs.Step.{single_step}
use Rattle.mark_laws.specs.Apart.{Apart}
use Rattle.room_laws.specs.Tallies.{Ample}
use Rattle.reach.specs.Reached.{Root}
use Rattle.reach.specs.Cycle.{AllWhite}
use Rattle.reach.specs.Oks.{Ok}
use Rattle.reach.specs.Exact.{None, First}
use Rattle.atomic_laws.specs.Kept.{Kept, Spared}
use Rattle.atomic_laws.specs.Bodies.{Bodies}
use Rattle.atomic_laws.specs.Notes.{Noted}
use Rattle.sweep_laws.specs.Places.{Rows}
use Rattle.sweep_laws.specs.Turns.{Arenas, To, Stage}
use Rattle.sweep_laws.specs.Repaints.{Repainted}
use Rattle.sweep_laws.specs.Collections.{Freed, Ready, ready_arenas}

-- The words u are w but for the phase and words of pacing: what is kept and spared is the same.
pub record Based (l : Lay) (w b u : List ℕ) : Type 0 where
  pub paint : Repainted l w u
  pub shades : (x : Ref) → colour_w l x u ≡ colour_w l x w
  pub keeps : (x : Ref) → (Kept l u b x ⊎ Spared l u b x) ↔ (Kept l w b x ⊎ Spared l w b x)
  pub white : at u WHITE ≡ at w WHITE
  pub mark : at u damage ≡ at w damage
  pub whites : AllWhite l u
  pub queue : length_of l.queue u ≡ 0

-- Words u during Propagate: marking that began at words that are so.
pub record Marking (l : Lay) (w b u : List ℕ) : Type 0 where
  pub base : List ℕ
  pub based : Based l w b base
  pub ok : Ok l base b (Root l base b) (First l base) None 0 0 0 [] u
  pub noted : Noted l base b u
  pub phase : at u PHASE ≡ 1

-- The outcome of a collection that began at words w and bytes b, with the chains of the arenas v; the atomic step left the heap `left`.
-- In each arena exactly what is to be freed is freed; the white has flipped, and no damage is marked. At Pause the queue is empty.
pub record Outcome (l : Lay) (w b : List ℕ) (v : Arenas l w) (h : Heap) : Type 0 where
  pub left : Heap
  pub long : length h.words ≡ length w
  pub size : length h.bytes ≡ length b
  pub arenas : (k : ℕ) (i : k ≤ 5) → Freed l w b k (v k i).free left h
  pub white : at h.words WHITE ≡ other_white (at w WHITE)
  pub whole : at h.words damage ≡ at w damage
  pub empty : at h.words PHASE ≡ 0 → length_of l.queue h.words ≡ 0

module _ (l : Lay) (ok : Laid l) (a : Apart l) (r : Rows l) (am : Ample l) (y : Bodies l) (w b : List ℕ) (long : l.words ≤ length w) (f : AllWhite l w) (none : length_of l.queue w ≡ 0)
    (v : Arenas l w) where
  -- The sweep that began at h₀ is over.
  pub record Over (h₀ : Heap) (x : Ready l w b h₀) (h : Heap) : Type 0 where
    pub size : length h.words ≡ length h₀.words
    pub white : at h.words WHITE ≡ at h₀.words WHITE
    pub mark : at h.words damage ≡ at h₀.words damage
    pub phase : (at h.words PHASE ≡ 4) ⊎ ((at h.words PHASE ≡ 0) × (length_of l.queue h.words ≡ 0))
    pub arenas : (k : ℕ) (i : k ≤ 5) → To l k (fresh (arena_of l k) h₀.words) h₀ h (ready_arenas l ok a r w b long f v h₀ x k i).free

  -- A collection under way: at Pause, in Propagate, in the sweep.
  pub data Going (h : Heap) : Type 0 where
    paused : (u : List ℕ) → h ≡ heap u b → Based l w b u → at u PHASE ≡ 0 → Going h
    marking : (u : List ℕ) → h ≡ heap u b → Marking l w b u → Going h
    sweeping : (h₀ : Heap) (x : Ready l w b h₀) (j n : ℕ) → j ≤ 5 → Stage l h₀ (ready_arenas l ok a r w b long f v h₀ x) j n h → Going h

  -- One whose sweep is over.
  pub data Past (h : Heap) : Type 0 where
    past : (h₀ : Heap) (x : Ready l w b h₀) → Over h₀ x h → Past h

  -- What a single step comes to: not Pause yet, or Finalize.
  abbrev pub Stepped : Heap → Type 0
  Stepped h = (Going (single_step l h).1 × (at (single_step l h).1.words PHASE ≢ 0)) ⊎ (Past (single_step l h).1 × (at (single_step l h).1.words PHASE ≡ 4))
