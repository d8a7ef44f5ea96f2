-- Document 01: "The audit says yes exactly if the phase is Pause, each list is within its room, each chain holds every free slot
-- below its arena's fresh index once, and every handle in an occupied record names an occupied slot." Assumes nothing.
--     Passes                  the sentence
use Rattle.std.specs.Prelude.{◌≡◌, List as Words, ℕ, ◌≤◌, ◌<◌}
use Rattle.base.specs.Words.{at}
use Rattle.arena.specs.Slots.{fresh}
use Rattle.layout.specs.declared.List.{List}
use Rattle.layout.specs.declared.Lay.{Lay}
use Rattle.layout.specs.Places.{PHASE}
use Rattle.reads.specs.Objects.{arena_of}
use Rattle.reads.specs.declared.Kind.{Kind}
use Rattle.audit_laws.specs.Walks.{Chained}
use Rattle.audit_laws.specs.Handles.{SlotHolds}

-- The list is within its room.
abbrev pub Within : List → Words ℕ → Type 0
Within b w = at w b.count ≤ b.room

pub record Passes (l : Lay) (w : Words ℕ) : Type 0 where
  -- the phase is Pause
  pub pause : at w PHASE ≡ 0
  -- each list is within its room
  pub gray : Within l.gray w
  pub grayagain : Within l.grayagain w
  pub weak : Within l.weak w
  pub queue : Within l.queue w
  -- each chain holds every free slot below its arena's fresh index once
  pub chains : (k : Kind) → Chained (arena_of l k) w
  -- every handle in an occupied record names an occupied slot
  pub handles : (k : Kind) (i : ℕ) → i < fresh (arena_of l k) w → SlotHolds l w k i
