-- The sweep's cursor, a value that a step takes and hands back: an arena and a slot. Assumes nothing.
use Rattle.std.specs.Prelude.{List, ℕ, ◌+◌}
use Rattle.base.specs.Words.{at, put}
use Rattle.layout.specs.Places.{CURSOR_ARENA, CURSOR_SLOT}
use Rattle.sweep_step.specs.declared.SweepCursor.{SweepCursor}

abbrev pub cursor : ℕ → ℕ → SweepCursor
cursor k i = record { arena_index = k; slot_position = i }

abbrev pub start : SweepCursor
start = cursor 0 0

abbrev pub advanced : SweepCursor → ℕ → SweepCursor
advanced c i = cursor c.arena_index i

abbrev pub next_arena : SweepCursor → SweepCursor
next_arena c = cursor (c.arena_index + 1) 0

abbrev pub cursor_at : List ℕ → SweepCursor
cursor_at w = cursor (at w CURSOR_ARENA) (at w CURSOR_SLOT)

abbrev pub put_cursor : SweepCursor → List ℕ → List ℕ
put_cursor c w = put CURSOR_SLOT c.slot_position (put CURSOR_ARENA c.arena_index w)
