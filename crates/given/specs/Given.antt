-- What a call is given to store: a handle given must name an occupied slot of its kind (document 01, row 2). Assumes nothing.
use Rattle.std.specs.Prelude.{Bool, true, false, List, ℕ, Some, None, Option}
use Rattle.arena.specs.declared.Arena.{Arena}
use Rattle.arena.specs.Slots.{named}
use Rattle.layout.specs.declared.Lay.{Lay}
use Rattle.value.specs.declared.TableRef.{TableRef}
use Rattle.value.specs.declared.UpvalRef.{UpvalRef}
use Rattle.value.specs.declared.Value.{Value}
use Rattle.value.specs.declared.Value.TheVariants.{Nil, Boolean, Light, Number, Str, Table, Function, Userdata, Thread}

abbrev pub is_at : Option ℕ → Bool
is_at (Some i) = true
is_at None = false

-- A handle names an occupied slot of its generation.
unfoldable pub is_named : Arena → ℕ → ℕ → List ℕ → Bool
is_named a i g w = is_at (named a i g w)

abbrev pub is_table : Lay → TableRef → List ℕ → Bool
is_table l r w = is_named l.tables r.0 r.1 w

abbrev pub is_upvalue : Lay → UpvalRef → List ℕ → Bool
is_upvalue l r w = is_named l.upvalues r.0 r.1 w

-- A table that may be missing.
unfoldable pub is_table_or : Lay → Option TableRef → List ℕ → Bool
is_table_or l (Some r) w = is_table l r w
is_table_or l None w = true

-- A value that refers to an object names one; any other is sound.
unfoldable pub is_sound : Lay → Value → List ℕ → Bool
is_sound l Nil w = true
is_sound l (Boolean b) w = true
is_sound l (Light x) w = true
is_sound l (Number x) w = true
is_sound l (Str r) w = is_named l.strings r.0 r.1 w
is_sound l (Table r) w = is_named l.tables r.0 r.1 w
is_sound l (Function r) w = is_named l.functions r.0 r.1 w
is_sound l (Userdata r) w = is_named l.userdata r.0 r.1 w
is_sound l (Thread r) w = is_named l.threads r.0 r.1 w
