-- The main record and the other roots: fields of the header at the places of layout's specs/Places, and three parts past the
-- boundary: the main stack, 3 words for each value; the main open list, 2 words for each upvalue's handle; the frames, a word
-- for each, its function index. Assumes nothing.
use Rattle.std.specs.Prelude.{List, ℕ, ◌+◌, ◌*◌, ◌-◌, min, Option}
use Rattle.base.specs.Words.{at, put}
use Rattle.value.specs.declared.StrRef.{StrRef}
use Rattle.value.specs.declared.TableRef.{TableRef}
use Rattle.value.specs.declared.Value.{Value}
use Rattle.value.specs.declared.UpvalRef.{UpvalRef}
use Rattle.value.specs.Values.{value_at, put_value}
use Rattle.value.specs.Handles.{table_or_at, put_table_or, str_or_at, put_str_or}
use Rattle.layout.specs.declared.Lay.{Lay}
use Rattle.layout.specs.Places.{TOP, OPENS, CI, ERROR, HOOK, GLOBAL, REGISTRY, NAME_MODE, NAME_GC, METATABLES}
use Rattle.record.specs.Fields.{upval_at, put_upval}

-- Top, open count and ci, each within its part. (Test 1 keeps the stored ones there.)
abbrev pub main_top : Lay → List ℕ → ℕ
main_top l w = min (at w TOP) l.stack.room

abbrev pub set_main_top : ℕ → List ℕ → List ℕ
set_main_top n w = put TOP n w

abbrev pub main_open_count : Lay → List ℕ → ℕ
main_open_count l w = min (at w OPENS) l.opens.room

abbrev pub set_main_open_count : ℕ → List ℕ → List ℕ
set_main_open_count n w = put OPENS n w

abbrev pub main_ci : Lay → List ℕ → ℕ
main_ci l w = min (at w CI) (l.frames.room - 1)

abbrev pub set_main_ci : ℕ → List ℕ → List ℕ
set_main_ci n w = put CI n w

-- error value, hook function
abbrev pub main_error : List ℕ → Value
main_error w = value_at w ERROR

abbrev pub set_main_error : Value → List ℕ → List ℕ
set_main_error v w = put_value ERROR v w

abbrev pub main_hook : List ℕ → Value
main_hook w = value_at w HOOK

abbrev pub set_main_hook : Value → List ℕ → List ℕ
set_main_hook v w = put_value HOOK v w

-- global, registry, the names `__mode` and `__gc`, the nine type metatables
abbrev pub global : List ℕ → Option TableRef
global w = table_or_at w GLOBAL

abbrev pub set_global : Option TableRef → List ℕ → List ℕ
set_global t w = put_table_or GLOBAL t w

abbrev pub registry : List ℕ → Option TableRef
registry w = table_or_at w REGISTRY

abbrev pub set_registry : Option TableRef → List ℕ → List ℕ
set_registry t w = put_table_or REGISTRY t w

abbrev pub mode_name : List ℕ → Option StrRef
mode_name w = str_or_at w NAME_MODE

abbrev pub set_mode_name : Option StrRef → List ℕ → List ℕ
set_mode_name s w = put_str_or NAME_MODE s w

abbrev pub gc_name : List ℕ → Option StrRef
gc_name w = str_or_at w NAME_GC

abbrev pub set_gc_name : Option StrRef → List ℕ → List ℕ
set_gc_name s w = put_str_or NAME_GC s w

abbrev pub type_meta : ℕ → List ℕ → Option TableRef
type_meta k w = table_or_at w (METATABLES + 2 * k)

abbrev pub set_type_meta : ℕ → Option TableRef → List ℕ → List ℕ
set_type_meta k t w = put_table_or (METATABLES + 2 * k) t w

-- stack, open list, frames
abbrev pub main_value : Lay → ℕ → List ℕ → Value
main_value l i w = value_at w (l.stack.base + 3 * i)

abbrev pub set_main_value : Lay → ℕ → Value → List ℕ → List ℕ
set_main_value l i v w = put_value (l.stack.base + 3 * i) v w

abbrev pub main_open : Lay → ℕ → List ℕ → UpvalRef
main_open l i w = upval_at w (l.opens.base + 2 * i)

abbrev pub set_main_open : Lay → ℕ → UpvalRef → List ℕ → List ℕ
set_main_open l i u w = put_upval (l.opens.base + 2 * i) u w

abbrev pub frame_function : Lay → ℕ → List ℕ → ℕ
frame_function l i w = at w (l.frames.base + i)

abbrev pub set_frame_function : Lay → ℕ → ℕ → List ℕ → List ℕ
set_frame_function l i n w = put (l.frames.base + i) n w
