-- The calls that give a userdata a metatable or an environment, or a type its metatable, or take it away: 1 and 8 as every call,
-- then 4, then 2. The barrier follows the store of a table; where the work set the damage mark the answer is 8. Assumes nothing.
use Rattle.std.specs.Prelude.{cond, List, ℕ, Some, None, Ok, Err, Option, Result}
use Rattle.base.specs.Ways.{if_lt}
use Rattle.base.specs.Heap.{Heap}
use Rattle.base.specs.declared.Refusal.TheVariants.{Stale, OutOfRange}
use Rattle.base.specs.declared.Refusal.{Refusal}
use Rattle.value.specs.declared.TableRef.{TableRef}
use Rattle.value.specs.declared.UdRef.{UdRef}
use Rattle.value.specs.declared.Value.TheVariants.{Table}
use Rattle.layout.specs.declared.Lay.{Lay}
use Rattle.object_calls.specs.declared.Part.{Part}
use Rattle.object_calls.specs.declared.Part.TheVariants as part
use Rattle.record.specs.Userdata.{set_ud_meta, set_ud_env}
use Rattle.main_record.specs.Main.{set_type_meta as putTypeMeta}
use Rattle.test1.specs.Calls.{call_marked, in_words}
use Rattle.given.specs.Answers.{on_named}
use Rattle.given.specs.Given.{is_table_or}
use Rattle.mark.specs.Words.{shade, ops}
use Rattle.propagate.specs.Barriers.{barrier_forward}

-- The forward barrier of a table that is given; taking one away calls none.
unfoldable pub forward_table : Lay → ℕ → Option TableRef → List ℕ → List ℕ
forward_table l parent (Some r) w = barrier_forward (ops l) l parent (Table r) w
forward_table l parent None w = w

-- with a userdata as the parent
unfoldable pub forward_from : Lay → UdRef → Option TableRef → List ℕ → List ℕ
forward_from l d t w = forward_table l (shade l.userdata d.0 d.1 w) t w

-- The metatable of userdata d, whose record is at p: one that is given and names no table is 2. Giving a userdata a metatable calls
-- the forward barrier.
unfoldable pub meta_at : Lay → UdRef → Option TableRef → ℕ → List ℕ → Result Unit Refusal × List ℕ
meta_at l d t p w = cond (is_table_or l t w) (Ok tt, forward_from l d t (set_ud_meta p t w)) (Err Stale, w)

unfoldable pub ud_set_meta_in : UdRef → Option TableRef → Lay → List ℕ → Result Unit Refusal × List ℕ
ud_set_meta_in d t l w = on_named l.userdata d.0 d.1 (meta_at l d t) w

unfoldable pub ud_set_meta : UdRef → Option TableRef → Heap → Result Unit Refusal × Heap
ud_set_meta d t h = call_marked Err (in_words (ud_set_meta_in d t)) h

-- The same of its environment.
unfoldable pub env_at : Lay → UdRef → Option TableRef → ℕ → List ℕ → Result Unit Refusal × List ℕ
env_at l d t p w = cond (is_table_or l t w) (Ok tt, forward_from l d t (set_ud_env p t w)) (Err Stale, w)

unfoldable pub ud_set_env_in : UdRef → Option TableRef → Lay → List ℕ → Result Unit Refusal × List ℕ
ud_set_env_in d t l w = on_named l.userdata d.0 d.1 (env_at l d t) w

unfoldable pub ud_set_env : UdRef → Option TableRef → Heap → Result Unit Refusal × Heap
ud_set_env d t h = call_marked Err (in_words (ud_set_env_in d t)) h

-- Either, by which of the two it is.
abbrev pub stored : Part → ℕ → Option TableRef → List ℕ → List ℕ
stored part.Meta p t w = set_ud_meta p t w
stored part.Env p t w = set_ud_env p t w

abbrev pub part_at : Part → Lay → UdRef → Option TableRef → ℕ → List ℕ → Result Unit Refusal × List ℕ
part_at part.Meta l d t p w = meta_at l d t p w
part_at part.Env l d t p w = env_at l d t p w

abbrev pub ud_set_in : Part → UdRef → Option TableRef → Lay → List ℕ → Result Unit Refusal × List ℕ
ud_set_in part.Meta d t l w = ud_set_meta_in d t l w
ud_set_in part.Env d t l w = ud_set_env_in d t l w

-- The metatable of type k. There are nine: a kind past 8 is 4. Giving the main record a type metatable calls the forward barrier;
-- the main record is taken as black (4).
unfoldable pub set_type_meta_in : ℕ → Option TableRef → Lay → List ℕ → Result Unit Refusal × List ℕ
set_type_meta_in k t l w =
    if_lt 8 k (Err OutOfRange, w)
    (cond (is_table_or l t w) (Ok tt, forward_table l 4 t (putTypeMeta k t w)) (Err Stale, w))

unfoldable pub set_type_meta : ℕ → Option TableRef → Heap → Result Unit Refusal × Heap
set_type_meta k t h = call_marked Err (in_words (set_type_meta_in k t)) h
