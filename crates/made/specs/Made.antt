-- The heaps that our calls make: those reached from a heap that `make_heap` made by any sequence of the public calls, each with
-- any arguments. A call that refuses is one of them: it changes nothing, or as its definition says. A call that only reads changes
-- nothing, so it has no line here. Numbers are of any size; those of the code have 32 or 64 bits. Assumes nothing: these are
-- definitions.
use Rattle.std.specs.Prelude.{◌≡◌, Bool, List, ℕ, ℤ, Ok, Option}
use Rattle.base.specs.Heap.{Heap}
use Rattle.value.specs.declared.TableRef.{TableRef}
use Rattle.value.specs.declared.UpvalRef.{UpvalRef}
use Rattle.value.specs.declared.UdRef.{UdRef}
use Rattle.value.specs.declared.ThreadRef.{ThreadRef}
use Rattle.value.specs.declared.Value.{Value}
use Rattle.layout.specs.declared.Sizes.{Sizes}
use Rattle.newheap.specs.New.{make_heap}
use Rattle.make_strings.specs.Making.{make_string}
use Rattle.make_tables.specs.Making.{make_table, make_userdata}
use Rattle.make_protos.specs.Making.{make_proto}
use Rattle.make_closures.specs.Making.{make_lua_closure, make_rust_closure}
use Rattle.make_threads.specs.Making.{make_open_upvalue, make_closed_upvalue, make_thread}
use Rattle.table_calls.specs.TableCalls.{table_set, table_set_meta}
use Rattle.node_calls.specs.NodeCalls.{table_set_node}
use Rattle.upvalue_calls.specs.UpvalueCalls.{upvalue_close, upvalue_set}
use Rattle.object_calls.specs.ObjectCalls.{ud_set_meta, ud_set_env, set_type_meta}
use Rattle.thread_stack_calls.specs.ThreadStacks.{thread_push, thread_pop}
use Rattle.thread_set_calls.specs.ThreadSets.{thread_set, thread_set_top}
use Rattle.thread_open_calls.specs.ThreadOpens.{thread_open_push, thread_open_cut}
use Rattle.thread_suspended_calls.specs.ThreadSuspended.{thread_suspended_push, thread_suspended_cut}
use Rattle.thread_calls.specs.ThreadCalls.{thread_set_global, thread_set_error}
use Rattle.hook_calls.specs.HookCalls.{thread_set_hook}
use Rattle.stack_calls.specs.StackCalls.{push, pop, stack_set, set_top}
use Rattle.main_calls.specs.MainCalls.{open_push, open_cut, set_error, set_hook}
use Rattle.frame_calls.specs.FrameCalls.{set_frame, set_ci}
use Rattle.steps.specs.Steps.{gc_singlestep, gc_step, gc_step_auto, full_gc, gc_check, finish}
use Rattle.settings.specs.Settings.{set_pause, set_stepmul, set_limit}

-- The public calls that may change a heap, with what each is given.
pub data Call : Type 0 where
  -- Making an object.
  Call-make_string : List ℕ → Call
  Call-make_table : ℕ → ℕ → Call
  Call-make_proto : List ℕ → List ℕ → Call
  Call-make_lua_closure : ℕ → TableRef → List ℕ → Call
  Call-make_rust_closure : Option TableRef → List ℕ → Call
  Call-make_open_upvalue : Call
  Call-make_closed_upvalue : Value → Call
  Call-make_userdata : Call
  Call-make_thread : TableRef → ℕ → Call
  -- Storing in a table, an upvalue, a userdata.
  Call-table_set : TableRef → ℕ → Value → Call
  Call-table_set_node : TableRef → ℕ → Value → Value → Call
  Call-table_set_meta : TableRef → Option TableRef → Call
  Call-upvalue_close : UpvalRef → Value → Call
  Call-upvalue_set : UpvalRef → Value → Call
  Call-ud_set_meta : UdRef → Option TableRef → Call
  Call-ud_set_env : UdRef → Option TableRef → Call
  -- Changing a thread.
  Call-thread_push : ThreadRef → Value → Call
  Call-thread_pop : ThreadRef → Call
  Call-thread_set : ThreadRef → ℕ → Value → Call
  Call-thread_set_top : ThreadRef → ℕ → Call
  Call-thread_open_push : ThreadRef → UpvalRef → Call
  Call-thread_open_cut : ThreadRef → ℕ → Call
  Call-thread_suspended_push : ThreadRef → UpvalRef → Call
  Call-thread_suspended_cut : ThreadRef → ℕ → Call
  Call-thread_set_global : ThreadRef → TableRef → Call
  Call-thread_set_error : ThreadRef → Value → Call
  Call-thread_set_hook : ThreadRef → Value → Call
  -- Changing the main record.
  Call-push_value : Value → Call
  Call-pop_value : Call
  Call-stack_set : ℕ → Value → Call
  Call-set_top : ℕ → Call
  Call-open_push : UpvalRef → Call
  Call-open_cut : ℕ → Call
  Call-set_frame : ℕ → ℕ → Call
  Call-set_ci : ℕ → Call
  Call-set_error : Value → Call
  Call-set_hook : Value → Call
  Call-set_type_meta : ℕ → Option TableRef → Call
  -- Collecting.
  Call-gc_singlestep : Call
  Call-gc_step : ℤ → Call
  Call-gc_step_auto : Call
  Call-full_gc : Call
  Call-gc_check : Call
  Call-finish_with : Bool → Call
  -- Settings.
  Call-set_pause : ℕ → Call
  Call-set_stepmul : ℕ → Call
  Call-set_limit : ℕ → Call

-- The heap after a call: by the definition that the call's contract cites.
abbrev pub called : Call → Heap → Heap
called (Call-make_string s) h = (make_string s h).1
called (Call-make_table array nodes) h = (make_table array nodes h).1
called (Call-make_proto constants nested) h = (make_proto constants nested h).1
called (Call-make_lua_closure proto env upvalues) h = (make_lua_closure proto env upvalues h).1
called (Call-make_rust_closure env values) h = (make_rust_closure env values h).1
called Call-make_open_upvalue h = (make_open_upvalue h).1
called (Call-make_closed_upvalue v) h = (make_closed_upvalue v h).1
called Call-make_userdata h = (make_userdata h).1
called (Call-make_thread global stack) h = (make_thread global stack h).1
called (Call-table_set t i v) h = (table_set t i v h).1
called (Call-table_set_node t j k v) h = (table_set_node t j k v h).1
called (Call-table_set_meta t m) h = (table_set_meta t m h).1
called (Call-upvalue_close u v) h = (upvalue_close u v h).1
called (Call-upvalue_set u v) h = (upvalue_set u v h).1
called (Call-ud_set_meta d t) h = (ud_set_meta d t h).1
called (Call-ud_set_env d t) h = (ud_set_env d t h).1
called (Call-thread_push t v) h = (thread_push t v h).1
called (Call-thread_pop t) h = (thread_pop t h).1
called (Call-thread_set t i v) h = (thread_set t i v h).1
called (Call-thread_set_top t n) h = (thread_set_top t n h).1
called (Call-thread_open_push t u) h = (thread_open_push t u h).1
called (Call-thread_open_cut t n) h = (thread_open_cut t n h).1
called (Call-thread_suspended_push t u) h = (thread_suspended_push t u h).1
called (Call-thread_suspended_cut t n) h = (thread_suspended_cut t n h).1
called (Call-thread_set_global t g) h = (thread_set_global t g h).1
called (Call-thread_set_error t v) h = (thread_set_error t v h).1
called (Call-thread_set_hook t v) h = (thread_set_hook t v h).1
called (Call-push_value v) h = (push v h).1
called Call-pop_value h = (pop h).1
called (Call-stack_set i v) h = (stack_set i v h).1
called (Call-set_top n) h = (set_top n h).1
called (Call-open_push u) h = (open_push u h).1
called (Call-open_cut n) h = (open_cut n h).1
called (Call-set_frame i n) h = (set_frame i n h).1
called (Call-set_ci i) h = (set_ci i h).1
called (Call-set_error v) h = (set_error v h).1
called (Call-set_hook v) h = (set_hook v h).1
called (Call-set_type_meta k t) h = (set_type_meta k t h).1
called Call-gc_singlestep h = (gc_singlestep h).1
called (Call-gc_step budget) h = (gc_step budget h).1
called Call-gc_step_auto h = (gc_step_auto h).1
called Call-full_gc h = (full_gc h).1
called Call-gc_check h = (gc_check h).1
called (Call-finish_with ok) h = (finish ok h).1
called (Call-set_pause n) h = (set_pause n h).1
called (Call-set_stepmul n) h = (set_stepmul n h).1
called (Call-set_limit n) h = (set_limit n h).1

-- A heap that the calls make: `make_heap` made it of any buffers, by sizes that it does not refuse; or a call was made on one.
pub data Made : Heap → Type 0 where
  new : (s : Sizes) (before : Heap) {h : Heap} → (make_heap s before).0 ≡ Ok tt → h ≡ (make_heap s before).1 → Made h
  after : {g h : Heap} → Made g → (c : Call) → h ≡ called c g → Made h
