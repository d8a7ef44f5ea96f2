-- The calls that change a heap. Assumes nothing.
use Rattle.std.specs.Prelude.{List, ℕ, ◌+◌, Option}
use Rattle.base.specs.Heap.{Heap}
use Rattle.value.specs.declared.TableRef.{TableRef}
use Rattle.value.specs.declared.UdRef.{UdRef}
use Rattle.value.specs.declared.UpvalRef.{UpvalRef}
use Rattle.value.specs.declared.ThreadRef.{ThreadRef}
use Rattle.value.specs.declared.Value.{Value}
use Rattle.layout.specs.Places.{ERROR, HOOK}
use Rattle.layout.specs.declared.Lay.{Lay}
use Rattle.run_record.specs.Upvalues.{is_closed}
use Rattle.given.specs.Given.{is_sound, is_table, is_table_or}
use Rattle.owners.specs.Owners.{main_stack, main_opens, thread_stack, thread_opens, thread_suspended}
use Rattle.stack_calls.specs.StackCalls.{push, pop, stack_set, set_top}
use Rattle.main_calls.specs.MainCalls.{open_push, open_cut, set_error, set_hook}
use Rattle.frame_calls.specs.FrameCalls.{set_frame_in, set_frame, set_ci_in, set_ci}
use Rattle.settings.specs.Settings.{set_pause, set_stepmul, set_limit_in, set_limit}
use Rattle.thread_stack_calls.specs.ThreadStacks.{thread_push, thread_pop}
use Rattle.thread_set_calls.specs.ThreadSets.{thread_set, thread_set_top}
use Rattle.thread_open_calls.specs.ThreadOpens.{thread_open_push, thread_open_cut}
use Rattle.thread_suspended_calls.specs.ThreadSuspended.{thread_suspended_push, thread_suspended_cut}
use Rattle.thread_calls.specs.ThreadCalls.{global_at, thread_set_global, thread_set_error}
use Rattle.hook_calls.specs.HookCalls.{hook_at, thread_set_hook}
use Rattle.table_calls.specs.TableCalls.{store_at, table_set_in, table_set, store_meta, table_set_meta_in, table_set_meta}
use Rattle.node_calls.specs.NodeCalls.{is_node, is_taken, store_node, table_set_node_in, table_set_node}
use Rattle.upvalue_calls.specs.UpvalueCalls.{store_closed, close_at, upvalue_close_in, upvalue_close, set_at, upvalue_set_in, upvalue_set}
use Rattle.object_calls.specs.ObjectCalls.{meta_at, ud_set_meta_in, ud_set_meta, env_at, ud_set_env_in, ud_set_env, set_type_meta_in, set_type_meta}
use Rattle.state_laws.specs.Plains.{lt_both, le_both, cond_both}
use Rattle.refusal_laws.specs.Begins.{Answers, call_known, call_marked_known}
use Rattle.refusal_laws.specs.Stores.{store_value_known, push_value_known, pop_value_known, set_value_known, set_height_known, push_upvalue_known, cut_upvalues_known, on_named_known, on_thread_known}

-- The main stack.
pub push_known : (v : Value) (h : Heap) → Answers (push v h)
unfolding push
push_known v h = call_known _ _ (λ l. push_value_known l (main_stack l h.words) v h.words)

pub pop_known : (h : Heap) → Answers (pop h)
unfolding pop
pop_known h = call_known _ _ (λ l. pop_value_known (main_stack l h.words) h.words)

pub stack_set_known : (i : ℕ) (v : Value) (h : Heap) → Answers (stack_set i v h)
unfolding stack_set
stack_set_known i v h = call_known _ _ (λ l. set_value_known l (main_stack l h.words) i v h.words)

pub set_top_known : (n : ℕ) (h : Heap) → Answers (set_top n h)
unfolding set_top
set_top_known n h = call_known _ _ (λ l. set_height_known (main_stack l h.words) n h.words)

-- The main open list, the error value and the hook function.
pub open_push_known : (u : UpvalRef) (h : Heap) → Answers (open_push u h)
unfolding open_push
open_push_known u h = call_known _ _ (λ l. push_upvalue_known l (main_opens l h.words) u h.words)

pub open_cut_known : (n : ℕ) (h : Heap) → Answers (open_cut n h)
unfolding open_cut
open_cut_known n h = call_known _ _ (λ l. cut_upvalues_known (main_opens l h.words) n h.words)

pub set_error_known : (v : Value) (h : Heap) → Answers (set_error v h)
unfolding set_error
set_error_known v h = call_known _ _ (λ l. store_value_known l ERROR v h.words)

pub set_hook_known : (v : Value) (h : Heap) → Answers (set_hook v h)
unfolding set_hook
set_hook_known v h = call_known _ _ (λ l. store_value_known l HOOK v h.words)

-- The frames.
pub set_frame_known : (i n : ℕ) (h : Heap) → Answers (set_frame i n h)
unfolding set_frame set_frame_in
set_frame_known i n h = call_known _ _ (λ l. le_both Answers _ _ _ _ (λ e. tt) (λ e. lt_both Answers _ _ _ _ (λ z. tt) (λ z. tt)))

pub set_ci_known : (i : ℕ) (h : Heap) → Answers (set_ci i h)
unfolding set_ci set_ci_in
set_ci_known i h = call_known _ _ (λ l. le_both Answers _ _ _ _ (λ e. tt) (λ e. tt))

-- The settings.
pub set_pause_known : (n : ℕ) (h : Heap) → Answers (set_pause n h)
unfolding set_pause
set_pause_known n h = call_known _ _ (λ l. tt)

pub set_stepmul_known : (n : ℕ) (h : Heap) → Answers (set_stepmul n h)
unfolding set_stepmul
set_stepmul_known n h = call_known _ _ (λ l. tt)

pub set_limit_known : (n : ℕ) (h : Heap) → Answers (set_limit n h)
unfolding set_limit set_limit_in
set_limit_known n h = call_known _ _ (λ l. tt)

-- A thread's stack.
pub thread_push_known : (t : ThreadRef) (v : Value) (h : Heap) → Answers (thread_push t v h)
unfolding thread_push
thread_push_known t v h = call_known _ _ (λ l. on_thread_known _ _ _ _ (λ p. push_value_known l (thread_stack p h.words) v h.words))

pub thread_pop_known : (t : ThreadRef) (h : Heap) → Answers (thread_pop t h)
unfolding thread_pop
thread_pop_known t h = call_known _ _ (λ l. on_thread_known _ _ _ _ (λ p. pop_value_known (thread_stack p h.words) h.words))

pub thread_set_known : (t : ThreadRef) (i : ℕ) (v : Value) (h : Heap) → Answers (thread_set t i v h)
unfolding thread_set
thread_set_known t i v h = call_known _ _ (λ l. on_thread_known _ _ _ _ (λ p. set_value_known l (thread_stack p h.words) i v h.words))

pub thread_set_top_known : (t : ThreadRef) (n : ℕ) (h : Heap) → Answers (thread_set_top t n h)
unfolding thread_set_top
thread_set_top_known t n h = call_known _ _ (λ l. on_thread_known _ _ _ _ (λ p. set_height_known (thread_stack p h.words) n h.words))

-- Its open and suspended upvalues.
pub thread_open_push_known : (t : ThreadRef) (u : UpvalRef) (h : Heap) → Answers (thread_open_push t u h)
unfolding thread_open_push
thread_open_push_known t x h = call_known _ _ (λ l. on_thread_known _ _ _ _ (λ p. push_upvalue_known l (thread_opens p h.words) x h.words))

pub thread_open_cut_known : (t : ThreadRef) (n : ℕ) (h : Heap) → Answers (thread_open_cut t n h)
unfolding thread_open_cut
thread_open_cut_known t n h = call_known _ _ (λ l. on_thread_known _ _ _ _ (λ p. cut_upvalues_known (thread_opens p h.words) n h.words))

pub thread_suspended_push_known : (t : ThreadRef) (u : UpvalRef) (h : Heap) → Answers (thread_suspended_push t u h)
unfolding thread_suspended_push
thread_suspended_push_known t x h = call_known _ _ (λ l. on_thread_known _ _ _ _ (λ p. push_upvalue_known l (thread_suspended p h.words) x h.words))

pub thread_suspended_cut_known : (t : ThreadRef) (n : ℕ) (h : Heap) → Answers (thread_suspended_cut t n h)
unfolding thread_suspended_cut
thread_suspended_cut_known t n h = call_known _ _ (λ l. on_thread_known _ _ _ _ (λ p. cut_upvalues_known (thread_suspended p h.words) n h.words))

-- Its global table, error value and hook function.
pub thread_set_global_known : (t : ThreadRef) (g : TableRef) (h : Heap) → Answers (thread_set_global t g h)
unfolding thread_set_global global_at
thread_set_global_known t g h = call_known _ _ (λ l. on_thread_known _ _ _ _ (λ p. cond_both Answers (is_table l g h.words) _ _ (λ e. tt) (λ e. tt)))

pub thread_set_error_known : (t : ThreadRef) (v : Value) (h : Heap) → Answers (thread_set_error t v h)
unfolding thread_set_error
thread_set_error_known t v h = call_known _ _ (λ l. on_thread_known _ _ _ _ (λ p. store_value_known l (p + 5) v h.words))

pub thread_set_hook_known : (t : ThreadRef) (v : Value) (h : Heap) → Answers (thread_set_hook t v h)
unfolding thread_set_hook hook_at
thread_set_hook_known t v h = call_marked_known _ _ (λ l. on_thread_known _ _ _ _ (λ p. cond_both Answers (is_sound l v h.words) _ _ (λ e. tt) (λ e. tt)))

-- A table's array, metatable and nodes.
pub table_set_known : (t : TableRef) (i : ℕ) (v : Value) (h : Heap) → Answers (table_set t i v h)
unfolding table_set table_set_in store_at
table_set_known t i v h =
    call_marked_known _ _ (λ l. on_named_known l.tables t.0 t.1 (store_at l t i v) h.words
    (λ p. le_both Answers _ _ _ _ (λ e. tt) (λ e. cond_both Answers (is_sound l v h.words) _ _ (λ z. tt) (λ z. tt))))

pub table_set_meta_known : (t : TableRef) (m : Option TableRef) (h : Heap) → Answers (table_set_meta t m h)
unfolding table_set_meta table_set_meta_in store_meta
table_set_meta_known t m h =
    call_marked_known _ _ (λ l. on_named_known l.tables t.0 t.1 (store_meta l t m) h.words (λ p. cond_both Answers (is_table_or l m h.words) _ _ (λ e. tt) (λ e. tt)))

pub table_set_node_known : (t : TableRef) (j : ℕ) (k v : Value) (h : Heap) → Answers (table_set_node t j k v h)
unfolding table_set_node table_set_node_in store_node
table_set_node_known t j k v h =
    call_marked_known _ _ (λ l. cond_both Answers (is_node k v) _ _
    (λ e. on_named_known l.tables t.0 t.1 (store_node l t j k v) h.words
    (λ p. le_both Answers _ _ _ _ (λ z. tt)
    (λ z. cond_both Answers (is_taken p j k h.words) _ _ (λ y. tt)
    (λ y. cond_both Answers (is_sound l k h.words) _ _ (λ x. cond_both Answers (is_sound l v h.words) _ _ (λ u. tt) (λ u. tt)) (λ x. tt)))))
    (λ e. tt))

-- An upvalue closed, or set.
store_closed_known : (l : Lay) (u : UpvalRef) (v : Value) (p : ℕ) (w : List ℕ) → Answers (store_closed l u v p w)
unfolding store_closed
store_closed_known l u v p w = cond_both Answers (is_sound l v w) _ _ (λ e. tt) (λ e. tt)

pub upvalue_close_known : (u : UpvalRef) (v : Value) (h : Heap) → Answers (upvalue_close u v h)
unfolding upvalue_close upvalue_close_in close_at
upvalue_close_known u v h =
    call_marked_known _ _ (λ l. on_named_known l.upvalues u.0 u.1 (close_at l u v) h.words
    (λ p. cond_both Answers (is_closed p h.words) _ _ (λ e. tt) (λ e. store_closed_known l u v p h.words)))

pub upvalue_set_known : (u : UpvalRef) (v : Value) (h : Heap) → Answers (upvalue_set u v h)
unfolding upvalue_set upvalue_set_in set_at
upvalue_set_known u v h =
    call_marked_known _ _ (λ l. on_named_known l.upvalues u.0 u.1 (set_at l u v) h.words
    (λ p. cond_both Answers (is_closed p h.words) _ _ (λ e. store_closed_known l u v p h.words) (λ e. tt)))

-- The metatable and environment of a userdata, and the metatable of a type.
pub ud_set_meta_known : (d : UdRef) (t : Option TableRef) (h : Heap) → Answers (ud_set_meta d t h)
unfolding ud_set_meta ud_set_meta_in meta_at
ud_set_meta_known d t h =
    call_marked_known _ _ (λ l. on_named_known l.userdata d.0 d.1 (meta_at l d t) h.words (λ p. cond_both Answers (is_table_or l t h.words) _ _ (λ e. tt) (λ e. tt)))

pub ud_set_env_known : (d : UdRef) (t : Option TableRef) (h : Heap) → Answers (ud_set_env d t h)
unfolding ud_set_env ud_set_env_in env_at
ud_set_env_known d t h =
    call_marked_known _ _ (λ l. on_named_known l.userdata d.0 d.1 (env_at l d t) h.words (λ p. cond_both Answers (is_table_or l t h.words) _ _ (λ e. tt) (λ e. tt)))

pub set_type_meta_known : (k : ℕ) (t : Option TableRef) (h : Heap) → Answers (set_type_meta k t h)
unfolding set_type_meta set_type_meta_in
set_type_meta_known k t h =
    call_marked_known _ _ (λ l. lt_both Answers _ _ _ _ (λ e. tt) (λ e. cond_both Answers (is_table_or l t h.words) _ _ (λ z. tt) (λ z. tt)))
