-- The calls that plan or make a heap, free a slot, or make an object. Assumes nothing.
use Rattle.std.specs.Prelude.{Bool, true, false, List, ℕ, ◌/◌, length, Some, None, Ok, Err, Option, Result}
use Rattle.base.specs.Words.{at}
use Rattle.base.specs.Heap.{Heap}
use Rattle.base.specs.declared.Refusal.{Refusal}
use Rattle.arena.specs.declared.Arena.{Arena}
use Rattle.arena.specs.declared.Untaken.{Untaken}
use Rattle.arena.specs.declared.Untaken.TheVariants.{NoneFree, Broken}
use Rattle.arena.specs.Slots.{named, freed_at, freed, take_slot}
use Rattle.value.specs.declared.TableRef.{TableRef}
use Rattle.value.specs.declared.Value.{Value}
use Rattle.value.specs.declared.Value.TheVariants.{Nil}
use Rattle.layout.specs.Places.{WHITE, STRING_WORDS, UPVALUE_WORDS, USERDATA_WORDS}
use Rattle.layout.specs.Sizes.{sizes_fit}
use Rattle.layout.specs.Layout.{planned, room, needed_of}
use Rattle.layout.specs.declared.Sizes.{Sizes}
use Rattle.layout.specs.declared.Lay.{Lay}
use Rattle.newheap.specs.New.{made_in, make_heap}
use Rattle.record.specs.Tables.{table_extent}
use Rattle.run_record.specs.Closures.{closure_extent}
use Rattle.run_record.specs.Threads.{thread_extent}
use Rattle.making.specs.declared.Made.{Made}
use Rattle.making.specs.Making.{on_took, new_object, on_new}
use Rattle.given.specs.Given.{is_sound, is_table}
use Rattle.sound.specs.Sound.{are_sound}
use Rattle.counters.specs.Count.{would_pass, counters_at}
use Rattle.make_strings.specs.Making.{find_string, string_new, new_string, on_found, found_string, string_in, make_string}
use Rattle.make_tables.specs.Making.{is_nodes, table_at, new_table, table_in, make_table, userdata_at, userdata_in, make_userdata}
use Rattle.make_threads.specs.Making.{upvalue_at, new_upvalue, make_open_upvalue, closed_in, make_closed_upvalue, thread_at, new_thread, thread_in, make_thread}
use Rattle.make_protos.specs.Making.{lengths_fit, are_nestable, proto_in, make_proto}
use Rattle.closures.specs.Closures.{headed, new_closure, lua_at, new_lua, rust_at, new_rust}
use Rattle.make_closures.specs.Making.{upvalues_fit, lua_sound, values_fit, rust_sound, lua_in, make_lua_closure, rust_in, make_rust_closure}
use Rattle.state_laws.specs.Plains.{lt_both, le_both, cond_both}
use Rattle.refusal_laws.specs.Known.{Answered}
use Rattle.refusal_laws.specs.Begins.{Answers, call_known}

-- Sizes, and a new heap.
pub planned_known : (s : Sizes) → Answered (planned s)
unfolding planned
planned_known s = cond_both Answered (sizes_fit s) _ _ (λ e. tt) (λ e. tt)

pub needed_of_known : (s : Sizes) → Answered (needed_of s)
unfolding needed_of
needed_of_known s = go (planned s) (planned_known s)
  where
    go : (o : Result Sizes Refusal) → Answered o → Answered (room o)
    go (Ok s) p = tt
    go (Err k) p = p

pub make_heap_known : (s : Sizes) (h : Heap) → Answers (make_heap s h)
unfolding make_heap
make_heap_known s h = go (planned s) (planned_known s)
  where
    go : (o : Result Sizes Refusal) → Answered o → Answers (made_in h o)
    go (Ok s) p = lt_both Answers _ _ _ _ (λ e. tt) (λ e. lt_both Answers _ _ _ _ (λ z. tt) (λ z. tt))
    go (Err k) p = p

-- A slot freed, and one taken with a new record.
pub freed_known : (a : Arena) (i g : ℕ) (h : Heap) → Answers (freed a i g h)
unfolding freed
freed_known a i g h = go (named a i g h.words)
  where
    go : (o : Option ℕ) → Answers (freed_at a h o)
    go (Some i) = tt
    go None = tt

pub new_object_known : (a : Arena) (size n : ℕ) (w : List ℕ) → Answers (new_object a size n w)
unfolding new_object
new_object_known a size n w = cond_both Answers (would_pass (counters_at w) size) _ _ (λ e. tt) (λ e. go (take_slot a (at w WHITE) n w))
  where
    go : (x : Result (ℕ × ℕ) Untaken × List ℕ) → Answers (on_took a size n x)
    go (Ok (i, g), w) = tt
    go (Err NoneFree, w) = tt
    go (Err Broken, w) = tt

on_new_known : (f : ℕ → ℕ → ℕ → List ℕ → Result Made Refusal × List ℕ) (x : Result (ℕ × ℕ × ℕ) Refusal × List ℕ) → ((i g p : ℕ) (w : List ℕ) → Answers (f i g p w)) → Answers x → Answers (on_new f x)
on_new_known f (Ok (i, g, p), w) served h = served i g p w
on_new_known f (Err k, w) served h = h

-- Strings.
pub make_string_known : (s : List ℕ) (h : Heap) → Answers (make_string s h)
unfolding make_string string_in new_string found_string
make_string_known s h = call_known _ _ (λ l. lt_both Answers _ _ _ _ (λ e. tt) (λ e. go l (find_string l s h)))
  where
    new : (b : List ℕ) (x : Result (ℕ × ℕ × ℕ) Refusal × List ℕ) → Answers x → Answers (string_new s b x)
    new b (Ok (i, g, p), w) q = tt
    new b (Err k, w) q = q

    go : (l : Lay) (o : Option ℕ) → Answers (on_found s l h o)
    go l (Some i) = tt
    go l None = new h.bytes (new_object l.strings 48 STRING_WORDS h.words) (new_object_known l.strings 48 STRING_WORDS h.words)

-- Tables and userdata.
pub make_table_known : (array nodes : ℕ) (h : Heap) → Answers (make_table array nodes h)
unfolding make_table table_in new_table
make_table_known array nodes h =
    call_known _ _ (λ l. lt_both Answers _ _ _ _ (λ e. tt)
    (λ e. cond_both Answers (is_nodes nodes) _ _
    (λ z. on_new_known (table_at array nodes) _ (λ i g p w. tt) (new_object_known l.tables 64 (table_extent array nodes) h.words))
    (λ z. tt)))

pub make_userdata_known : (h : Heap) → Answers (make_userdata h)
unfolding make_userdata userdata_in
make_userdata_known h = call_known _ _ (λ l. on_new_known userdata_at _ (λ i g p w. tt) (new_object_known l.userdata 48 USERDATA_WORDS h.words))

-- Upvalues and threads.
new_upvalue_known : (closed : Bool) (v : Value) (l : Lay) (w : List ℕ) → Answers (new_upvalue closed v l w)
unfolding new_upvalue
new_upvalue_known closed v l w = on_new_known (upvalue_at closed v) _ (λ i g p w. tt) (new_object_known l.upvalues 24 UPVALUE_WORDS w)

pub make_open_upvalue_known : (h : Heap) → Answers (make_open_upvalue h)
unfolding make_open_upvalue
make_open_upvalue_known h = call_known _ _ (λ l. new_upvalue_known false Nil l h.words)

pub make_closed_upvalue_known : (v : Value) (h : Heap) → Answers (make_closed_upvalue v h)
unfolding make_closed_upvalue closed_in
make_closed_upvalue_known v h = call_known _ _ (λ l. cond_both Answers (is_sound l v h.words) _ _ (λ e. new_upvalue_known true v l h.words) (λ e. tt))

pub make_thread_known : (global : TableRef) (stack : ℕ) (h : Heap) → Answers (make_thread global stack h)
unfolding make_thread thread_in new_thread
make_thread_known global stack h =
    call_known _ _ (λ l. lt_both Answers _ _ _ _ (λ e. tt)
    (λ e. cond_both Answers (is_table l global h.words) _ _
    (λ z. on_new_known (thread_at global stack) _ (λ i g p w. tt) (new_object_known l.threads 256 (thread_extent stack) h.words))
    (λ z. tt)))

-- Prototypes.
pub make_proto_known : (constants nested : List ℕ) (h : Heap) → Answers (make_proto constants nested h)
unfolding make_proto proto_in
make_proto_known constants nested h =
    call_known _ _ (λ l. cond_both Answers (lengths_fit (length constants) (length nested)) _ _
    (λ e. cond_both Answers (are_nestable l h.words nested) _ _
    (λ z. cond_both Answers (are_sound l constants 0 (length constants / 3) h.words) _ _ (λ y. le_both Answers _ _ _ _ (λ x. tt) (λ x. tt)) (λ y. tt))
    (λ z. tt))
    (λ e. tt))

-- Closures.
new_closure_known : (rust : Bool) (env : Option TableRef) (proto n : ℕ) (l : Lay) (w : List ℕ) → Answers (new_closure rust env proto n l w)
unfolding new_closure
new_closure_known rust env proto n l w = go _ (new_object_known l.functions 48 (closure_extent rust n) w)
  where
    go : (x : Result (ℕ × ℕ × ℕ) Refusal × List ℕ) → Answers x → Answers (headed rust env proto n x)
    go (Ok (i, g, p), w) q = tt
    go (Err k, w) q = q

pub new_lua_known : (proto : ℕ) (env : TableRef) (s : List ℕ) (l : Lay) (w : List ℕ) → Answers (new_lua proto env s l w)
unfolding new_lua
new_lua_known proto env s l w = on_new_known (lua_at s) _ (λ i g p w. tt) (new_closure_known false (Some env) proto (length s / 2) l w)

pub new_rust_known : (env : Option TableRef) (s : List ℕ) (l : Lay) (w : List ℕ) → Answers (new_rust env s l w)
unfolding new_rust
new_rust_known env s l w = on_new_known (rust_at s) _ (λ i g p w. tt) (new_closure_known true env 0 (length s / 3) l w)

pub make_lua_closure_known : (proto : ℕ) (env : TableRef) (s : List ℕ) (h : Heap) → Answers (make_lua_closure proto env s h)
unfolding make_lua_closure lua_in
make_lua_closure_known proto env s h =
    call_known _ _ (λ l. le_both Answers _ _ _ _ (λ e. tt)
    (λ e. cond_both Answers (upvalues_fit (length s)) _ _
    (λ z. cond_both Answers (lua_sound proto env s l h.words) _ _ (λ y. new_lua_known proto env s l h.words) (λ y. tt))
    (λ z. tt)))

pub make_rust_closure_known : (env : Option TableRef) (s : List ℕ) (h : Heap) → Answers (make_rust_closure env s h)
unfolding make_rust_closure rust_in
make_rust_closure_known env s h =
    call_known _ _ (λ l. cond_both Answers (values_fit (length s)) _ _
    (λ e. cond_both Answers (rust_sound env s l h.words) _ _ (λ z. new_rust_known env s l h.words) (λ z. tt))
    (λ e. tt))
