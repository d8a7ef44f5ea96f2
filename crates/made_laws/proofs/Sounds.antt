-- Every heap that the calls make is sound, as specs/Sounds.antt says. Assumes nothing.
--     new_sound         a heap that `make_heap` made
--     called_sound      each call keeps it
--     made_sound        so every heap that the calls make
use Rattle.std.specs.Prelude.{◌≡◌, refl, Bool, true, false, cond, length, Ok, Err, Result}
use Rattle.std.proofs.Common.{sym, subst, ap, ◌∙◌, true≢false}
use Rattle.base.specs.Heap.{Heap}
use Rattle.base.specs.declared.Refusal.TheVariants.{Unfit, OutOfRange}
use Rattle.base.specs.declared.Refusal.{Refusal}
use Rattle.layout.specs.declared.Sizes.{Sizes}
use Rattle.layout.specs.declared.Lay.{Lay}
use Rattle.layout.specs.Sizes.{SizesOk, sizes_fit, sizes_fit_ok}
use Rattle.layout.specs.Layout.{lay_of, planned}
use Rattle.test1.specs.Test1.{sizes_at}
use Rattle.newheap.specs.New.{new_heap, made_in, make_heap}
use Rattle.made.specs.Made.{Call, Call-make_string, Call-make_table, Call-make_proto, Call-make_lua_closure, Call-make_rust_closure, Call-make_open_upvalue, Call-make_closed_upvalue, Call-make_userdata, Call-make_thread, Call-table_set, Call-table_set_node, Call-table_set_meta, Call-upvalue_close, Call-upvalue_set, Call-ud_set_meta, Call-ud_set_env, Call-thread_push, Call-thread_pop, Call-thread_set, Call-thread_set_top, Call-thread_open_push, Call-thread_open_cut, Call-thread_suspended_push, Call-thread_suspended_cut, Call-thread_set_global, Call-thread_set_error, Call-thread_set_hook, Call-push_value, Call-pop_value, Call-stack_set, Call-set_top, Call-open_push, Call-open_cut, Call-set_frame, Call-set_ci, Call-set_error, Call-set_hook, Call-set_type_meta, Call-gc_singlestep, Call-gc_step, Call-gc_step_auto, Call-full_gc, Call-gc_check, Call-finish_with, Call-set_pause, Call-set_stepmul, Call-set_limit, called, Made, new, after}
use Rattle.mark_laws.specs.Apart.{Apart, apart}
use Rattle.laid.specs.Laid.{Laid, laid_of}
use Rattle.room_laws.specs.Tallies.{Ample}
use Rattle.room_laws.proofs.Tallies.{ample}
use Rattle.atomic_laws.specs.Bodies.{Bodies, bodies}
use Rattle.sweep_laws.specs.Places.{Rows, rows}
use Rattle.state_laws.specs.State.{State}
use Rattle.state_laws.specs.Plains.{lt_both}
use Rattle.state_call_laws.specs.Mains.{push_keeps, pop_keeps, stack_set_keeps, set_top_keeps, open_push_keeps, open_cut_keeps, set_error_keeps, set_hook_keeps, set_frame_keeps, set_ci_keeps, set_pause_keeps, set_stepmul_keeps, set_limit_keeps}
use Rattle.state_call_laws.specs.Threads.{thread_push_keeps, thread_pop_keeps, thread_set_keeps, thread_set_top_keeps, thread_open_push_keeps, thread_open_cut_keeps, thread_suspended_push_keeps, thread_suspended_cut_keeps, thread_set_global_keeps, thread_set_error_keeps, thread_set_hook_keeps}
use Rattle.state_call_laws.specs.Objects.{table_set_keeps, table_set_node_keeps, table_set_meta_keeps, upvalue_close_keeps, upvalue_set_keeps, ud_set_meta_keeps, ud_set_env_keeps, set_type_meta_keeps}
use Rattle.state_call_laws.proofs.Makes.{make_string_keeps, make_table_keeps, make_userdata_keeps, make_open_upvalue_keeps, make_closed_upvalue_keeps, make_thread_keeps, make_proto_keeps, make_lua_closure_keeps, make_rust_closure_keeps}
use Rattle.state_step_laws.proofs.Steps.{single_keeps, step_keeps, auto_keeps, check_keeps, full_keeps, finish_keeps}
use Rattle.made_laws.proofs.News.{new_state}
use Rattle.made_laws.specs.Sounds.{Sound}

-- A layout tells the sizes that it is of.
abbrev sizes_of : Lay → Sizes
sizes_of l = record {
  strings = l.strings.slots;
  tables = l.tables.slots;
  functions = l.functions.slots;
  upvalues = l.upvalues.slots;
  userdata = l.userdata.slots;
  threads = l.threads.slots;
  protos = l.protos.room;
  stack = l.stack.room;
  opens = l.opens.room;
  frames = l.frames.room;
}

sizes_back : (s : Sizes) → sizes_of (lay_of s) ≡ s
unfolding lay_of
sizes_back s = refl

-- So the state of a layout of sizes within their ranges is sound.
sound_of : (s : Sizes) (h : Heap) → SizesOk s → State (lay_of s) h → Sound h
sound_of s h f t =
    let e : s ≡ sizes_at h.words = sym (sizes_back s) ∙ ap sizes_of (sym t.sizes) ∙ sizes_back (sizes_at h.words) in
    record { fits = subst SizesOk e f; state = subst (λ (x : Sizes). State (lay_of x) h) e t }

-- A heap that `make_heap` made.
new_sound : (s : Sizes) (h : Heap) → (make_heap s h).0 ≡ Ok tt → Sound (make_heap s h).1
unfolding make_heap planned
new_sound s h e = go (sizes_fit s) refl e
  where
    P : Result Unit Refusal × Heap → Type 0
    P x = x.0 ≡ Ok tt → Sound x.1

    done : Result Unit Refusal → Bool
    done (Ok tt) = true
    done (Err n) = false

    refused : (n : Refusal) (g : Heap) → P (Err n, g)
    refused n g z = absurd (true≢false (sym (ap done z)))

    go : (b : Bool) → sizes_fit s ≡ b → P (made_in h (cond b (Ok s) (Err OutOfRange)))
    go false f = refused OutOfRange h
    go true f =
        lt_both P (length h.words) (lay_of s).words (Err Unfit, h) _ (λ z. refused Unfit h)
        (λ long. lt_both P (length h.bytes) (lay_of s).bytes (Err Unfit, h) (Ok tt, new_heap (lay_of s) h) (λ z. refused Unfit h)
        (λ wide z. sound_of s (new_heap (lay_of s) h) (sizes_fit_ok s f) (new_state s (sizes_fit_ok s f) h.words h.bytes long wide)))

-- Each call keeps the state.
module _ (l : Lay) (ok : Laid l) (a : Apart l) (r : Rows l) (am : Ample l) (y : Bodies l) where
  pub called_state : (c : Call) (h : Heap) → State l h → State l (called c h)
  called_state (Call-make_string t) h s = make_string_keeps l ok a r am h s t
  called_state (Call-make_table array nodes) h s = make_table_keeps l ok a r am h s array nodes
  called_state (Call-make_proto constants nested) h s = make_proto_keeps l ok a r am h s constants nested
  called_state (Call-make_lua_closure proto env t) h s = make_lua_closure_keeps l ok a r am h s proto env t
  called_state (Call-make_rust_closure env t) h s = make_rust_closure_keeps l ok a r am h s env t
  called_state Call-make_open_upvalue h s = make_open_upvalue_keeps l ok a r am h s
  called_state (Call-make_closed_upvalue v) h s = make_closed_upvalue_keeps l ok a r am h s v
  called_state Call-make_userdata h s = make_userdata_keeps l ok a r am h s
  called_state (Call-make_thread global stack) h s = make_thread_keeps l ok a r am h s global stack
  called_state (Call-table_set t i v) h s = table_set_keeps l ok a r am h s t i v
  called_state (Call-table_set_node t j k v) h s = table_set_node_keeps l ok a r am h s t j k v
  called_state (Call-table_set_meta t m) h s = table_set_meta_keeps l ok a r am h s t m
  called_state (Call-upvalue_close u v) h s = upvalue_close_keeps l ok a r am h s u v
  called_state (Call-upvalue_set u v) h s = upvalue_set_keeps l ok a r am h s u v
  called_state (Call-ud_set_meta d t) h s = ud_set_meta_keeps l ok a r am h s d t
  called_state (Call-ud_set_env d t) h s = ud_set_env_keeps l ok a r am h s d t
  called_state (Call-thread_push t v) h s = thread_push_keeps l ok a r h s t v
  called_state (Call-thread_pop t) h s = thread_pop_keeps l ok a r h s t
  called_state (Call-thread_set t i v) h s = thread_set_keeps l ok a r h s t i v
  called_state (Call-thread_set_top t n) h s = thread_set_top_keeps l ok a r h s t n
  called_state (Call-thread_open_push t u) h s = thread_open_push_keeps l ok a r h s t u
  called_state (Call-thread_open_cut t n) h s = thread_open_cut_keeps l ok a r h s t n
  called_state (Call-thread_suspended_push t u) h s = thread_suspended_push_keeps l ok a r h s t u
  called_state (Call-thread_suspended_cut t n) h s = thread_suspended_cut_keeps l ok a r h s t n
  called_state (Call-thread_set_global t g) h s = thread_set_global_keeps l ok a r h s t g
  called_state (Call-thread_set_error t v) h s = thread_set_error_keeps l ok a r h s t v
  called_state (Call-thread_set_hook t v) h s = thread_set_hook_keeps l ok a r h s am t v
  called_state (Call-push_value v) h s = push_keeps l ok a r h s v
  called_state Call-pop_value h s = pop_keeps l ok a r h s
  called_state (Call-stack_set i v) h s = stack_set_keeps l ok a r h s i v
  called_state (Call-set_top n) h s = set_top_keeps l ok a r h s n
  called_state (Call-open_push u) h s = open_push_keeps l ok a r h s u
  called_state (Call-open_cut n) h s = open_cut_keeps l ok a r h s n
  called_state (Call-set_frame i n) h s = set_frame_keeps l ok a r h s i n
  called_state (Call-set_ci i) h s = set_ci_keeps l ok a r h s i
  called_state (Call-set_error v) h s = set_error_keeps l ok a r h s v
  called_state (Call-set_hook v) h s = set_hook_keeps l ok a r h s v
  called_state (Call-set_type_meta k t) h s = set_type_meta_keeps l ok a r am h s k t
  called_state Call-gc_singlestep h s = single_keeps l ok a r am y h s
  called_state (Call-gc_step budget) h s = step_keeps l ok a r am y h s budget
  called_state Call-gc_step_auto h s = auto_keeps l ok a r am y h s
  called_state Call-full_gc h s = full_keeps l ok a r am y h s
  called_state Call-gc_check h s = check_keeps l ok a r am y h s
  called_state (Call-finish_with done) h s = finish_keeps l ok a r am y done h s
  called_state (Call-set_pause n) h s = set_pause_keeps l ok a r h s n
  called_state (Call-set_stepmul n) h s = set_stepmul_keeps l ok a r h s n
  called_state (Call-set_limit n) h s = set_limit_keeps l ok a r h s n

pub called_sound : (c : Call) (h : Heap) → Sound h → Sound (called c h)
called_sound c h s =
    let t : Sizes = sizes_at h.words in
    sound_of t (called c h) s.fits (called_state (lay_of t) (laid_of t s.fits) (apart t) (rows t) (ample t) (bodies t) c h s.state)

-- Every heap that the calls make is sound.
pub made_sound : {h : Heap} → Made h → Sound h
made_sound (new s before e f) = subst Sound (sym f) (new_sound s before e)
made_sound (after {g = g} m c f) = subst Sound (sym f) (called_sound c g (made_sound m))
