-- The manual's heap at the words w and bytes b of a heap of layout l: objects are the handles that name occupied slots, and each
-- reference is read from a record by place, one clause each. Where the manual leaves open what is a reference, or the source
-- decides otherwise, the clause says so. Assumes nothing: these are definitions.
use Rattle.std.specs.Prelude.{◌≡◌, true, false, ℕ, ◌≤◌, ◌<◌, Some}
use mathlib.Core.List.{List, [], Memᴰ}
use Rattle.arena.specs.Slots.{named}
use Rattle.value.specs.declared.StrRef.{StrRef}
use Rattle.value.specs.declared.TableRef.{TableRef}
use Rattle.value.specs.declared.Value.TheVariants.{Str}
use Rattle.value.specs.Values.{is_nil}
use Rattle.layout.specs.declared.Lay.{Lay}
use Rattle.record.specs.Fields.{body_at}
use Rattle.record.specs.Strings.{string_length, text_of}
use Rattle.record.specs.Tables.{table_meta, array_size, node_count, array_value, node_key, node_value}
use Rattle.record.specs.Userdata.{ud_meta, ud_env, ud_creation, ud_finalized}
use Rattle.run_record.specs.Closures.{is_rust, closure_env, closure_proto, closure_count, closure_upvalue, closure_value}
use Rattle.run_record.specs.Upvalues.{is_closed, upvalue_value}
use Rattle.run_record.specs.Threads.{thread_global, thread_hook, thread_top, thread_open_count, thread_suspended_count, thread_open, thread_suspended, thread_value}
use Rattle.main_record.specs.Main.{main_top, main_open_count, main_ci, main_error, main_hook, global, registry, mode_name, gc_name, type_meta, main_value, main_open, frame_function}
use Rattle.mark.specs.Ops.{Ref, upval}
use Rattle.modes.specs.Modes.{field, gc_method}
use Rattle.links.specs.Links.{value_links, table_link, string_link, proto_links}
use Rattle.reach.specs.Reached.{Occupied}
use Rattle.manual.specs.Manual.{Heap}

module _ (l : Lay) (w b : List ℕ) where
  -- A handle that names an occupied slot. One that names none is no object: it leads nowhere.
  abbrev pub Object : Type 0
  Object = (r : Ref) × Occupied l w r

  -- the bodies of the slots that a handle would name, by kind
  abbrev pub in_tables : Ref → ℕ
  in_tables r = body_at l.tables r.at

  abbrev pub in_functions : Ref → ℕ
  in_functions r = body_at l.functions r.at

  abbrev pub in_upvalues : Ref → ℕ
  in_upvalues r = body_at l.upvalues r.at

  abbrev pub in_userdata : Ref → ℕ
  in_userdata r = body_at l.userdata r.at

  abbrev pub in_threads : Ref → ℕ
  in_threads r = body_at l.threads r.at

  -- What a program has at hand. Beside the main stack below top: the function of each frame up to `ci`, also where it lies
  -- above top; the type metatables and both names; the main thread's error value.
  pub data Rooted (q : Ref) : Type 0 where
    Rooted-global : Memᴰ q (table_link (global w)) → Rooted q
    Rooted-registry : Memᴰ q (table_link (registry w)) → Rooted q
    Rooted-type : (k : ℕ) → k < 9 → Memᴰ q (table_link (type_meta k w)) → Rooted q
    Rooted-mode : Memᴰ q (string_link (mode_name w)) → Rooted q
    Rooted-gc : Memᴰ q (string_link (gc_name w)) → Rooted q
    Rooted-stack : (i : ℕ) → i < main_top l w → Memᴰ q (value_links (main_value l i w)) → Rooted q
    Rooted-open : (i : ℕ) → i < main_open_count l w → q ≡ upval (main_open l i w) → Rooted q
    Rooted-error : Memᴰ q (value_links (main_error w)) → Rooted q
    Rooted-hook : Memᴰ q (value_links (main_hook w)) → Rooted q
    Rooted-frame : (i : ℕ) → i ≤ main_ci l w → frame_function l i w < l.stack.room → Memᴰ q (value_links (main_value l (frame_function l i w) w)) → Rooted q

  -- References other than a table's entries. An open upvalue refers to nothing: its value lies on a stack. A thread does not
  -- refer to its error value. A string refers to nothing.
  pub data Refers (r q : Ref) : Type 0 where
    Refers-table_meta : r.kind ≡ 1 → Memᴰ q (table_link (table_meta (in_tables r) w)) → Refers r q
    Refers-closure_env : r.kind ≡ 2 → Memᴰ q (table_link (closure_env (in_functions r) w)) → Refers r q
    Refers-closure_value : r.kind ≡ 2 → is_rust (in_functions r) w ≡ true → (i : ℕ) → i < closure_count (in_functions r) w → Memᴰ q (value_links (closure_value (in_functions r) i w)) → Refers r q
    Refers-closure_upvalue : r.kind ≡ 2 → is_rust (in_functions r) w ≡ false → (i : ℕ) → i < closure_count (in_functions r) w → q ≡ upval (closure_upvalue (in_functions r) i w) → Refers r q
    Refers-closure_constant : r.kind ≡ 2 → is_rust (in_functions r) w ≡ false → Memᴰ q (proto_links w l (closure_proto (in_functions r) w)) → Refers r q
    Refers-upvalue_closed : r.kind ≡ 3 → is_closed (in_upvalues r) w ≡ true → Memᴰ q (value_links (upvalue_value (in_upvalues r) w)) → Refers r q
    Refers-userdata_meta : r.kind ≡ 4 → Memᴰ q (table_link (ud_meta (in_userdata r) w)) → Refers r q
    Refers-userdata_env : r.kind ≡ 4 → Memᴰ q (table_link (ud_env (in_userdata r) w)) → Refers r q
    Refers-thread_global : r.kind ≡ 5 → Memᴰ q (table_link (thread_global (in_threads r) w)) → Refers r q
    Refers-thread_hook : r.kind ≡ 5 → Memᴰ q (value_links (thread_hook (in_threads r) w)) → Refers r q
    Refers-thread_stack : r.kind ≡ 5 → (i : ℕ) → i < thread_top (in_threads r) w → Memᴰ q (value_links (thread_value (in_threads r) i w)) → Refers r q
    Refers-thread_open : r.kind ≡ 5 → (i : ℕ) → i < thread_open_count (in_threads r) w → q ≡ upval (thread_open (in_threads r) i w) → Refers r q
    Refers-thread_suspended : r.kind ≡ 5 → (i : ℕ) → i < thread_suspended_count (in_threads r) w → q ≡ upval (thread_suspended (in_threads r) i w) → Refers r q

  -- The entries of a table: places of its array and nodes whose value is not nil. A node whose value is nil is no entry,
  -- although it keeps its key.
  pub data EntryOf (r : Ref) : Type 0 where
    EntryOf-array : r.kind ≡ 1 → (i : ℕ) → i < array_size (in_tables r) w → is_nil (array_value (in_tables r) i w) ≡ false → EntryOf r
    EntryOf-node : r.kind ≡ 1 → (j : ℕ) → j < node_count (in_tables r) w → is_nil (node_key (in_tables r) j w) ≡ false → is_nil (node_value (in_tables r) j w) ≡ false → EntryOf r

  -- what an entry's key and its value refer to; the keys of the array are numbers
  abbrev pub key_links : (r : Ref) → EntryOf r → List Ref
  key_links r (EntryOf-array k i f n) = []
  key_links r (EntryOf-node k j f m n) = value_links (node_key (in_tables r) j w)

  abbrev pub values_links : (r : Ref) → EntryOf r → List Ref
  values_links r (EntryOf-array k i f n) = value_links (array_value (in_tables r) i w)
  values_links r (EntryOf-node k j f m n) = value_links (node_value (in_tables r) j w)

  -- A table's metatable has, under the name `__mode`, a string of the bytes s.
  pub record ModeIs (r : Ref) (s : List ℕ) : Type 0 where
    pub table : r.kind ≡ 1
    pub metatable : TableRef
    pub given : table_meta (in_tables r) w ≡ Some metatable
    pub string : StrRef
    pub under : field l metatable (mode_name w) w ≡ Str string
    pub slot : ℕ
    pub found : named l.strings string.0 string.1 w ≡ Some slot
    pub text : s ≡ text_of slot (string_length (body_at l.strings slot) w) b

  -- A userdata's metatable has, under the name `__gc`, a value that is not nil.
  abbrev pub GcIs : Ref → Type 0
  GcIs r = (r.kind ≡ 4) × (is_nil (gc_method l (ud_meta (in_userdata r) w) w) ≡ false)

  abbrev pub FinalizedIs : Ref → Type 0
  FinalizedIs r = (r.kind ≡ 4) × (ud_finalized (in_userdata r) w ≡ true)

  abbrev pub heap : Heap
  heap = record {
    Object = Object;
    Root = λ x. Rooted x.0;
    Refers = λ x y. Refers x.0 y.0;
    Entry = λ x. EntryOf x.0;
    Key = λ x e y. Memᴰ y.0 (key_links x.0 e);
    Value = λ x e y. Memᴰ y.0 (values_links x.0 e);
    Mode = λ x s. ModeIs x.0 s;
    Userdata = λ x. x.0.kind ≡ 4;
    Gc = λ x. GcIs x.0;
    Finalized = λ x. FinalizedIs x.0;
    created = λ x. ud_creation (in_userdata x.0) w;
  }
