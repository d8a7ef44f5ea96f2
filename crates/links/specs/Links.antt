-- Document 01, 'Followed links', whole: for each kind the list of its links, for the roots theirs, in the order in which they
-- are marked. The audit, demand 3 and the manual's definition all cite this page. `w` are the words of the heap, `b` its
-- bytes. A link is a handle; one that names no occupied slot has no colour and leads nowhere. Assumes nothing.
use Rattle.std.specs.Prelude.{cond, List, [], ◌∷◌, ◌++◌, ℕ, zero, suc, ◌+◌, Some, None, Option}
use Rattle.base.specs.Ways.{if_lt, if_eq}
use Rattle.value.specs.declared.StrRef.{StrRef}
use Rattle.value.specs.declared.TableRef.{TableRef}
use Rattle.value.specs.declared.Value.{Value}
use Rattle.value.specs.declared.Value.TheVariants.{Nil, Boolean, Light, Number, Str, Table, Function, Userdata, Thread}
use Rattle.value.specs.Values.{is_nil}
use Rattle.layout.specs.declared.Lay.{Lay}
use Rattle.record.specs.Fields.{body_at}
use Rattle.record.specs.Tables.{table_meta, array_size, node_count, array_value, node_key, node_value}
use Rattle.record.specs.Userdata.{ud_meta, ud_env}
use Rattle.run_record.specs.Closures.{is_rust, closure_env, closure_proto, closure_count, closure_upvalue, closure_value}
use Rattle.run_record.specs.Upvalues.{is_closed, upvalue_value}
use Rattle.run_record.specs.Threads.{thread_global, thread_hook, thread_top, thread_open_count, thread_suspended_count, thread_open, thread_suspended, thread_value}
use Rattle.main_record.specs.Main.{main_top, main_open_count, main_ci, main_error, main_hook, global, registry, mode_name, gc_name, type_meta, main_value, main_open, frame_function}
use Rattle.main_record.specs.Prototypes.{proto_constants, proto_nested, proto_constant, proto_child}
use Rattle.mark.specs.Ops.{Ref, str, tab, fun, upval, ud, thread}
use Rattle.modes.specs.declared.Mode.{Mode}
use Rattle.modes.specs.Modes.{weak_mode}

-- what a value refers to
abbrev pub value_links : Value → List Ref
value_links Nil = []
value_links (Boolean x) = []
value_links (Light x) = []
value_links (Number x) = []
value_links (Str r) = str r ∷ []
value_links (Table r) = tab r ∷ []
value_links (Function r) = fun r ∷ []
value_links (Userdata r) = ud r ∷ []
value_links (Thread r) = thread r ∷ []

abbrev pub table_link : Option TableRef → List Ref
table_link (Some r) = tab r ∷ []
table_link None = []

abbrev pub string_link : Option StrRef → List Ref
string_link (Some r) = str r ∷ []
string_link None = []

-- g i, g (i + 1), .., g (i + n - 1), joined
unfoldable pub each : (ℕ → List Ref) → ℕ → ℕ → List Ref
each g zero i = []
each g (suc n) i = g i ++ each g n (i + 1)

module _ (w : List ℕ) where
  -- Table: its metatable always. Array values unless values are weak; of nodes with non-nil key and value, the key unless
  -- keys are weak, the value unless values are.
  unfoldable pub node_links : Mode → ℕ → ℕ → List Ref
  node_links m p j =
      cond (is_nil (node_key p j w)) []
      (cond (is_nil (node_value p j w)) []
      (cond m.keys [] (value_links (node_key p j w)) ++ cond m.values [] (value_links (node_value p j w))))

  unfoldable pub entry_links : Mode → ℕ → List Ref
  entry_links m p =
      cond m.values [] (each (λ i. value_links (array_value p i w)) (array_size p w) 0)
      ++ each (node_links m p) (node_count p w) 0

  -- Upvalue: its value if closed. Userdata: metatable and env. String: none.
  unfoldable pub upvalue_links : ℕ → List Ref
  upvalue_links p = cond (is_closed p w) (value_links (upvalue_value p w)) []

  unfoldable pub userdata_links : ℕ → List Ref
  userdata_links p = table_link (ud_meta p w) ++ table_link (ud_env p w)

  -- Thread: global, hook function, stack below top, open and suspended upvalues. Its error value is not followed.
  unfoldable pub stack_links : ℕ → List Ref
  stack_links p =
      each (λ i. value_links (thread_value p i w)) (thread_top p w) 0
      ++ each (λ i. upval (thread_open p i w) ∷ []) (thread_open_count p w) 0
      ++ each (λ i. upval (thread_suspended p i w) ∷ []) (thread_suspended_count p w) 0

  unfoldable pub thread_links : ℕ → List Ref
  thread_links p = table_link (thread_global p w) ++ value_links (thread_hook p w) ++ stack_links p

  module _ (l : Lay) where
    -- Constants of a prototype and of all nested ones; a nested number not below its parent's is skipped.
    unfoldable pub proto_below : ℕ → ℕ → List Ref
    proto_below zero n = []
    proto_below (suc k) n =
        if_eq n k
        (each (λ i. value_links (proto_constant l n i w)) (proto_constants l n w) 0
        ++ each (λ j. if_lt (proto_child l n j w) n (proto_below k (proto_child l n j w)) []) (proto_nested l n w) 0)
        (proto_below k n)

    abbrev pub proto_links : ℕ → List Ref
    proto_links n = proto_below (suc n) n

    -- Lua closure: env, upvalues, constants of its prototype and of all nested ones. Rust closure: env if any, values.
    unfoldable pub closure_links : ℕ → List Ref
    closure_links p =
        table_link (closure_env p w)
        ++ cond (is_rust p w)
        (each (λ i. value_links (closure_value p i w)) (closure_count p w) 0)
        (each (λ i. upval (closure_upvalue p i w) ∷ []) (closure_count p w) 0 ++ proto_links (closure_proto p w))

    -- Roots: main stack below top, open upvalues, error value, hook function, and the stack value at the function index of
    -- each frame up to `ci`, also above top; ..
    unfoldable pub frame_links : ℕ → List Ref
    frame_links i = if_lt (frame_function l i w) l.stack.room (value_links (main_value l (frame_function l i w) w)) []

    unfoldable pub main_links : List Ref
    main_links =
        each (λ i. value_links (main_value l i w)) (main_top l w) 0
        ++ each (λ i. upval (main_open l i w) ∷ []) (main_open_count l w) 0
        ++ value_links (main_error w)
        ++ value_links (main_hook w)
        ++ each frame_links (main_ci l w + 1) 0

    -- .. global, registry, type metatables, both names.
    unfoldable pub root_links : List Ref
    root_links =
        table_link (global w)
        ++ table_link (registry w)
        ++ each (λ k. table_link (type_meta k w)) 9 0
        ++ string_link (mode_name w)
        ++ string_link (gc_name w)

    module _ (b : List ℕ) where
      -- Mode comes from the metatable's `__mode` value, if a string.
      unfoldable pub table_links : ℕ → List Ref
      table_links p = table_link (table_meta p w) ++ entry_links (weak_mode l (table_meta p w) w b) p

      -- the links of the slot that a handle names, by its kind
      unfoldable pub links : Ref → List Ref
      links r =
          if_eq r.kind 1 (table_links (body_at l.tables r.at))
          (if_eq r.kind 2 (closure_links (body_at l.functions r.at))
          (if_eq r.kind 3 (upvalue_links (body_at l.upvalues r.at))
          (if_eq r.kind 4 (userdata_links (body_at l.userdata r.at))
          (if_eq r.kind 5 (thread_links (body_at l.threads r.at))
          []))))

      -- all that the roots refer to
      abbrev pub roots : List Ref
      roots = root_links ++ main_links
