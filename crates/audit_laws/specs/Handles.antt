-- What the audit asks of a record, in document 01's words: every handle in it names an occupied slot. Assumes nothing.
--     ValueNames, TableOrNames, UpvalueNames     the handle of a value, if it has one; a table's, if there is one; an upvalue's
--     TableHolds .. ThreadHolds          every handle of a record does
use Rattle.std.specs.Prelude.{◌≡◌, true, false, List, ◌≢◌, Some, None, Option}
use Prim.Native.Nat.{ℕ, ◌<◌}
use Rattle.value.specs.declared.TableRef.{TableRef}
use Rattle.arena.specs.Slots.{colour}
use Rattle.arena_laws.specs.Names.{Names}
use Rattle.value.specs.declared.UpvalRef.{UpvalRef}
use Rattle.value.specs.declared.Value.{Value}
use Rattle.value.specs.declared.Value.TheVariants.{Nil, Boolean, Light, Number, Str, Table, Function, Userdata, Thread}
use Rattle.layout.specs.declared.Lay.{Lay}
use Rattle.record.specs.Fields.{body_at}
use Rattle.record.specs.Tables.{table_meta, array_size, array_value, node_count, node_key, node_value}
use Rattle.record.specs.Userdata.{ud_meta, ud_env}
use Rattle.run_record.specs.Closures.{is_rust, closure_env, closure_count, closure_upvalue, closure_value}
use Rattle.run_record.specs.Upvalues.{is_closed, upvalue_value}
use Rattle.run_record.specs.Threads.{thread_global, thread_hook, thread_error, thread_size, thread_open_count, thread_suspended_count, thread_open, thread_suspended, thread_value}
use Rattle.reads.specs.Objects.{arena_of}
use Rattle.reads.specs.declared.Kind.{Kind}
use Rattle.reads.specs.declared.Kind.TheVariants as kind

module _ (l : Lay) (w : List ℕ) where
  -- the handle of a value, if it refers to an object
  abbrev pub ValueNames : Value → Type 0
  ValueNames Nil = Unit {0}
  ValueNames (Boolean b) = Unit {0}
  ValueNames (Light x) = Unit {0}
  ValueNames (Number x) = Unit {0}
  ValueNames (Str r) = Names l.strings r.0 r.1 w
  ValueNames (Table r) = Names l.tables r.0 r.1 w
  ValueNames (Function r) = Names l.functions r.0 r.1 w
  ValueNames (Userdata r) = Names l.userdata r.0 r.1 w
  ValueNames (Thread r) = Names l.threads r.0 r.1 w

  -- a table's handle, if there is one
  abbrev pub TableOrNames : Option TableRef → Type 0
  TableOrNames (Some r) = Names l.tables r.0 r.1 w
  TableOrNames None = Unit {0}

  abbrev pub UpvalueNames : UpvalRef → Type 0
  UpvalueNames r = Names l.upvalues r.0 r.1 w

  -- the record at p of each kind: every handle in it names an occupied slot
  pub record TableHolds (p : ℕ) : Type 0 where
    pub meta : TableOrNames (table_meta p w)
    pub array : (i : ℕ) → i < array_size p w → ValueNames (array_value p i w)
    pub nodes : (j : ℕ) → j < node_count p w → ValueNames (node_key p j w) × ValueNames (node_value p j w)

  pub record ClosureHolds (p : ℕ) : Type 0 where
    pub env : TableOrNames (closure_env p w)
    pub rust : is_rust p w ≡ true → (i : ℕ) → i < closure_count p w → ValueNames (closure_value p i w)
    pub lua : is_rust p w ≡ false → (i : ℕ) → i < closure_count p w → UpvalueNames (closure_upvalue p i w)

  pub record UpvalueHolds (p : ℕ) : Type 0 where
    pub closed : is_closed p w ≡ true → ValueNames (upvalue_value p w)

  pub record UserdataHolds (p : ℕ) : Type 0 where
    pub meta : TableOrNames (ud_meta p w)
    pub env : TableOrNames (ud_env p w)

  pub record ThreadHolds (p : ℕ) : Type 0 where
    pub global : TableOrNames (thread_global p w)
    pub hook : ValueNames (thread_hook p w)
    pub error : ValueNames (thread_error p w)
    pub stack : (i : ℕ) → i < thread_size p w → ValueNames (thread_value p i w)
    pub opens : (i : ℕ) → i < thread_open_count p w → UpvalueNames (thread_open p i w)
    pub suspended : (i : ℕ) → i < thread_suspended_count p w → UpvalueNames (thread_suspended p i w)

  abbrev pub RecordHolds : Kind → ℕ → Type 0
  RecordHolds kind.Strings p = Unit {0}
  RecordHolds kind.Tables p = TableHolds p
  RecordHolds kind.Functions p = ClosureHolds p
  RecordHolds kind.Upvalues p = UpvalueHolds p
  RecordHolds kind.Userdata p = UserdataHolds p
  RecordHolds kind.Threads p = ThreadHolds p

  -- Slot i of this kind: if it is occupied, every handle in its record names an occupied slot.
  abbrev pub SlotHolds : Kind → ℕ → Type 0
  SlotHolds k i = colour (arena_of l k) i w ≢ 0 → RecordHolds k (body_at (arena_of l k) i)
