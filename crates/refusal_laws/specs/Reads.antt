-- The public reads, and the audit. Assumes nothing.
use Rattle.std.specs.Prelude.{Bool, true, false, List as Words, ℕ, Some, None, Option, Result}
use Rattle.base.specs.Heap.{Heap}
use Rattle.base.specs.declared.Refusal.{Refusal}
use Rattle.arena.specs.declared.Arena.{Arena}
use Rattle.arena.specs.Slots.{named}
use Rattle.value.specs.declared.StrRef.{StrRef}
use Rattle.value.specs.declared.TableRef.{TableRef}
use Rattle.value.specs.declared.UdRef.{UdRef}
use Rattle.value.specs.declared.FuncRef.{FuncRef}
use Rattle.value.specs.declared.UpvalRef.{UpvalRef}
use Rattle.value.specs.declared.ThreadRef.{ThreadRef}
use Rattle.layout.specs.declared.Lay.{Lay}
use Rattle.layout.specs.declared.List.{List}
use Rattle.reads.specs.declared.Read.{Read}
use Rattle.reads.specs.declared.Kind.{Kind}
use Rattle.reads.specs.declared.Counter.{Counter}
use Rattle.reads.specs.declared.Field.{Field}
use Rattle.reads.specs.declared.Field.TheVariants.{Short, Long}
use Rattle.reads.specs.declared.Size.{Size}
use Rattle.reads.specs.declared.Root.{Root}
use Rattle.reads.specs.declared.Root.TheVariants as root
use Rattle.reads.specs.Reads.{number_read, flag_read, field_of, field_in, counter_in, read_counter, read_size, read_out, root_in, read_root}
use Rattle.reads.specs.Objects.{arena_of, found_at, found_in, found, on_found, read_object}
use Rattle.part_reads.specs.declared.Main.{Main}
use Rattle.part_reads.specs.declared.Main.TheVariants as main
use Rattle.part_reads.specs.declared.Which.{Which}
use Rattle.part_reads.specs.declared.Listed.{Listed}
use Rattle.part_reads.specs.declared.Listed.TheVariants as listed
use Rattle.part_reads.specs.declared.Slots.{Slots}
use Rattle.part_reads.specs.declared.Slots.TheVariants as slots
use Rattle.part_reads.specs.PartReads.{stack_in, open_in, frame_in, main_in, read_main, list_of, list_in, read_list, slot_at, slot_in, arena_in, read_arena}
use Rattle.table_reads.specs.declared.StringField.{StringField}
use Rattle.table_reads.specs.declared.StringField.TheVariants as string
use Rattle.table_reads.specs.declared.TableField.{TableField}
use Rattle.table_reads.specs.declared.TableField.TheVariants as table
use Rattle.table_reads.specs.declared.UserdataField.{UserdataField}
use Rattle.table_reads.specs.declared.UserdataField.TheVariants as userdata
use Rattle.table_reads.specs.TableReads.{string_in, read_string, table_in, read_table, userdata_in, read_userdata}
use Rattle.run_record.specs.Closures.{is_rust}
use Rattle.run_reads.specs.declared.ClosureField.{ClosureField}
use Rattle.run_reads.specs.declared.ClosureField.TheVariants as closure
use Rattle.run_reads.specs.declared.UpvalueField.{UpvalueField}
use Rattle.run_reads.specs.declared.UpvalueField.TheVariants as upvalue
use Rattle.run_reads.specs.declared.ThreadField.{ThreadField}
use Rattle.run_reads.specs.declared.ThreadField.TheVariants as thread
use Rattle.run_reads.specs.RunReads.{closure_in, read_closure, upvalue_in, read_upvalue, thread_in, read_thread}
use Rattle.proto_reads.specs.declared.ProtoField.{ProtoField}
use Rattle.proto_reads.specs.declared.ProtoField.TheVariants as proto
use Rattle.proto_reads.specs.ProtoReads.{proto_in, proto_on, read_proto}
use Rattle.audit.specs.Audit.{audit_of, said, audit}
use Rattle.state_laws.specs.Plains.{lt_both, le_both, cond_both}
use Rattle.refusal_laws.specs.Known.{Answered}
use Rattle.refusal_laws.specs.Begins.{ask_known}

-- The header.
pub number_read_known : (p : ℕ) (w : Words ℕ) → Answered (number_read p w)
number_read_known p w = tt

pub flag_read_known : (b : Bool) → Answered (flag_read b)
flag_read_known b = tt

field_known : (q : Field) (w : Words ℕ) → Answered (field_in q w)
field_known (Short p) w = tt
field_known (Long p) w = tt

pub read_counter_known : (c : Counter) (h : Heap) → Answered (read_counter c h)
unfolding counter_in
read_counter_known c h = ask_known _ _ (λ l. field_known (field_of c) h.words)

pub read_size_known : (q : Size) (h : Heap) → Answered (read_size q h)
read_size_known q h = ask_known _ _ (λ l. tt)

pub read_out_known : (h : Heap) → Answered (read_out h)
read_out_known h = ask_known _ _ (λ l. tt)

root_known : (q : Root) (w : Words ℕ) → Answered (root_in q w)
root_known root.Global w = tt
root_known root.Registry w = tt
root_known root.Mode w = tt
root_known root.Gc w = tt
root_known (root.Type k) w = lt_both Answered _ _ _ _ (λ e. tt) (λ e. tt)

pub read_root_known : (q : Root) (h : Heap) → Answered (read_root q h)
read_root_known q h = ask_known _ _ (λ l. root_known q h.words)

-- The main record, the working lists and the slots of the arenas.
main_known : (l : Lay) (q : Main) (w : Words ℕ) → Answered (main_in l q w)
unfolding stack_in open_in frame_in
main_known l main.Top w = tt
main_known l main.Opens w = tt
main_known l main.Ci w = tt
main_known l main.Error w = tt
main_known l main.Hook w = tt
main_known l (main.Stack i) w = lt_both Answered _ _ _ _ (λ e. tt) (λ e. tt)
main_known l (main.Open i) w = le_both Answered _ _ _ _ (λ e. tt) (λ e. lt_both Answered _ _ _ _ (λ z. tt) (λ z. tt))
main_known l (main.Frame i) w = lt_both Answered _ _ _ _ (λ e. tt) (λ e. tt)

pub read_main_known : (q : Main) (h : Heap) → Answered (read_main q h)
read_main_known q h = ask_known _ _ (λ l. main_known l q h.words)

list_known : (b : List) (q : Listed) (w : Words ℕ) → Answered (list_in b q w)
list_known b listed.Length w = tt
list_known b (listed.At i) w = le_both Answered _ _ _ _ (λ e. tt) (λ e. tt)

pub read_list_known : (q : Which) (i : Listed) (h : Heap) → Answered (read_list q i h)
read_list_known q i h = ask_known _ _ (λ l. list_known (list_of l q) i h.words)

slot_known : (a : Arena) (i : ℕ) (q : Slots) (w : Words ℕ) → Answered (slot_in a i q w)
unfolding slot_in
slot_known a i q w = le_both Answered _ _ _ _ (λ e. tt) (λ e. go q)
  where
    go : (q : Slots) → Answered (slot_at a i q w)
    go (slots.Generation k) = tt
    go (slots.Colour k) = tt
    go (slots.Link k) = tt
    go slots.Head = tt
    go slots.Fresh = tt
    go slots.Count = tt

arena_known : (a : Arena) (q : Slots) (w : Words ℕ) → Answered (arena_in a q w)
arena_known a slots.Head w = tt
arena_known a slots.Fresh w = tt
arena_known a slots.Count w = tt
arena_known a (slots.Generation i) w = slot_known a i (slots.Generation i) w
arena_known a (slots.Colour i) w = slot_known a i (slots.Colour i) w
arena_known a (slots.Link i) w = slot_known a i (slots.Link i) w

pub read_arena_known : (k : Kind) (q : Slots) (h : Heap) → Answered (read_arena k q h)
read_arena_known k q h = ask_known _ _ (λ l. arena_known (arena_of l k) q h.words)

-- What a handle names, and the reads of what it names.
found_at_known : (a : Arena) (o : Option ℕ) → Answered (found_at a o)
found_at_known a (Some j) = tt
found_at_known a None = tt

pub found_known : (k : Kind) (i g : ℕ) (h : Heap) → Answered (found k i g h)
unfolding found_in
found_known k i g h = ask_known _ _ (λ l. found_at_known (arena_of l k) (named (arena_of l k) i g h.words))

module _ (k : Kind) (f : ℕ → ℕ → Heap → Result Read Refusal) (i g : ℕ) (h : Heap) (p : (j b : ℕ) → Answered (f j b h)) where
  object_known : Answered (read_object k f i g h)
  unfolding read_object found_in
  object_known =
      ask_known _ _ (λ l. go (arena_of l k) (named (arena_of l k) i g h.words))
    where
      go : (a : Arena) (o : Option ℕ) → Answered (on_found (λ j b. f j b h) (found_at a o))
      go a (Some j) = p j _
      go a None = tt

string_known : (p n : ℕ) (q : StringField) (w b : Words ℕ) → Answered (string_in p n q w b)
string_known p n string.Length w b = tt
string_known p n (string.Byte i) w b = le_both Answered _ _ _ _ (λ e. tt) (λ e. tt)

pub read_string_known : (s : StrRef) (q : StringField) (h : Heap) → Answered (read_string s q h)
read_string_known s q h = object_known _ _ _ _ _ (λ j p. string_known p j q h.words h.bytes)

table_known : (p : ℕ) (q : TableField) (w : Words ℕ) → Answered (table_in p q w)
table_known p table.Meta w = tt
table_known p table.Array w = tt
table_known p table.Nodes w = tt
table_known p (table.At i) w = le_both Answered _ _ _ _ (λ e. tt) (λ e. tt)
table_known p (table.Key j) w = le_both Answered _ _ _ _ (λ e. tt) (λ e. tt)
table_known p (table.Val j) w = le_both Answered _ _ _ _ (λ e. tt) (λ e. tt)

pub read_table_known : (t : TableRef) (q : TableField) (h : Heap) → Answered (read_table t q h)
read_table_known t q h = object_known _ _ _ _ _ (λ j p. table_known p q h.words)

userdata_known : (p : ℕ) (q : UserdataField) (w : Words ℕ) → Answered (userdata_in p q w)
userdata_known p userdata.Meta w = tt
userdata_known p userdata.Env w = tt
userdata_known p userdata.Creation w = tt
userdata_known p userdata.Finalized w = tt

pub read_userdata_known : (d : UdRef) (q : UserdataField) (h : Heap) → Answered (read_userdata d q h)
read_userdata_known d q h = object_known _ _ _ _ _ (λ j p. userdata_known p q h.words)

closure_known : (p : ℕ) (q : ClosureField) (w : Words ℕ) → Answered (closure_in p q w)
closure_known p closure.Rust w = tt
closure_known p closure.Env w = tt
closure_known p closure.Proto w = tt
closure_known p closure.Count w = tt
closure_known p (closure.Upvalue i) w = le_both Answered _ _ _ _ (λ e. tt) (λ e. cond_both Answered (is_rust p w) _ _ (λ z. tt) (λ z. tt))
closure_known p (closure.Value i) w = le_both Answered _ _ _ _ (λ e. tt) (λ e. cond_both Answered (is_rust p w) _ _ (λ z. tt) (λ z. tt))

pub read_closure_known : (f : FuncRef) (q : ClosureField) (h : Heap) → Answered (read_closure f q h)
read_closure_known f q h = object_known _ _ _ _ _ (λ j p. closure_known p q h.words)

upvalue_known : (p : ℕ) (q : UpvalueField) (w : Words ℕ) → Answered (upvalue_in p q w)
upvalue_known p upvalue.Closed w = tt
upvalue_known p upvalue.Value w = tt

pub read_upvalue_known : (u : UpvalRef) (q : UpvalueField) (h : Heap) → Answered (read_upvalue u q h)
read_upvalue_known u q h = object_known _ _ _ _ _ (λ j p. upvalue_known p q h.words)

thread_known : (p : ℕ) (q : ThreadField) (w : Words ℕ) → Answered (thread_in p q w)
thread_known p thread.Global w = tt
thread_known p thread.Hook w = tt
thread_known p thread.Error w = tt
thread_known p thread.Size w = tt
thread_known p thread.Top w = tt
thread_known p thread.Opens w = tt
thread_known p thread.Suspendeds w = tt
thread_known p (thread.Open i) w = le_both Answered _ _ _ _ (λ e. tt) (λ e. tt)
thread_known p (thread.Suspended i) w = le_both Answered _ _ _ _ (λ e. tt) (λ e. tt)
thread_known p (thread.Stack i) w = le_both Answered _ _ _ _ (λ e. tt) (λ e. tt)

pub read_thread_known : (t : ThreadRef) (q : ThreadField) (h : Heap) → Answered (read_thread t q h)
read_thread_known t q h = object_known _ _ _ _ _ (λ j p. thread_known p q h.words)

-- The prototypes.
proto_known : (l : Lay) (n : ℕ) (q : ProtoField) (w : Words ℕ) → Answered (proto_in l n q w)
proto_known l n proto.Constants w = tt
proto_known l n proto.Nested w = tt
proto_known l n proto.Parent w = tt
proto_known l n (proto.Constant k) w = le_both Answered _ _ _ _ (λ e. tt) (λ e. tt)
proto_known l n (proto.Child k) w = le_both Answered _ _ _ _ (λ e. tt) (λ e. tt)

pub read_proto_known : (n : ℕ) (q : ProtoField) (h : Heap) → Answered (read_proto n q h)
unfolding proto_on
read_proto_known n q h = ask_known _ _ (λ l. le_both Answered _ _ _ _ (λ e. tt) (λ e. proto_known l n q h.words))

-- The audit.
said_known : (b : Bool) → Answered (said b)
said_known true = tt
said_known false = tt

pub audit_known : (h : Heap) → Answered (audit h)
unfolding audit
audit_known h = ask_known _ _ (λ l. said_known (audit_of l h.words))
