-- The fields of objects asked by number: each table has the variants of its enum in their order; an index goes to those that
-- take one. The object is named by its handle, index x and generation g. Assumes nothing.
use Rattle.std.specs.Prelude.{[], ◌∷◌, ℕ, Some, None, Option, Result}
use Rattle.base.specs.Heap.{Heap}
use Rattle.base.specs.declared.Refusal.{Refusal}
use Rattle.reads.specs.declared.Read.{Read}
use Rattle.table_reads.specs.TableReads.{read_string, read_table, read_userdata}
use Rattle.run_reads.specs.RunReads.{read_closure, read_upvalue, read_thread}
use Rattle.proto_reads.specs.ProtoReads.{read_proto}
use Rattle.table_reads.specs.declared.StringField.{StringField}
use Rattle.table_reads.specs.declared.StringField.TheVariants as string
use Rattle.table_reads.specs.declared.TableField.{TableField}
use Rattle.table_reads.specs.declared.TableField.TheVariants as table
use Rattle.run_reads.specs.declared.ClosureField.{ClosureField}
use Rattle.run_reads.specs.declared.ClosureField.TheVariants as closure
use Rattle.run_reads.specs.declared.UpvalueField.{UpvalueField}
use Rattle.run_reads.specs.declared.UpvalueField.TheVariants as upvalue
use Rattle.table_reads.specs.declared.UserdataField.{UserdataField}
use Rattle.table_reads.specs.declared.UserdataField.TheVariants as userdata
use Rattle.run_reads.specs.declared.ThreadField.{ThreadField}
use Rattle.run_reads.specs.declared.ThreadField.TheVariants as thread
use Rattle.proto_reads.specs.declared.ProtoField.{ProtoField}
use Rattle.proto_reads.specs.declared.ProtoField.TheVariants as proto
use Rattle.codes.specs.Numbers.{pick}
use Rattle.asked.specs.Asked.{asked}

-- 0 is the length, 1 a byte.
unfoldable pub string_field_of : ℕ → ℕ → Option StringField
string_field_of n i = pick None Some (string.Length ∷ string.Byte i ∷ []) n

unfoldable pub ask_string : ℕ → ℕ → ℕ → ℕ → Heap → Result Read Refusal
ask_string x g n i = asked (read_string (record { 0 = x; 1 = g })) (string_field_of n i)

-- 0 to 5; 3 is a place of the array, 4 and 5 are a node's key and value.
unfoldable pub table_field_of : ℕ → ℕ → Option TableField
table_field_of n i =
    pick None Some (table.Meta ∷ table.Array ∷ table.Nodes ∷ table.At i ∷ table.Key i ∷ table.Val i ∷ []) n

unfoldable pub ask_table : ℕ → ℕ → ℕ → ℕ → Heap → Result Read Refusal
ask_table x g n i = asked (read_table (record { 0 = x; 1 = g })) (table_field_of n i)

-- 0 to 5; 4 is an upvalue, 5 a value.
unfoldable pub closure_field_of : ℕ → ℕ → Option ClosureField
closure_field_of n i =
    pick None Some (closure.Rust ∷ closure.Env ∷ closure.Proto ∷ closure.Count ∷ closure.Upvalue i
    ∷ closure.Value i ∷ []) n

unfoldable pub ask_closure : ℕ → ℕ → ℕ → ℕ → Heap → Result Read Refusal
ask_closure x g n i = asked (read_closure (record { 0 = x; 1 = g })) (closure_field_of n i)

-- 0 and 1.
unfoldable pub upvalue_field_of : ℕ → Option UpvalueField
upvalue_field_of = pick None Some (upvalue.Closed ∷ upvalue.Value ∷ [])

unfoldable pub ask_upvalue : ℕ → ℕ → ℕ → Heap → Result Read Refusal
ask_upvalue x g n = asked (read_upvalue (record { 0 = x; 1 = g })) (upvalue_field_of n)

-- 0 to 3.
unfoldable pub userdata_field_of : ℕ → Option UserdataField
userdata_field_of =
    pick None Some (userdata.Meta ∷ userdata.Env ∷ userdata.Creation ∷ userdata.Finalized ∷ [])

unfoldable pub ask_userdata : ℕ → ℕ → ℕ → Heap → Result Read Refusal
ask_userdata x g n = asked (read_userdata (record { 0 = x; 1 = g })) (userdata_field_of n)

-- 0 to 9; 7 and 8 are an open and a suspended upvalue, 9 is a place of the stack.
unfoldable pub thread_field_of : ℕ → ℕ → Option ThreadField
thread_field_of n i =
    pick None Some (thread.Global ∷ thread.Hook ∷ thread.Error ∷ thread.Size ∷ thread.Top ∷ thread.Opens
    ∷ thread.Suspendeds ∷ thread.Open i ∷ thread.Suspended i ∷ thread.Stack i ∷ []) n

unfoldable pub ask_thread : ℕ → ℕ → ℕ → ℕ → Heap → Result Read Refusal
ask_thread x g n i = asked (read_thread (record { 0 = x; 1 = g })) (thread_field_of n i)

-- 0 to 4; 3 is a constant, 4 a nested number.
unfoldable pub proto_field_of : ℕ → ℕ → Option ProtoField
proto_field_of n i =
    pick None Some (proto.Constants ∷ proto.Nested ∷ proto.Parent ∷ proto.Constant i ∷ proto.Child i ∷ []) n

unfoldable pub ask_proto : ℕ → ℕ → ℕ → Heap → Result Read Refusal
ask_proto p n i = asked (read_proto p) (proto_field_of n i)
