-- Public reads of strings, tables and userdata by handle: 1, 8, then 2 for a handle that names no occupied slot, then 4 for an
-- index outside its range. They change nothing. Assumes nothing.
use Rattle.std.specs.Prelude.{List as Words, ℕ, ◌+◌, ◌*◌, Ok, Err, Result}
use Rattle.base.specs.Ways.{if_le}
use Rattle.base.specs.Words.{at}
use Rattle.base.specs.Heap.{Heap}
use Rattle.base.specs.declared.Refusal.TheVariants.{OutOfRange}
use Rattle.base.specs.declared.Refusal.{Refusal}
use Rattle.value.specs.declared.StrRef.{StrRef}
use Rattle.value.specs.declared.TableRef.{TableRef}
use Rattle.value.specs.declared.UdRef.{UdRef}
use Rattle.reads.specs.declared.Kind.TheVariants as kind
use Rattle.reads.specs.declared.Read.{Read}
use Rattle.reads.specs.declared.Read.TheVariants.{Number, Value, Table}
use Rattle.reads.specs.Reads.{flag_read}
use Rattle.reads.specs.Objects.{read_object}
use Rattle.record.specs.Strings.{string_length}
use Rattle.record.specs.Tables.{table_meta, array_size, node_count, array_value, node_key, node_value}
use Rattle.record.specs.Userdata.{ud_meta, ud_env, ud_creation, ud_finalized}
use Rattle.table_reads.specs.declared.StringField.{StringField}
use Rattle.table_reads.specs.declared.StringField.TheVariants as string
use Rattle.table_reads.specs.declared.TableField.{TableField}
use Rattle.table_reads.specs.declared.TableField.TheVariants as table
use Rattle.table_reads.specs.declared.UserdataField.{UserdataField}
use Rattle.table_reads.specs.declared.UserdataField.TheVariants as userdata

-- A string: the bytes of slot n stand from 64 * n on in the byte buffer.
abbrev pub string_in : ℕ → ℕ → StringField → Words ℕ → Words ℕ → Result Read Refusal
string_in p n string.Length w b = Ok (Number (string_length p w))
string_in p n (string.Byte i) w b = if_le (string_length p w) i (Err OutOfRange) (Ok (Number (at b (64 * n + i))))

abbrev pub read_string : StrRef → StringField → Heap → Result Read Refusal
read_string s q = read_object kind.Strings (λ j p h. string_in p j q h.words h.bytes) s.0 s.1

-- A table: metatable, both sizes, the array's values, the nodes' keys and values.
abbrev pub table_in : ℕ → TableField → Words ℕ → Result Read Refusal
table_in p table.Meta w = Ok (Table (table_meta p w))
table_in p table.Array w = Ok (Number (array_size p w))
table_in p table.Nodes w = Ok (Number (node_count p w))
table_in p (table.At i) w = if_le (array_size p w) i (Err OutOfRange) (Ok (Value (array_value p i w)))
table_in p (table.Key j) w = if_le (node_count p w) j (Err OutOfRange) (Ok (Value (node_key p j w)))
table_in p (table.Val j) w = if_le (node_count p w) j (Err OutOfRange) (Ok (Value (node_value p j w)))

abbrev pub read_table : TableRef → TableField → Heap → Result Read Refusal
read_table t q = read_object kind.Tables (λ j p h. table_in p q h.words) t.0 t.1

-- A userdata.
abbrev pub userdata_in : ℕ → UserdataField → Words ℕ → Result Read Refusal
userdata_in p userdata.Meta w = Ok (Table (ud_meta p w))
userdata_in p userdata.Env w = Ok (Table (ud_env p w))
userdata_in p userdata.Creation w = Ok (Number (ud_creation p w))
userdata_in p userdata.Finalized w = flag_read (ud_finalized p w)

abbrev pub read_userdata : UdRef → UserdataField → Heap → Result Read Refusal
read_userdata d q = read_object kind.Userdata (λ j p h. userdata_in p q h.words) d.0 d.1
