-- Public reads of prototypes by number: 1, 8, then 4 for a number that is not used or an index outside its range. They change
-- nothing. Assumes nothing.
use Rattle.std.specs.Prelude.{List as Words, ℕ, Ok, Err, Result}
use Rattle.base.specs.Ways.{if_le}
use Rattle.base.specs.Heap.{Heap}
use Rattle.base.specs.declared.Refusal.TheVariants.{OutOfRange}
use Rattle.base.specs.declared.Refusal.{Refusal}
use Rattle.layout.specs.declared.Lay.{Lay}
use Rattle.test1.specs.Calls.{ask}
use Rattle.reads.specs.declared.Read.{Read}
use Rattle.reads.specs.declared.Read.TheVariants.{Number, Value}
use Rattle.main_record.specs.Prototypes.{protos_used, proto_constants, proto_nested, proto_parent, proto_constant, proto_child}
use Rattle.proto_reads.specs.declared.ProtoField.{ProtoField}
use Rattle.proto_reads.specs.declared.ProtoField.TheVariants as proto

-- A prototype, by its number; 4 where the number is not used.
abbrev pub proto_in : Lay → ℕ → ProtoField → Words ℕ → Result Read Refusal
proto_in l n proto.Constants w = Ok (Number (proto_constants l n w))
proto_in l n proto.Nested w = Ok (Number (proto_nested l n w))
proto_in l n proto.Parent w = Ok (Number (proto_parent l n w))
proto_in l n (proto.Constant k) w = if_le (proto_constants l n w) k (Err OutOfRange) (Ok (Value (proto_constant l n k w)))
proto_in l n (proto.Child k) w = if_le (proto_nested l n w) k (Err OutOfRange) (Ok (Number (proto_child l n k w)))

unfoldable pub proto_on : Lay → ℕ → ProtoField → Words ℕ → Result Read Refusal
proto_on l n q w = if_le (protos_used l w) n (Err OutOfRange) (proto_in l n q w)

abbrev pub read_proto : ℕ → ProtoField → Heap → Result Read Refusal
read_proto n q = ask Err (λ l h. proto_on l n q h.words)
