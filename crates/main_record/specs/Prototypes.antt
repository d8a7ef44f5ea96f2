-- The prototypes, 59 words each, by their number:
--     0         count of the constants, 0 to 16
--     1         count of the nested prototypes, 0 to 8
--     2         the parent: its number + 1, 0 for none
--     3 ..      the constants, 3 words each
--     51 ..     the numbers of the nested prototypes
-- Assumes nothing.
use Rattle.std.specs.Prelude.{List, ℕ, ◌+◌, ◌*◌, min}
use Rattle.base.specs.Ways.{if_lt}
use Rattle.base.specs.Words.{at, put, bounded}
use Rattle.value.specs.declared.Value.{Value}
use Rattle.value.specs.Values.{value_at, put_value}
use Rattle.layout.specs.declared.Lay.{Lay}
use Rattle.layout.specs.Places.{PROTOTYPES}

-- How many numbers are used. (Test 1 keeps the stored one within the room.)
abbrev pub protos_used : Lay → List ℕ → ℕ
protos_used l w = min (at w PROTOTYPES) l.protos.room

abbrev pub set_protos_used : ℕ → List ℕ → List ℕ
set_protos_used n w = put PROTOTYPES n w

abbrev pub proto_at : Lay → ℕ → ℕ
proto_at l n = l.protos.base + 59 * n

-- A count outside its range reads as 0. A number not used has no constants and no nested ones.
unfoldable pub proto_constants : Lay → ℕ → List ℕ → ℕ
proto_constants l n w = if_lt n (protos_used l w) (bounded (at w (proto_at l n)) 16) 0

unfoldable pub proto_nested : Lay → ℕ → List ℕ → ℕ
proto_nested l n w = if_lt n (protos_used l w) (bounded (at w (proto_at l n + 1)) 8) 0

abbrev pub set_proto_counts : Lay → ℕ → ℕ → ℕ → List ℕ → List ℕ
set_proto_counts l n constants nested w = put (proto_at l n + 1) nested (put (proto_at l n) constants w)

abbrev pub proto_parent : Lay → ℕ → List ℕ → ℕ
proto_parent l n w = at w (proto_at l n + 2)

abbrev pub set_proto_parent : Lay → ℕ → ℕ → List ℕ → List ℕ
set_proto_parent l n parent w = put (proto_at l n + 2) parent w

abbrev pub proto_constant : Lay → ℕ → ℕ → List ℕ → Value
proto_constant l n k w = value_at w (proto_at l n + 3 + 3 * k)

abbrev pub set_proto_constant : Lay → ℕ → ℕ → Value → List ℕ → List ℕ
set_proto_constant l n k v w = put_value (proto_at l n + 3 + 3 * k) v w

abbrev pub proto_child : Lay → ℕ → ℕ → List ℕ → ℕ
proto_child l n k w = at w (proto_at l n + 51 + k)

abbrev pub set_proto_child : Lay → ℕ → ℕ → ℕ → List ℕ → List ℕ
set_proto_child l n k x w = put (proto_at l n + 51 + k) x w
