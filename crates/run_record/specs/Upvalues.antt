-- An upvalue's record, 4 words: 0 its state, 1 closed, any other number open; 1 to 3 its value. Assumes nothing.
use Rattle.std.specs.Prelude.{Bool, List, ℕ, ◌+◌, eqb}
use Rattle.base.specs.Words.{at}
use Rattle.value.specs.declared.Value.{Value}
use Rattle.value.specs.Values.{value_at, put_value}
use Rattle.record.specs.Fields.{put_flag}

abbrev pub is_closed : ℕ → List ℕ → Bool
is_closed p w = eqb (at w p) 1

abbrev pub set_closed : ℕ → Bool → List ℕ → List ℕ
set_closed p b w = put_flag p b w

abbrev pub upvalue_value : ℕ → List ℕ → Value
upvalue_value p w = value_at w (p + 1)

abbrev pub set_upvalue_value : ℕ → Value → List ℕ → List ℕ
set_upvalue_value p v w = put_value (p + 1) v w
