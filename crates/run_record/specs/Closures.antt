-- A closure's record, 53 words:
--     0         kind: 1 a Rust closure, any other number a Lua closure
--     1, 2      env, a handle that may be missing
--     3         number of its prototype
--     4         count of its upvalues, 0 to 16
--     5 ..      of a Lua closure the handles of its upvalues, 2 words each; of a Rust closure its values, 3 words each
-- Assumes nothing.
use Rattle.std.specs.Prelude.{Bool, true, false, List, ℕ, ◌+◌, ◌*◌, eqb, Option}
use Rattle.base.specs.Words.{at, put, bounded}
use Rattle.value.specs.declared.TableRef.{TableRef}
use Rattle.value.specs.declared.Value.{Value}
use Rattle.value.specs.declared.UpvalRef.{UpvalRef}
use Rattle.value.specs.Values.{value_at, put_value}
use Rattle.value.specs.Handles.{table_or_at, put_table_or}
use Rattle.record.specs.Fields.{put_flag, upval_at, put_upval}

abbrev pub is_rust : ℕ → List ℕ → Bool
is_rust p w = eqb (at w p) 1

abbrev pub set_rust : ℕ → Bool → List ℕ → List ℕ
set_rust p b w = put_flag p b w

abbrev pub closure_env : ℕ → List ℕ → Option TableRef
closure_env p w = table_or_at w (p + 1)

abbrev pub set_closure_env : ℕ → Option TableRef → List ℕ → List ℕ
set_closure_env p t w = put_table_or (p + 1) t w

abbrev pub closure_proto : ℕ → List ℕ → ℕ
closure_proto p w = at w (p + 3)

abbrev pub set_closure_proto : ℕ → ℕ → List ℕ → List ℕ
set_closure_proto p n w = put (p + 3) n w

-- A count outside its range reads as 0.
abbrev pub closure_count : ℕ → List ℕ → ℕ
closure_count p w = bounded (at w (p + 4)) 16

abbrev pub set_closure_count : ℕ → ℕ → List ℕ → List ℕ
set_closure_count p n w = put (p + 4) n w

-- of a Lua closure
abbrev pub closure_upvalue : ℕ → ℕ → List ℕ → UpvalRef
closure_upvalue p i w = upval_at w (p + 5 + 2 * i)

abbrev pub set_closure_upvalue : ℕ → ℕ → UpvalRef → List ℕ → List ℕ
set_closure_upvalue p i u w = put_upval (p + 5 + 2 * i) u w

-- of a Rust closure
abbrev pub closure_value : ℕ → ℕ → List ℕ → Value
closure_value p i w = value_at w (p + 5 + 3 * i)

abbrev pub set_closure_value : ℕ → ℕ → Value → List ℕ → List ℕ
set_closure_value p i v w = put_value (p + 5 + 3 * i) v w

-- the words that a closure of this kind takes, with n upvalues
abbrev pub closure_extent : Bool → ℕ → ℕ
closure_extent true n = 5 + 3 * n
closure_extent false n = 5 + 2 * n
