-- A userdata's record, 7 words:
--     0, 1      metatable, a handle that may be missing
--     2, 3      env, a handle that may be missing
--     4, 5      creation number, 64 bits
--     6         finalized: 0 no, any other number yes
-- Assumes nothing.
use Rattle.std.specs.Prelude.{Bool, List, ℕ, ◌+◌, ltb, Option}
use Rattle.base.specs.Words.{at, get64, put64}
use Rattle.value.specs.declared.TableRef.{TableRef}
use Rattle.value.specs.Handles.{table_or_at, put_table_or}
use Rattle.record.specs.Fields.{put_flag}

abbrev pub ud_meta : ℕ → List ℕ → Option TableRef
ud_meta p w = table_or_at w p

abbrev pub set_ud_meta : ℕ → Option TableRef → List ℕ → List ℕ
set_ud_meta p t w = put_table_or p t w

abbrev pub ud_env : ℕ → List ℕ → Option TableRef
ud_env p w = table_or_at w (p + 2)

abbrev pub set_ud_env : ℕ → Option TableRef → List ℕ → List ℕ
set_ud_env p t w = put_table_or (p + 2) t w

abbrev pub ud_creation : ℕ → List ℕ → ℕ
ud_creation p w = get64 w (p + 4)

abbrev pub set_ud_creation : ℕ → ℕ → List ℕ → List ℕ
set_ud_creation p x w = put64 (p + 4) x w

abbrev pub ud_finalized : ℕ → List ℕ → Bool
ud_finalized p w = ltb 0 (at w (p + 6))

abbrev pub set_ud_finalized : ℕ → Bool → List ℕ → List ℕ
set_ud_finalized p b w = put_flag (p + 6) b w
