-- A thread's record, 268 words:
--     0, 1      global, a handle that may be missing
--     2 to 4    hook function
--     5 to 7    error value
--     8         size of the stack, 0 to 64
--     9         top
--     10, 11    counts of the open and of the suspended upvalues, 0 to 16 each
--     12 ..     handles of the open upvalues, 2 words each, 16 places
--     44 ..     handles of the suspended upvalues, 2 words each, 16 places
--     76 ..     the stack's values, 3 words each
-- Assumes nothing.
use Rattle.std.specs.Prelude.{List, ℕ, ◌+◌, ◌*◌, min, Option}
use Rattle.base.specs.Words.{at, put, bounded}
use Rattle.value.specs.declared.TableRef.{TableRef}
use Rattle.value.specs.declared.Value.{Value}
use Rattle.value.specs.declared.UpvalRef.{UpvalRef}
use Rattle.value.specs.Values.{value_at, put_value}
use Rattle.value.specs.Handles.{table_or_at, put_table_or}
use Rattle.record.specs.Fields.{upval_at, put_upval}

abbrev pub thread_global : ℕ → List ℕ → Option TableRef
thread_global p w = table_or_at w p

abbrev pub set_thread_global : ℕ → Option TableRef → List ℕ → List ℕ
set_thread_global p t w = put_table_or p t w

abbrev pub thread_hook : ℕ → List ℕ → Value
thread_hook p w = value_at w (p + 2)

abbrev pub set_thread_hook : ℕ → Value → List ℕ → List ℕ
set_thread_hook p v w = put_value (p + 2) v w

abbrev pub thread_error : ℕ → List ℕ → Value
thread_error p w = value_at w (p + 5)

abbrev pub set_thread_error : ℕ → Value → List ℕ → List ℕ
set_thread_error p v w = put_value (p + 5) v w

-- A size or count outside its range reads as 0. The top reads as the least of top and size.
abbrev pub thread_size : ℕ → List ℕ → ℕ
thread_size p w = bounded (at w (p + 8)) 64

abbrev pub set_thread_size : ℕ → ℕ → List ℕ → List ℕ
set_thread_size p n w = put (p + 8) n w

abbrev pub thread_top : ℕ → List ℕ → ℕ
thread_top p w = min (at w (p + 9)) (thread_size p w)

abbrev pub set_thread_top : ℕ → ℕ → List ℕ → List ℕ
set_thread_top p n w = put (p + 9) n w

abbrev pub thread_open_count : ℕ → List ℕ → ℕ
thread_open_count p w = bounded (at w (p + 10)) 16

abbrev pub set_thread_open_count : ℕ → ℕ → List ℕ → List ℕ
set_thread_open_count p n w = put (p + 10) n w

abbrev pub thread_suspended_count : ℕ → List ℕ → ℕ
thread_suspended_count p w = bounded (at w (p + 11)) 16

abbrev pub set_thread_suspended_count : ℕ → ℕ → List ℕ → List ℕ
set_thread_suspended_count p n w = put (p + 11) n w

abbrev pub thread_open : ℕ → ℕ → List ℕ → UpvalRef
thread_open p i w = upval_at w (p + 12 + 2 * i)

abbrev pub set_thread_open : ℕ → ℕ → UpvalRef → List ℕ → List ℕ
set_thread_open p i u w = put_upval (p + 12 + 2 * i) u w

abbrev pub thread_suspended : ℕ → ℕ → List ℕ → UpvalRef
thread_suspended p i w = upval_at w (p + 44 + 2 * i)

abbrev pub set_thread_suspended : ℕ → ℕ → UpvalRef → List ℕ → List ℕ
set_thread_suspended p i u w = put_upval (p + 44 + 2 * i) u w

abbrev pub thread_value : ℕ → ℕ → List ℕ → Value
thread_value p i w = value_at w (p + 76 + 3 * i)

abbrev pub set_thread_value : ℕ → ℕ → Value → List ℕ → List ℕ
set_thread_value p i v w = put_value (p + 76 + 3 * i) v w

-- the words that a thread with a stack of n places takes
abbrev pub thread_extent : ℕ → ℕ
thread_extent n = 76 + 3 * n
