-- Public reads of closures, upvalues and threads by handle: 1, 8, then 2 for a handle that names no occupied slot, then 4 for an
-- index outside its range. They change nothing. Assumes nothing.
use Rattle.std.specs.Prelude.{cond, List as Words, ℕ, Ok, Err, Result}
use Rattle.base.specs.Ways.{if_le}
use Rattle.base.specs.Heap.{Heap}
use Rattle.base.specs.declared.Refusal.TheVariants.{OutOfRange}
use Rattle.base.specs.declared.Refusal.{Refusal}
use Rattle.value.specs.declared.FuncRef.{FuncRef}
use Rattle.value.specs.declared.UpvalRef.{UpvalRef}
use Rattle.value.specs.declared.ThreadRef.{ThreadRef}
use Rattle.reads.specs.declared.Kind.TheVariants as kind
use Rattle.reads.specs.declared.Read.{Read}
use Rattle.reads.specs.declared.Read.TheVariants.{Number, Value, Table, Upvalue}
use Rattle.reads.specs.Reads.{flag_read}
use Rattle.reads.specs.Objects.{read_object}
use Rattle.run_record.specs.Closures.{is_rust, closure_env, closure_proto, closure_count, closure_upvalue, closure_value}
use Rattle.run_record.specs.Upvalues.{is_closed, upvalue_value}
use Rattle.run_record.specs.Threads.{thread_global, thread_hook, thread_error, thread_size, thread_top, thread_open_count, thread_suspended_count, thread_open, thread_suspended, thread_value}
use Rattle.run_reads.specs.declared.ClosureField.{ClosureField}
use Rattle.run_reads.specs.declared.ClosureField.TheVariants as closure
use Rattle.run_reads.specs.declared.UpvalueField.{UpvalueField}
use Rattle.run_reads.specs.declared.UpvalueField.TheVariants as upvalue
use Rattle.run_reads.specs.declared.ThreadField.{ThreadField}
use Rattle.run_reads.specs.declared.ThreadField.TheVariants as thread

-- A closure: a Lua closure has upvalues, a Rust closure values.
abbrev pub held_upvalue : ℕ → ℕ → Words ℕ → Result Read Refusal
held_upvalue p i w = if_le (closure_count p w) i (Err OutOfRange) (cond (is_rust p w) (Err OutOfRange) (Ok (Upvalue (closure_upvalue p i w))))

abbrev pub held_value : ℕ → ℕ → Words ℕ → Result Read Refusal
held_value p i w = if_le (closure_count p w) i (Err OutOfRange) (cond (is_rust p w) (Ok (Value (closure_value p i w))) (Err OutOfRange))

abbrev pub closure_in : ℕ → ClosureField → Words ℕ → Result Read Refusal
closure_in p closure.Rust w = flag_read (is_rust p w)
closure_in p closure.Env w = Ok (Table (closure_env p w))
closure_in p closure.Proto w = Ok (Number (closure_proto p w))
closure_in p closure.Count w = Ok (Number (closure_count p w))
closure_in p (closure.Upvalue i) w = held_upvalue p i w
closure_in p (closure.Value i) w = held_value p i w

abbrev pub read_closure : FuncRef → ClosureField → Heap → Result Read Refusal
read_closure f q = read_object kind.Functions (λ j p h. closure_in p q h.words) f.0 f.1

-- An upvalue: whether it is closed, and its value.
abbrev pub upvalue_in : ℕ → UpvalueField → Words ℕ → Result Read Refusal
upvalue_in p upvalue.Closed w = flag_read (is_closed p w)
upvalue_in p upvalue.Value w = Ok (Value (upvalue_value p w))

abbrev pub read_upvalue : UpvalRef → UpvalueField → Heap → Result Read Refusal
read_upvalue u q = read_object kind.Upvalues (λ j p h. upvalue_in p q h.words) u.0 u.1

-- A thread: the upvalues below their counts, the stack's values below its size.
abbrev pub thread_in : ℕ → ThreadField → Words ℕ → Result Read Refusal
thread_in p thread.Global w = Ok (Table (thread_global p w))
thread_in p thread.Hook w = Ok (Value (thread_hook p w))
thread_in p thread.Error w = Ok (Value (thread_error p w))
thread_in p thread.Size w = Ok (Number (thread_size p w))
thread_in p thread.Top w = Ok (Number (thread_top p w))
thread_in p thread.Opens w = Ok (Number (thread_open_count p w))
thread_in p thread.Suspendeds w = Ok (Number (thread_suspended_count p w))
thread_in p (thread.Open i) w = if_le (thread_open_count p w) i (Err OutOfRange) (Ok (Upvalue (thread_open p i w)))
thread_in p (thread.Suspended i) w = if_le (thread_suspended_count p w) i (Err OutOfRange) (Ok (Upvalue (thread_suspended p i w)))
thread_in p (thread.Stack i) w = if_le (thread_size p w) i (Err OutOfRange) (Ok (Value (thread_value p i w)))

abbrev pub read_thread : ThreadRef → ThreadField → Heap → Result Read Refusal
read_thread t q = read_object kind.Threads (λ j p h. thread_in p q h.words) t.0 t.1
