-- `run_reads::thread_in` meets its contract: each way by its test. Assumes nothing.
use mathlib.Core.Path.{refl}
use native.Mathlib.Omega.{arith}
use Rattle.base.specs.Ways.{le_yes, le_no}
use Rattle.run_reads.proofs.thread_in.Goals as goal

pub returns-then-thread_open_count-k : goal.returns-then-thread_open_count-k
returns-then-thread_open_count-k c = rw c.in-Open.is (le_yes _ _ _ _ _ (omega arith) refl)

pub returns-then-thread_suspended_count-k : goal.returns-then-thread_suspended_count-k
returns-then-thread_suspended_count-k c = rw c.in-Suspended.is (le_yes _ _ _ _ _ (omega arith) refl)

pub returns-then-thread_size-k : goal.returns-then-thread_size-k
returns-then-thread_size-k c = rw c.in-Stack.is (le_yes _ _ _ _ _ (omega arith) refl)

pub returns-in-Global : goal.returns-in-Global
returns-in-Global c = rw (c.in-Global.is, c.thread_global.ensures)

pub returns-in-Hook : goal.returns-in-Hook
returns-in-Hook c = rw (c.in-Hook.is, c.thread_hook.ensures)

pub returns-in-Error : goal.returns-in-Error
returns-in-Error c = rw (c.in-Error.is, c.thread_error.ensures)

pub returns-in-Size : goal.returns-in-Size
returns-in-Size c = rw (c.in-Size.is, c.thread_size.ensures.0)

pub returns-in-Top : goal.returns-in-Top
returns-in-Top c = rw (c.in-Top.is, c.thread_top.ensures.0)

pub returns-in-Opens : goal.returns-in-Opens
returns-in-Opens c = rw (c.in-Opens.is, c.thread_open_count.ensures.0)

pub returns-in-Suspendeds : goal.returns-in-Suspendeds
returns-in-Suspendeds c = rw (c.in-Suspendeds.is, c.thread_suspended_count.ensures.0)

pub returns-else-thread_open_count-k : goal.returns-else-thread_open_count-k
returns-else-thread_open_count-k c = rw c.in-Open.is (le_no _ _ _ _ _ (omega arith) (rw (c.thread_open.ensures, c.wide-k.ensures.0)))

pub returns-else-thread_suspended_count-k : goal.returns-else-thread_suspended_count-k
returns-else-thread_suspended_count-k c = rw c.in-Suspended.is (le_no _ _ _ _ _ (omega arith) (rw (c.thread_suspended.ensures, c.wide-k-in-Suspended.ensures.0)))

pub returns-else-thread_size-k : goal.returns-else-thread_size-k
returns-else-thread_size-k c = rw c.in-Stack.is (le_no _ _ _ _ _ (omega arith) (rw (c.thread_value.ensures, c.wide-k-in-Stack.ensures.0)))
