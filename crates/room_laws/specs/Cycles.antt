-- What may be done from marked roots up to the atomic phase. Assumes nothing.
use Rattle.std.specs.Prelude.{◌≡◌, ℕ, ◌+◌}
use mathlib.Core.List.{List}
use Rattle.value.specs.declared.TableRef.{TableRef}
use Rattle.value.specs.declared.Value.{Value}
use Rattle.layout.specs.declared.Lay.{Lay}
use Rattle.mark.specs.Words.{ops}
use Rattle.run_walk.specs.MainThread.{traverse_main_thread}
use Rattle.propagate.specs.Propagation.{propagate_one}
use Rattle.propagate.specs.Roots.{clear_lists, mark_roots}
use Rattle.propagate.specs.Barriers.{barrier_back, barrier_forward}
use Rattle.room_laws.specs.Frames.{Quiet}
use Rattle.room_laws.specs.Steps.{mains_due}

-- What may be done from marked roots up to the atomic phase, with n main threads taken off gray that wait for their traversal:
-- steps of propagation (over bytes that may change in between), traversals of the main thread that waits, barriers, and
-- anything that leaves the lists, the damage mark, and which tables, closures and threads are gray and dark, as making new
-- objects and storing in them does.
pub data Propagating (l : Lay) (w : List ℕ) : ℕ → List ℕ → Type 0 where
  started : {u : List ℕ} → u ≡ mark_roots (ops l) (clear_lists (ops l) w) → Propagating l w 0 u
  stepped : {n m : ℕ} {u v : List ℕ} → Propagating l w n u → (b : List ℕ) → m ≡ n + mains_due (propagate_one (ops l) l b u).0 → v ≡ (propagate_one (ops l) l b u).1 → Propagating l w m v
  walked : {n m : ℕ} {u v : List ℕ} → Propagating l w n u → n ≡ m + 1 → v ≡ (traverse_main_thread (ops l) l u).1 → Propagating l w m v
  back : {n : ℕ} {u v : List ℕ} → Propagating l w n u → (r : TableRef) → v ≡ barrier_back (ops l) r u → Propagating l w n v
  forward : {n : ℕ} {u v : List ℕ} → Propagating l w n u → (parent : ℕ) (x : Value) → v ≡ barrier_forward (ops l) l parent x u → Propagating l w n v
  meanwhile : {n : ℕ} {u v : List ℕ} → Propagating l w n u → Quiet l u v → Propagating l w n v
