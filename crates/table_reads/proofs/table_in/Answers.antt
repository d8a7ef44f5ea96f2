-- `table_reads::table_in` meets its contract: each way by its test. Assumes nothing.
use mathlib.Core.Path.{refl}
use native.Mathlib.Omega.{arith}
use Rattle.base.specs.Ways.{le_yes, le_no}
use Rattle.table_reads.proofs.table_in.Goals as goal

pub returns-then-array_size-k : goal.returns-then-array_size-k
returns-then-array_size-k c = rw c.in-At.is (le_yes _ _ _ _ _ (omega arith) refl)

pub returns-then-node_count-k : goal.returns-then-node_count-k
returns-then-node_count-k c = rw c.in-Key.is (le_yes _ _ _ _ _ (omega arith) refl)

pub returns-then-node_count-k-2 : goal.returns-then-node_count-k-2
returns-then-node_count-k-2 c = rw c.in-Val.is (le_yes _ _ _ _ _ (omega arith) refl)

pub returns-in-Meta : goal.returns-in-Meta
returns-in-Meta c = rw (c.in-Meta.is, c.table_meta.ensures)

pub returns-in-Array : goal.returns-in-Array
returns-in-Array c = rw (c.in-Array.is, c.array_size.ensures.0)

pub returns-in-Nodes : goal.returns-in-Nodes
returns-in-Nodes c = rw (c.in-Nodes.is, c.node_count.ensures.0)

pub returns-else-array_size-k : goal.returns-else-array_size-k
returns-else-array_size-k c = rw c.in-At.is (le_no _ _ _ _ _ (omega arith) (rw (c.array_value.ensures, c.wide-k.ensures.0)))

pub returns-else-node_count-k : goal.returns-else-node_count-k
returns-else-node_count-k c = rw c.in-Key.is (le_no _ _ _ _ _ (omega arith) (rw (c.node_key.ensures, c.wide-k-in-Key.ensures.0)))

pub returns-else-node_count-k-2 : goal.returns-else-node_count-k-2
returns-else-node_count-k-2 c = rw c.in-Val.is (le_no _ _ _ _ _ (omega arith) (rw (c.node_value.ensures, c.wide-k-in-Val.ensures.0)))
