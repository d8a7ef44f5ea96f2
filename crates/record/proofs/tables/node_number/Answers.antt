-- `record::tables::node_number` meets its contract: from what its callees promise. Assumes nothing.
use native.Mathlib.Omega.{arith}
use Rattle.base.specs.Ways.{if_eq}
use Rattle.record.specs.Tables.{node_number}
use Rattle.std.proofs.Common.{tests, arith}
use Rattle.std.proofs.lemmas.Grind.{common_steps}
use Rattle.record.proofs.tables.node_number.Goals as goal

pub returns-in-1 : goal.returns-in-1
unfolding node_number if_eq
returns-in-1 c = (rw c.in-1.is, omega arith)

pub returns-in-2 : goal.returns-in-2
unfolding node_number if_eq
returns-in-2 c = (rw c.in-2.is, omega arith)

pub returns-in-4 : goal.returns-in-4
unfolding node_number if_eq
returns-in-4 c = (rw c.in-4.is, omega arith)

pub returns-in-8 : goal.returns-in-8
unfolding node_number if_eq
returns-in-8 c = (rw c.in-8.is, omega arith)

pub returns-in-16 : goal.returns-in-16
unfolding node_number if_eq
returns-in-16 c = (rw c.in-16.is, omega arith)

pub returns-in-32 : goal.returns-in-32
unfolding node_number if_eq
returns-in-32 c = (rw c.in-32.is, omega arith)

pub returns-in-64 : goal.returns-in-64
unfolding node_number if_eq
returns-in-64 c = (rw c.in-64.is, omega arith)

pub returns-in_default : goal.returns-in_default
unfolding node_number if_eq
returns-in_default c = (grind (arith, common_steps, tests), omega arith)
