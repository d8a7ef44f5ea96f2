-- `propagate::propagate_item` meets its contract: what each callee says, by the kind of item. Assumes nothing.
use native.Mathlib.Omega.{arith}
use Prim.{tt}
use Rattle.propagate.specs.Propagation.{propagate_item}
use Rattle.propagate.proofs.propagate_item.Goals as goal

pub traverse_table-requires : goal.traverse_table-requires
traverse_table-requires c = record { l_in_bounds = c.requires.l_in_bounds; l_in_bounds_2 = c.requires.l_in_bounds_2 }

pub traverse_closure-requires : goal.traverse_closure-requires
traverse_closure-requires c = record { l_in_bounds = c.requires.l_in_bounds }

pub traverse_thread-requires : goal.traverse_thread-requires
traverse_thread-requires c = record { l_in_bounds = c.requires.l_in_bounds }

pub shape_of-w-in-Table : goal.shape_of-w-in-Table
shape_of-w-in-Table c = c.traverse_table.auto.w

pub returns-in-Table : goal.returns-in-Table
unfolding propagate_item
returns-in-Table c = (rw (c.in-Table.is, ← c.traverse_table.ensures.0), c.traverse_table.ensures.1)

pub shape_of-w-in-Function : goal.shape_of-w-in-Function
shape_of-w-in-Function c = c.traverse_closure.auto.w

pub returns-in-Function : goal.returns-in-Function
unfolding propagate_item
returns-in-Function c = (rw (c.in-Function.is, ← c.traverse_closure.ensures.0), omega (arith, c.traverse_closure.ensures.1))

pub shape_of-w-in-Thread : goal.shape_of-w-in-Thread
shape_of-w-in-Thread c = c.traverse_thread.auto.w

pub returns-in-Thread : goal.returns-in-Thread
unfolding propagate_item
returns-in-Thread c = (rw (c.in-Thread.is, ← c.traverse_thread.ensures.0), omega (arith, c.traverse_thread.ensures.1))

pub returns-in-Main : goal.returns-in-Main
unfolding propagate_item
returns-in-Main c = (rw c.in-Main.is, tt)

pub returns-in-Userdata : goal.returns-in-Userdata
unfolding propagate_item
returns-in-Userdata c = (rw c.in-Userdata.is, omega arith)

pub returns-in-Unknown : goal.returns-in-Unknown
unfolding propagate_item
returns-in-Unknown c = (rw c.in-Unknown.is, omega arith)
