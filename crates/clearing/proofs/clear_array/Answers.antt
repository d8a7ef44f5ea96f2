-- `clearing::clear_array` meets its contract: the callees' equations joined. Assumes nothing.
use Rattle.clearing.specs.Entries.{clear_array}
use Rattle.clearing.proofs.clear_array.Goals as goal

pub clear_values-requires : goal.clear_values-requires
clear_values-requires c = c.requires

pub shape_of-w : goal.shape_of-w
shape_of-w c = c.clear_values.auto.w

pub returns-then-m : goal.returns-then-m
unfolding clear_array
returns-then-m c = rw c.if-m.true c.clear_values.ensures

pub returns-else-m : goal.returns-else-m
unfolding clear_array
returns-else-m c = rw c.if-m.false
