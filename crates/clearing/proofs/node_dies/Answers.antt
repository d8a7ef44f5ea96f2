-- `clearing::node_dies` meets its contract: the callees' equations joined. Assumes nothing.
use Rattle.clearing.specs.Entries.{node_dies}
use Rattle.clearing.proofs.node_dies.Goals as goal

pub key_dies-requires : goal.key_dies-requires
key_dies-requires c = c.requires

pub returns-then-key_dies : goal.returns-then-key_dies
unfolding node_dies
returns-then-key_dies c = rw (← c.key_dies.ensures, c.if-key_dies.true)

pub value_dies-requires : goal.value_dies-requires
value_dies-requires c = c.requires

pub returns-else-key_dies : goal.returns-else-key_dies
unfolding node_dies
returns-else-key_dies c = rw (← c.key_dies.ensures, c.if-key_dies.false) c.value_dies.ensures
