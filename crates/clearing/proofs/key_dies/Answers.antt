-- `clearing::key_dies` meets its contract: the callees' equations joined. Assumes nothing.
use native.Mathlib.Omega.{arith}
use Rattle.clearing.specs.Entries.{key_dies}
use Rattle.clearing.proofs.key_dies.Goals as goal

pub read_value-requires : goal.read_value-requires
read_value-requires c = omega (arith, c.requires.q_in_bounds)

pub is_dead-requires : goal.is_dead-requires
is_dead-requires c = record { l_in_bounds = c.requires.l_in_bounds }

pub returns-then-m : goal.returns-then-m
unfolding key_dies
returns-then-m c = rw (c.if-m.true, ← c.read_value.ensures) c.is_dead.ensures

pub returns-else-m : goal.returns-else-m
unfolding key_dies
returns-else-m c = rw c.if-m.false
