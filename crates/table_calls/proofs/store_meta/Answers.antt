-- `table_calls::store_meta` meets its contract: each way by its test. Assumes nothing.
use mathlib.Core.Path.{◌∙◌}
use native.Mathlib.Omega.{arith}
use Rattle.table_calls.specs.TableCalls.{store_meta}
use Rattle.table_calls.proofs.store_meta.Goals as goal

pub returns-then-not-is_table_or : goal.returns-then-not-is_table_or
unfolding store_meta
returns-then-not-is_table_or c = rw (← c.is_table_or.ensures, c.if-not-is_table_or.true)

pub barrier_back-requires : goal.barrier_back-requires
barrier_back-requires c = record { l_in_bounds = omega (arith, c.requires.l_in_bounds, c.set_table_meta.auto.w) }

pub shape_of-w : goal.shape_of-w
shape_of-w c = c.barrier_back.auto.w ∙ c.set_table_meta.auto.w

pub returns : goal.returns
unfolding store_meta
returns c = rw (← c.is_table_or.ensures, c.if-not-is_table_or.false, ← c.set_table_meta.ensures, ← c.barrier_back.ensures)
