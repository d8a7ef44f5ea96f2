-- `make_tables::table_in` meets its contract: each way by its test. Assumes nothing.
use mathlib.Core.Path.{◌∙◌, refl, sym}
use native.Mathlib.Omega.{arith}
use Rattle.base.specs.Ways.{lt_no, lt_yes}
use Rattle.make_tables.specs.Making.{nodes_most, table_in}
use Rattle.make_tables.proofs.table_in.Goals as goal

pub returns-then-array-gt64 : goal.returns-then-array-gt64
unfolding table_in
returns-then-array-gt64 c = lt_yes _ _ _ _ _ c.if-array-gt64.true refl

pub new_table-requires : goal.new_table-requires
new_table-requires c = record { l_in_bounds = c.requires.l_in_bounds; array_bound = (omega (arith, c.wide.ensures.0, c.if-array-gt64.false), omega (arith, c.wide-then-is_nodes.ensures.0, nodes_most _ (sym c.is_nodes.ensures ∙ c.if-is_nodes.true))) }

pub returns-then-is_nodes : goal.returns-then-is_nodes
unfolding table_in
returns-then-is_nodes c = lt_no _ _ _ _ _ c.if-array-gt64.false (rw (← c.is_nodes.ensures, c.if-is_nodes.true) (rw (c.wide.ensures.0, c.wide-then-is_nodes.ensures.0) at c.new_table.ensures))

pub returns-else-is_nodes : goal.returns-else-is_nodes
unfolding table_in
returns-else-is_nodes c = lt_no _ _ _ _ _ c.if-array-gt64.false (rw (← c.is_nodes.ensures, c.if-is_nodes.false))
