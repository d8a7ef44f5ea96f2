-- `node_calls::is_twin` meets its contract: each way by its test. Assumes nothing.
use Rattle.std.proofs.Common.{ap, not, eq-eqb}
use Rattle.base.specs.Ways.{eq_no, eq_yes}
use Rattle.node_calls.specs.NodeCalls.{is_twin}
use Rattle.node_calls.proofs.is_twin.Goals as goal

pub returns-then-i-j : goal.returns-then-i-j
unfolding is_twin
returns-then-i-j c = eq_no _ _ _ _ _ c.if-i-j.true (rw (← c.node_key.ensures) c.key_equal.ensures)

pub returns-else-i-j : goal.returns-else-i-j
unfolding is_twin
returns-else-i-j c = eq_yes _ _ _ _ _ c.if-i-j.false (ap not (eq-eqb _ _ c.if-i-j.false))
