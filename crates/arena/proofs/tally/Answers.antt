-- `arena::tally` meets its contract: each way by its test. Assumes nothing.
use Rattle.std.proofs.Common.{refl, arith}
use Rattle.arena.specs.Slots.{tallied}
use Rattle.base.specs.Ways.{eq_yes, eq_no}
use Rattle.arena.proofs.tally.Goals as goal

pub returns-then-colour_of-eq0 : goal.returns-then-colour_of-eq0
unfolding tallied
returns-then-colour_of-eq0 c = (eq_yes _ _ _ _ _ (omega arith) refl, omega arith)

pub returns : goal.returns
unfolding tallied
returns c = (eq_no _ _ _ _ _ (λ e. omega arith) refl, omega arith)
