-- `reads::read_out` meets its contract: from what its callees promise. Assumes nothing.
use mathlib.Core.Path.{ap}
use native.Mathlib.Omega.{arith}
use Rattle.std.proofs.lemmas.Result.{err_from_is_err_and}
use Rattle.layout.specs.Plans.{sizes_given}
use Rattle.test1.specs.Calls.{ask_fits, ask_refused}
use Rattle.reads.proofs.read_out.Goals as goal

pub read_ud_or-requires : goal.read_ud_or-requires
read_ud_or-requires c = omega (arith, (rw c.in_ok-enter.was at c.enter.ensures.1).header)

pub returns : goal.returns
returns c = ask_fits _ _ _ _ _ _ c.enter.ensures.0 (ap sizes_given c.in_ok-enter.was) (rw c.read_ud_or.ensures)

pub returns-in_err-enter : goal.returns-in_err-enter
returns-in_err-enter c = let p = err_from_is_err_and c.from_residual.result c.from_residual.ensures.1 in rw (p.1, p.2) (ask_refused _ _ _ _ _ c.enter.ensures.0 (ap sizes_given c.in_err-enter.was))
