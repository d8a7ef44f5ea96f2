-- `proto_reads::read_proto` meets its contract: from what its callees promise. Assumes nothing.
use mathlib.Core.Path.{ap}
use Rattle.std.proofs.lemmas.Result.{err_from_is_err_and}
use Rattle.layout.specs.Plans.{sizes_given}
use Rattle.main_record.specs.Parts.{parts}
use Rattle.test1.specs.Calls.{ask_fits, ask_refused}
use Rattle.proto_reads.proofs.read_proto.Goals as goal

pub proto_on-requires : goal.proto_on-requires
proto_on-requires c = parts _ _ _ (rw c.in_ok-l.was at c.enter.ensures.1)

pub returns : goal.returns
returns c = ask_fits _ _ _ _ _ _ c.enter.ensures.0 (ap sizes_given c.in_ok-l.was) c.proto_on.ensures

pub returns-in_err-l : goal.returns-in_err-l
returns-in_err-l c = let p = err_from_is_err_and c.from_residual.result c.from_residual.ensures.1 in rw (p.1, p.2) (ask_refused _ _ _ _ _ c.enter.ensures.0 (ap sizes_given c.in_err-l.was))
