-- `make_protos::make_proto` meets its contract: test 1 lets it in or refuses. Assumes nothing.
use mathlib.Core.Path.{ap}
use Rattle.layout.specs.Plans.{sizes_given}
use Rattle.test1.specs.Calls.{call_err, call_words}
use Rattle.make_protos.specs.Making.{make_proto}
use Rattle.make_protos.proofs.make_proto.Goals as goal

pub proto_in-requires : goal.proto_in-requires
proto_in-requires c = record { l_in_bounds = (rw c.in_ok-l.was at c.enter.ensures.1).words }

pub returns : goal.returns
unfolding make_proto
returns c = call_words _ _ _ _ _ _ _ c.enter.ensures.0 (ap sizes_given c.in_ok-l.was) c.proto_in.ensures

pub returns-in_err-l : goal.returns-in_err-l
unfolding make_proto
returns-in_err-l c = call_err _ _ _ c.enter.ensures.0 c.in_err-l.was c.from_residual.ensures.1
