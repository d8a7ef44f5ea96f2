-- `frame_calls::set_frame` meets its contract: the callees' equations joined. Assumes nothing.
use mathlib.Core.Path.{ap}
use Rattle.layout.specs.Plans.{sizes_given}
use Rattle.test1.specs.Calls.{call_err, call_words}
use Rattle.frame_calls.specs.FrameCalls.{set_frame}
use Rattle.frame_calls.proofs.set_frame.Goals as goal

pub set_frame_in-requires : goal.set_frame_in-requires
set_frame_in-requires c = record { l_in_bounds = (rw c.in_ok-l.was at c.enter.ensures.1).words }

pub returns : goal.returns
unfolding set_frame
returns c = call_words _ _ _ _ _ _ _ c.enter.ensures.0 (ap sizes_given c.in_ok-l.was) c.set_frame_in.ensures

pub returns-in_err-l : goal.returns-in_err-l
unfolding set_frame
returns-in_err-l c = call_err _ _ _ c.enter.ensures.0 c.in_err-l.was c.from_residual.ensures.1
