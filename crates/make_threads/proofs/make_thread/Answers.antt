-- `make_threads::make_thread` meets its contract: test 1 lets it in or refuses. Assumes nothing.
use mathlib.Core.Path.{ap}
use Rattle.layout.specs.Plans.{sizes_given}
use Rattle.make_threads.specs.Making.{make_thread}
use Rattle.test1.specs.Calls.{call_err, call_words}
use Rattle.make_threads.proofs.make_thread.Goals as goal

pub thread_in-requires : goal.thread_in-requires
thread_in-requires c = record { l_in_bounds = (rw c.in_ok-l.was at c.enter.ensures.1).words }

pub returns : goal.returns
unfolding make_thread
returns c = call_words _ _ _ _ _ _ _ c.enter.ensures.0 (ap sizes_given c.in_ok-l.was) c.thread_in.ensures

pub returns-in_err-l : goal.returns-in_err-l
unfolding make_thread
returns-in_err-l c = call_err _ _ _ c.enter.ensures.0 c.in_err-l.was c.from_residual.ensures.1
