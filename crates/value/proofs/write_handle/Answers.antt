-- `value::write_handle` meets its contract: from what its callees promise. Assumes nothing.
use Rattle.value.specs.Handles.{put_handle}
use Rattle.value.proofs.write_handle.Goals as goal

pub returns-in-None : goal.returns-in-None
unfolding put_handle
returns-in-None c = rw c.in-None.is c.put_pair.ensures

pub returns-in-Some : goal.returns-in-Some
unfolding put_handle
returns-in-Some c = rw c.in-Some.is c.put_pair-in-Some.ensures
