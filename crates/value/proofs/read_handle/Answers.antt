-- `value::read_handle` meets its contract: from what its callees promise. Assumes nothing.
use Rattle.value.proofs.read_handle.Goals as goal

pub returns : goal.returns
returns c = rw (← c.get.ensures, ← c.get-2.ensures) c.handle_of.ensures
