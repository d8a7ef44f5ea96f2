-- `lists::take_out` meets its contract: from what its callees promise. Assumes nothing.
use Rattle.lists.specs.Lists.{taken}
use Rattle.lists.proofs.take_out.Goals as goal

pub returns : goal.returns
unfolding taken
returns c = rw (← c.put3.ensures) c.set_length.ensures
