-- `lists::store` meets its contract: from what its callees promise. Assumes nothing.
use Rattle.lists.specs.Lists.{stored}
use Rattle.lists.proofs.store.Goals as goal

pub returns : goal.returns
unfolding stored
returns c = rw (← c.write_item.ensures) c.set_length.ensures
