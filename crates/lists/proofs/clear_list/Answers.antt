-- `lists::clear_list` meets its contract: from what its callees promise. Assumes nothing.
use Rattle.lists.specs.Lists.{cleared}
use Rattle.lists.proofs.clear_list.Goals as goal

pub returns : goal.returns
unfolding cleared
returns c = rw (← c.length_of-n.ensures.0, ← c.clear_words.ensures) c.set_length.ensures
