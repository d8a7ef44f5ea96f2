-- `told::put_two` meets its contract: from what its callees promise. Assumes nothing.
use Rattle.told.specs.Answers.{two}
use Rattle.told.proofs.put_two.Goals as goal

pub returns : goal.returns
unfolding two
returns c = rw (← c.put.ensures) c.put-2.ensures
