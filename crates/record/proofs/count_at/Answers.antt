-- `record::count_at` meets its contract: from what its callees promise. Assumes nothing.
use Rattle.record.proofs.count_at.Goals as goal

pub returns : goal.returns
returns c = rw (← c.get.ensures) c.within.ensures
