-- `record::read_upval` meets its contract: from what its callees promise. Assumes nothing.
use Rattle.record.proofs.read_upval.Goals as goal

pub returns : goal.returns
returns c = rw (c.get.ensures, c.get-2.ensures)
