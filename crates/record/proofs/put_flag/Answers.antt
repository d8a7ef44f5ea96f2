-- `record::put_flag` meets its contract: from what its callees promise. Assumes nothing.
use Rattle.record.proofs.put_flag.Goals as goal

pub returns : goal.returns
returns c = rw (← c.word_of.ensures) c.put.ensures
