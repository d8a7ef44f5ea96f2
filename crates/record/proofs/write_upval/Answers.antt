-- `record::write_upval` meets its contract: the callees' equations joined. Assumes nothing.
use Rattle.record.proofs.write_upval.Goals as goal

pub returns : goal.returns
returns c = cc
