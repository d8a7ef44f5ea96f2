-- `record::tables::set_table_sizes` meets its contract: the callees' equations joined. Assumes nothing.
use Rattle.record.proofs.tables.set_table_sizes.Goals as goal

pub returns : goal.returns
returns c = cc
