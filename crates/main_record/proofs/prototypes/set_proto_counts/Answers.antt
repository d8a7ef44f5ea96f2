-- `main_record::prototypes::set_proto_counts` meets its contract: the callees' equations joined. Assumes nothing.
use Rattle.main_record.proofs.prototypes.set_proto_counts.Goals as goal

pub returns : goal.returns
returns c = cc
