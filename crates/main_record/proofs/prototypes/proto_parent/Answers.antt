-- `main_record::prototypes::proto_parent` meets its contract: the callees' equations joined. Assumes nothing.
use Rattle.main_record.proofs.prototypes.proto_parent.Goals as goal

pub returns : goal.returns
returns c = rw (← c.protos_at.ensures) c.number_at.ensures
