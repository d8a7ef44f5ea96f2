-- `main_record::prototypes::proto_constant` meets its contract: the callees' equations joined. Assumes nothing.
use Rattle.main_record.proofs.prototypes.proto_constant.Goals as goal

pub returns : goal.returns
returns c = rw (← c.protos_at.ensures) c.read_value.ensures
