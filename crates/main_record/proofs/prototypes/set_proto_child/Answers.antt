-- `main_record::prototypes::set_proto_child` meets its contract: the callees' equations joined. Assumes nothing.
use Rattle.main_record.proofs.prototypes.set_proto_child.Goals as goal

pub returns : goal.returns
returns c = rw (← c.protos_at.ensures) c.put_number.ensures
