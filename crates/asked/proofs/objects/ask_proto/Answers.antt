-- `asked::objects::ask_proto` meets its contract: from what its callees promise. Assumes nothing.
use Rattle.std.proofs.Common.{rules}
use Rattle.proto_reads.specs.ProtoReads.{read_proto}
use Rattle.asked.specs.Asked.{asked_by}
use Rattle.asked.specs.Objects.{ask_proto}
use Rattle.asked.proofs.objects.ask_proto.Goals as goal

pub returns : goal.returns
unfolding ask_proto
returns c = rw (← c.proto_field_of.ensures) (asked_by _ (read_proto _) _ _ _ (λ q p. search rules) c.ask.ensures)
