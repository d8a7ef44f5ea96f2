-- `main_record::prototypes::protos_used` meets its contract: the callees' equations joined. Assumes nothing.
use borrow.Author.Rules.{rules}
use Rattle.layout.specs.Layout.{lay_of}
use Rattle.main_record.proofs.prototypes.protos_used.Goals as goal

pub returns : goal.returns
unfolding lay_of
returns c = search rules
