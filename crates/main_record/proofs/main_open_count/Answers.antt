-- `main_record::main_open_count` meets its contract: the callees' equations joined. Assumes nothing.
use borrow.Author.Rules.{rules}
use Rattle.layout.specs.Layout.{lay_of}
use Rattle.main_record.proofs.main_open_count.Goals as goal

pub returns : goal.returns
unfolding lay_of
returns c = search rules
