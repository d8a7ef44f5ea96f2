-- `main_record::main_top` meets its contract: the callees' equations joined. Assumes nothing.
use borrow.Author.Rules.{rules}
use Rattle.layout.specs.Layout.{lay_of}
use Rattle.main_record.proofs.main_top.Goals as goal

pub returns : goal.returns
unfolding lay_of
returns c = search rules
