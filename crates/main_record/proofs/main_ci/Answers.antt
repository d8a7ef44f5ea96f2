-- `main_record::main_ci` meets its contract: the callees' equations joined. Assumes nothing.
use borrow.Author.Rules.{rules}
use native.Mathlib.Omega.{arith}
use Rattle.layout.specs.Layout.{lay_of}
use Rattle.main_record.proofs.main_ci.Goals as goal

pub overflow_sub-l : goal.overflow_sub-l
unfolding lay_of
overflow_sub-l c = omega (arith, c.requires.frame)

pub returns : goal.returns
unfolding lay_of
returns c = search rules
