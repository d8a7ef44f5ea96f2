-- `layout::needed` meets its contract: from what its callees promise. Assumes nothing.
use Rattle.std.proofs.lemmas.Result.{err_from_is_err_and}
use Rattle.layout.specs.Layout.{needed_of}
use Rattle.layout.proofs.needed.Goals as goal

pub returns : goal.returns
unfolding needed_of
returns c = rw (← c.plan.ensures, c.in_ok-z.was, c.words_of.ensures, c.bytes_of.ensures)

pub returns-in_err-z : goal.returns-in_err-z
unfolding needed_of
returns-in_err-z c = let p = err_from_is_err_and c.from_residual.result c.from_residual.ensures.1 in rw (← c.plan.ensures, c.in_err-z.was, p.1, p.2)
