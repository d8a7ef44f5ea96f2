-- `script_answers::of_got` meets its contract: by cases of what is given. Assumes nothing.
use Rattle.std.proofs.lemmas.Result.{err_from_is_err_and}
use Rattle.script_answers.proofs.of_got.Goals as goal

pub returns-in_err-a : goal.returns-in_err-a
returns-in_err-a c = let p = err_from_is_err_and c.from_residual.result c.from_residual.ensures.1 in rw (c.in_err-a.was, p.1, p.2)
