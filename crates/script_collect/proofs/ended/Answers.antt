-- `script_collect::ended` meets its contract: by cases of the answer. Assumes nothing.
use Rattle.std.specs.Prelude.{Ok}
use Rattle.std.proofs.Common.{◌≡◌, refl}
use Rattle.std.proofs.lemmas.Result.{err_from_is_err_and}
use Rattle.base.specs.Heap.{Heap}
use Rattle.accounts.specs.declared.Answer.{Answer}
use Rattle.accounts.specs.declared.Answer.TheVariants.{Stepped, Unfinished, Ended, Passed, Handed, Busy, Failed}
use Rattle.script_print.specs.declared.Counts.{Counts}
use Rattle.script_print.specs.declared.Outcome.TheVariants as outcome
use Rattle.script_collect.specs.Collects.{counts_in, lost, ended}
use Rattle.script_collect.proofs.ended.Goals as goal

-- an answer that refuses nothing
served : (before : Counts) (h : Heap) (a : Answer) → Ok (outcome.Freed (lost before (counts_in h))) ≡ ended before h (Ok a)
unfolding ended
served before h (Stepped c) = refl
served before h Unfinished = refl
served before h Ended = refl
served before h Passed = refl
served before h (Handed r v) = refl
served before h Busy = refl
served before h Failed = refl

pub returns-in_err-a : goal.returns-in_err-a
unfolding ended
returns-in_err-a c = let p = err_from_is_err_and c.from_residual.result c.from_residual.ensures.1 in rw (c.in_err-a.was, p.1, p.2)

pub returns : goal.returns
returns c = rw (c.lost.ensures, c.counts_in.ensures, c.in_ok-a.was) (served _ _ _)
