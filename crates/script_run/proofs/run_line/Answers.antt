-- `script_run::run_line` meets its contract: what its command printed, and then the text of its outcome. Assumes nothing.
use Rattle.script_run.specs.Laws.{line_runs, printed_within}
use Rattle.script_run.proofs.run_line.Goals as goal

pub returns : goal.returns
returns c = record { made_after = line_runs _ _ _ _ (rw c.parse-c.ensures.0 at c.obey-t.ensures) c.outcome_line.ensures; upper_bound = printed_within _ _ _ _ (line_runs _ _ _ _ (rw c.parse-c.ensures.0 at c.obey-t.ensures) c.outcome_line.ensures) }
