-- `script_collect::collect_command` meets its contract: its callees' equations joined. Assumes nothing.
use Rattle.script_collect.specs.Collects.{collecting}
use Rattle.script_collect.proofs.collect_command.Goals as goal

pub returns : goal.returns
unfolding collecting
returns c = rw (← c.counts_in-before.ensures, ← c.full_gc-a.ensures, ← c.finals-h.ensures, c.ended-outcome.ensures)
