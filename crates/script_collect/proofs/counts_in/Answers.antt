-- `script_collect::counts_in` meets its contract: its callees' equations joined. Assumes nothing.
use Rattle.script_collect.specs.Collects.{counts_in}
use Rattle.script_collect.proofs.counts_in.Goals as goal

pub returns : goal.returns
unfolding counts_in
returns c = rw (c.count_in.ensures, c.count_in-2.ensures, c.count_in-3.ensures, c.count_in-4.ensures, c.count_in-5.ensures, c.count_in-6.ensures)
