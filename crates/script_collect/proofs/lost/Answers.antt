-- `script_collect::lost` meets its contract: its callees' equations joined. Assumes nothing.
use Rattle.script_collect.specs.Collects.{lost}
use Rattle.script_collect.proofs.lost.Goals as goal

pub returns : goal.returns
unfolding lost
returns c = rw (c.saturating_sub.ensures, c.saturating_sub-2.ensures, c.saturating_sub-3.ensures, c.saturating_sub-4.ensures, c.saturating_sub-5.ensures, c.saturating_sub-6.ensures)
