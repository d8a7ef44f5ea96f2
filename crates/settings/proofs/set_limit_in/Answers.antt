-- `settings::set_limit_in` meets its contract: the callees' equations joined. Assumes nothing.
use Rattle.settings.specs.Settings.{set_limit_in}
use Rattle.settings.proofs.set_limit_in.Goals as goal

pub returns : goal.returns
unfolding set_limit_in
returns c = rw (← c.get64-old.ensures, ← c.put64.ensures, ← c.lower_threshold.ensures)
