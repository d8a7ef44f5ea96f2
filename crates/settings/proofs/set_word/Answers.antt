-- `settings::set_word` meets its contract: the callees' equations joined. Assumes nothing.
use Rattle.settings.proofs.set_word.Goals as goal

pub returns : goal.returns
returns c = rw (← c.get-old.ensures, ← c.put.ensures)
