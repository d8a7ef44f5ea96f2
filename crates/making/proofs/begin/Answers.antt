-- `making::begin` meets its contract: the callees' equations joined. Assumes nothing.
use Rattle.making.proofs.begin.Goals as goal

pub returns : goal.returns
returns c = (rw (← c.body_of-p.ensures.0, ← c.clear_words.ensures) c.track.ensures, c.body_of-p.ensures.0, c.body_of-p.ensures.1)
