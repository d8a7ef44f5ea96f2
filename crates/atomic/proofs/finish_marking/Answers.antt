-- `atomic::finish_marking` meets its contract: the callees' equations joined. Assumes nothing.
use Rattle.atomic.specs.Atomic.{finished}
use Rattle.atomic.proofs.finish_marking.Goals as goal

pub returns : goal.returns
unfolding finished
returns c = (rw (← c.separate_userdata-n.ensures.0, ← c.mark_tmudata.ensures, ← c.propagate_all.ensures), c.separate_userdata-n.ensures.1)
