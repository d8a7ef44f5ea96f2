-- `modes::gc_method` meets its contract: the callees' equations joined. Assumes nothing.
use Rattle.laid.specs.Laid.{header_room, laid_of}
use Rattle.modes.specs.Modes.{gc_method}
use Rattle.modes.proofs.gc_method.Goals as goal

pub gc_name-requires : goal.gc_name-requires
gc_name-requires c = header_room _ c.args.w.now (laid_of _ c.args.l.fits) c.requires.l_in_bounds

pub returns-in-Some : goal.returns-in-Some
unfolding gc_method
returns-in-Some c = rw (c.in-Some.is, ← c.gc_name.ensures) c.field.ensures

pub returns-in-None : goal.returns-in-None
unfolding gc_method
returns-in-None c = rw c.in-None.is
