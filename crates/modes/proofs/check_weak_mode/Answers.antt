-- `modes::check_weak_mode` meets its contract: the callees' equations joined. Assumes nothing.
use Rattle.laid.specs.Laid.{header_room, laid_of}
use Rattle.modes.specs.Modes.{weak_mode}
use Rattle.modes.proofs.check_weak_mode.Goals as goal

pub mode_name-requires : goal.mode_name-requires
mode_name-requires c = header_room _ c.args.w.now (laid_of _ c.args.l.fits) c.requires.l_in_bounds

pub returns-in-Some : goal.returns-in-Some
unfolding weak_mode
returns-in-Some c = rw (c.in-Some.is, ← c.mode_name.ensures, ← c.field-v.ensures) c.mode_of_value.ensures

pub returns-in-None : goal.returns-in-None
unfolding weak_mode
returns-in-None c = rw c.in-None.is
