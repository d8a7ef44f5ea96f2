-- `pace::full_first` meets its contract: the callees' equations joined. Assumes nothing.
use Rattle.pace.specs.Pace.{full_first}
use Rattle.pace.proofs.full_first.Goals as goal

pub returns-in-None : goal.returns-in-None
unfolding full_first
returns-in-None c = rw (← c.drive.ensures, c.in-None.is, ← c.start_cycle.ensures) c.full_second.ensures

pub returns-in-Some : goal.returns-in-Some
unfolding full_first
returns-in-Some c = rw (← c.drive.ensures, c.in-Some.is)
