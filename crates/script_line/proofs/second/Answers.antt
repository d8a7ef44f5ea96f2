-- `script_line::second` meets its contract: by the cases of its tests. Assumes nothing.
use Rattle.script_line.specs.Lines.{second}
use Rattle.script_line.proofs.second.Goals as goal

pub returns-in-Last : goal.returns-in-Last
unfolding second
returns-in-Last c = rw (← c.number_from.ensures, c.in-Last.is) c.counted.ensures

pub returns-in-Part : goal.returns-in-Part
unfolding second
returns-in-Part c = rw (← c.number_from.ensures, c.in-Part.is) c.third.ensures

pub returns-in-Bad : goal.returns-in-Bad
unfolding second
returns-in-Bad c = rw (← c.number_from.ensures, c.in-Bad.is) c.counted-in-Bad.ensures
