-- `script_line::first` meets its contract: by the cases of its tests. Assumes nothing.
use Rattle.script_line.specs.Lines.{first}
use Rattle.script_line.proofs.first.Goals as goal

pub returns-in-Last : goal.returns-in-Last
unfolding first
returns-in-Last c = rw (← c.number_from.ensures, c.in-Last.is) c.counted.ensures

pub returns-in-Part : goal.returns-in-Part
unfolding first
returns-in-Part c = rw (← c.number_from.ensures, c.in-Part.is) c.second.ensures

pub returns-in-Bad : goal.returns-in-Bad
unfolding first
returns-in-Bad c = rw (← c.number_from.ensures, c.in-Bad.is) c.counted-in-Bad.ensures
