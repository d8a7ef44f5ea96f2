-- `script_line::third` meets its contract: by the cases of its tests. Assumes nothing.
use Rattle.script_line.specs.Lines.{third}
use Rattle.script_line.proofs.third.Goals as goal

pub returns-in-Last : goal.returns-in-Last
unfolding third
returns-in-Last c = rw (← c.number_from.ensures, c.in-Last.is) c.counted.ensures

pub returns-in-Part : goal.returns-in-Part
unfolding third
returns-in-Part c = rw (← c.number_from.ensures, c.in-Part.is) c.fourth.ensures

pub returns-in-Bad : goal.returns-in-Bad
unfolding third
returns-in-Bad c = rw (← c.number_from.ensures, c.in-Bad.is) c.counted-in-Bad.ensures
