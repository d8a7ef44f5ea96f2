-- `script_input::read_on` meets its contract: its callees' equations joined. Assumes nothing.
use Rattle.script_input.specs.Input.{read_on, onward}
use Rattle.script_input.proofs.read_on.Goals as goal

pub returns : goal.returns
unfolding read_on
returns c = (rw (← c.gather-g.ensures), onward _ _ _ _ _ _ c.gather-g.ensures)
