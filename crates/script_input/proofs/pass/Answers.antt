-- `script_input::pass` meets its contract: its callees' equations joined. Assumes nothing.
use Rattle.script_input.specs.Input.{passed}
use Rattle.script_input.proofs.pass.Goals as goal

pub returns : goal.returns
unfolding passed
returns c = rw c.add_sat-number.ensures
