-- `script_made::add` meets its contract: by its callees. Assumes nothing.
use Rattle.script_made.specs.Objects.{added}
use Rattle.script_made.proofs.add.Goals as goal

pub returns : goal.returns
unfolding added
returns c = rw (c.write_value.ensures, c.count_of-n.ensures)
