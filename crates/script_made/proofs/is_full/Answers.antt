-- `script_made::is_full` meets its contract: by its callees. Assumes nothing.
use Rattle.script_made.specs.Objects.{is_full}
use Rattle.script_made.proofs.is_full.Goals as goal

pub returns : goal.returns
unfolding is_full
returns c = rw (c.room_of.ensures, c.count_of.ensures)
