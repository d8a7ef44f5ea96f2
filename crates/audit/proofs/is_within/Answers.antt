-- `audit::is_within` meets its contract: the word as a number. Assumes nothing.
use Rattle.audit.proofs.is_within.Goals as goal

pub returns : goal.returns
returns c = rw c.wide.ensures.0
