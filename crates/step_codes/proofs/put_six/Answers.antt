-- `step_codes::put_six` meets its contract: the callees' equations joined. Assumes nothing.
use Rattle.step_codes.specs.Codes.{six}
use Rattle.step_codes.proofs.put_six.Goals as goal

pub returns : goal.returns
unfolding six
returns c = rw (← c.put.ensures, ← c.put-2.ensures, ← c.put-3.ensures) c.write_value.ensures
