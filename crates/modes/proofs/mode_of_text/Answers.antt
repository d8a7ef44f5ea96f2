-- `modes::mode_of_text` meets its contract: the callees' equations joined. Assumes nothing.
use Rattle.modes.proofs.mode_of_text.Goals as goal

pub returns : goal.returns
returns c = rw (← c.has_byte.ensures, ← c.has_byte-2.ensures)
