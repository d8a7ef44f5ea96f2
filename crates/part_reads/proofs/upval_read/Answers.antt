-- `part_reads::upval_read` meets its contract: the callees' equations joined. Assumes nothing.
use Rattle.part_reads.proofs.upval_read.Goals as goal

pub returns : goal.returns
returns c = rw (c.get.ensures, c.get-2.ensures)
