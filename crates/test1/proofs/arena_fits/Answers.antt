-- `test1::arena_fits` meets its contract: the callees' equations joined. Assumes nothing.
use Rattle.test1.proofs.arena_fits.Goals as goal

pub returns : goal.returns
returns c = cc
