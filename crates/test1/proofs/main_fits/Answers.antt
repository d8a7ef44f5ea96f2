-- `test1::main_fits` meets its contract: the callees' equations joined. Assumes nothing.
use Rattle.test1.proofs.main_fits.Goals as goal

pub returns : goal.returns
returns c = cc
