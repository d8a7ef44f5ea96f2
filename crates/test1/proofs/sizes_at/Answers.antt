-- `test1::sizes_at` meets its contract: from what its callees promise. Assumes nothing.
use Rattle.test1.specs.Test1.{sizes_at}
use Rattle.test1.proofs.sizes_at.Goals as goal

pub returns : goal.returns
unfolding sizes_at
returns c = rw (c.wide.ensures.0, c.wide-2.ensures.0, c.wide-3.ensures.0, c.wide-4.ensures.0, c.wide-5.ensures.0, c.wide-6.ensures.0, c.wide-7.ensures.0, c.wide-8.ensures.0, c.wide-9.ensures.0, c.wide-10.ensures.0)
