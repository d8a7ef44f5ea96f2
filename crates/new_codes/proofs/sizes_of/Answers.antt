-- `new_codes::sizes_of` meets its contract: from what its callees promise. Assumes nothing.
use Rattle.new_codes.specs.NewCodes.{sizes_of}
use Rattle.new_codes.proofs.sizes_of.Goals as goal

pub returns : goal.returns
unfolding sizes_of
returns c = rw (c.number.ensures, c.number-2.ensures, c.number-3.ensures, c.number-4.ensures, c.number-5.ensures, c.number-6.ensures, c.number-7.ensures, c.number-8.ensures, c.number-9.ensures, c.number-10.ensures)
