-- `value::low_of` meets its contract: from what its callees promise. Assumes nothing.
use Rattle.value.proofs.low_of.Goals as goal

pub returns-in-Light : goal.returns-in-Light
returns-in-Light c = rw c.in-Light.is c.low_half.ensures

pub returns-in-Number : goal.returns-in-Number
returns-in-Number c = rw c.in-Number.is c.low_half-in-Number.ensures
