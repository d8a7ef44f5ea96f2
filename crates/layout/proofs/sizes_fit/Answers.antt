-- `layout::sizes_fit` meets its contract: the code's tests are the table's rows. Assumes nothing.
use mathlib.Core.Path.{refl}
use Rattle.layout.specs.Sizes.{sizes_fit}
use Rattle.layout.proofs.sizes_fit.Goals as goal

pub returns : goal.returns
unfolding sizes_fit
returns c = refl
