-- `make_tables::is_nodes` meets its contract: by computation. Assumes nothing.
use mathlib.Core.Path.{refl}
use Rattle.make_tables.specs.Making.{is_nodes}
use Rattle.make_tables.proofs.is_nodes.Goals as goal

pub returns : goal.returns
unfolding is_nodes
returns c = refl
