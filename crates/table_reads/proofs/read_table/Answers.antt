-- `table_reads::read_table` meets its contract: from what its callees promise. Assumes nothing.
use Rattle.std.proofs.lemmas.Result.{err_from_is_err_and}
use Rattle.reads.specs.Objects.{object_at, object_refused}
use Rattle.table_reads.proofs.read_table.Goals as goal

pub table_in-requires : goal.table_in-requires
table_in-requires c = (rw c.in_ok-p.was at c.find.ensures.1).0

pub returns : goal.returns
returns c = object_at _ _ _ _ _ _ _ _ _ c.find.ensures.0 c.in_ok-p.was c.table_in.ensures

pub returns-in_err-p : goal.returns-in_err-p
returns-in_err-p c = let p = err_from_is_err_and c.from_residual.result c.from_residual.ensures.1 in rw (p.1, p.2) (object_refused _ _ _ _ _ _ _ c.find.ensures.0 c.in_err-p.was)
