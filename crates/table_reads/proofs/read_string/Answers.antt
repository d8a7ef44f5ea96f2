-- `table_reads::read_string` meets its contract: from what its callees promise. Assumes nothing.
use Rattle.std.proofs.lemmas.Result.{err_from_is_err_and}
use Rattle.reads.specs.Objects.{object_at, object_refused}
use Rattle.table_reads.proofs.read_string.Goals as goal

pub string_in-requires : goal.string_in-requires
string_in-requires c = let h = (rw c.in_ok-i.was at c.find.ensures.1) in record { p_in_bounds = h.0; n_in_bounds = h.1 }

pub returns : goal.returns
returns c = object_at _ _ _ _ _ _ _ _ _ c.find.ensures.0 c.in_ok-i.was c.string_in.ensures

pub returns-in_err-i : goal.returns-in_err-i
returns-in_err-i c = let p = err_from_is_err_and c.from_residual.result c.from_residual.ensures.1 in rw (p.1, p.2) (object_refused _ _ _ _ _ _ _ c.find.ensures.0 c.in_err-i.was)
