-- `table_reads::userdata_in` meets its contract: from what its callees promise. Assumes nothing.
use Rattle.table_reads.proofs.userdata_in.Goals as goal

pub returns-in-Meta : goal.returns-in-Meta
returns-in-Meta c = rw (c.in-Meta.is, c.ud_meta.ensures)

pub returns-in-Env : goal.returns-in-Env
returns-in-Env c = rw (c.in-Env.is, c.ud_env.ensures)

pub returns-in-Creation : goal.returns-in-Creation
returns-in-Creation c = rw (c.in-Creation.is, c.ud_creation.ensures)

pub returns-in-Finalized : goal.returns-in-Finalized
returns-in-Finalized c = rw c.in-Finalized.is (rw (← c.ud_finalized.ensures) c.flag_read.ensures)
