-- `run_reads::closure_in` meets its contract: from what its callees promise. Assumes nothing.
use Rattle.run_reads.proofs.closure_in.Goals as goal

pub returns-in-Rust : goal.returns-in-Rust
returns-in-Rust c = rw c.in-Rust.is (rw (← c.is_rust.ensures) c.flag_read.ensures)

pub returns-in-Env : goal.returns-in-Env
returns-in-Env c = rw (c.in-Env.is, c.closure_env.ensures)

pub returns-in-Proto : goal.returns-in-Proto
returns-in-Proto c = rw (c.in-Proto.is, c.closure_proto.ensures.0)

pub returns-in-Count : goal.returns-in-Count
returns-in-Count c = rw (c.in-Count.is, c.closure_count.ensures.0)

pub returns-in-Upvalue : goal.returns-in-Upvalue
returns-in-Upvalue c = rw c.in-Upvalue.is c.held_upvalue.ensures

pub returns-in-Value : goal.returns-in-Value
returns-in-Value c = rw c.in-Value.is c.held_value.ensures
