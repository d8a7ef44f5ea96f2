-- `held::record_names` meets its contract: by the kinds. Assumes nothing.
use Rattle.held.specs.Held.{record_names}
use Rattle.held.proofs.record_names.Goals as goal

pub table_names-requires : goal.table_names-requires
table_names-requires c = record { l_in_bounds = c.requires.l_in_bounds; p_in_bounds = rw c.in-Tables.is at c.requires.k_in_bounds }

pub closure_names-requires : goal.closure_names-requires
closure_names-requires c = record { l_in_bounds = c.requires.l_in_bounds; p_in_bounds = rw c.in-Functions.is at c.requires.k_in_bounds }

pub upvalue_names-requires : goal.upvalue_names-requires
upvalue_names-requires c = record { l_in_bounds = c.requires.l_in_bounds; p_in_bounds = rw c.in-Upvalues.is at c.requires.k_in_bounds }

pub userdata_names-requires : goal.userdata_names-requires
userdata_names-requires c = record { l_in_bounds = c.requires.l_in_bounds; p_in_bounds = rw c.in-Userdata.is at c.requires.k_in_bounds }

pub thread_names-requires : goal.thread_names-requires
thread_names-requires c = record { l_in_bounds = c.requires.l_in_bounds; p_in_bounds = rw c.in-Threads.is at c.requires.k_in_bounds }

pub returns-in-Strings : goal.returns-in-Strings
unfolding record_names
returns-in-Strings c = rw c.in-Strings.is

pub returns-in-Tables : goal.returns-in-Tables
unfolding record_names
returns-in-Tables c = rw c.in-Tables.is c.table_names.ensures

pub returns-in-Functions : goal.returns-in-Functions
unfolding record_names
returns-in-Functions c = rw c.in-Functions.is c.closure_names.ensures

pub returns-in-Upvalues : goal.returns-in-Upvalues
unfolding record_names
returns-in-Upvalues c = rw c.in-Upvalues.is c.upvalue_names.ensures

pub returns-in-Userdata : goal.returns-in-Userdata
unfolding record_names
returns-in-Userdata c = rw c.in-Userdata.is c.userdata_names.ensures

pub returns-in-Threads : goal.returns-in-Threads
unfolding record_names
returns-in-Threads c = rw c.in-Threads.is c.thread_names.ensures
