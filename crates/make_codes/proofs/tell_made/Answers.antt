-- `make_codes::tell_made` meets its contract: each way by its test. Assumes nothing.
use Rattle.make_codes.specs.Codes.{made_told}
use Rattle.make_codes.proofs.tell_made.Goals as goal

pub returns-in-Ok-Str : goal.returns-in-Ok-Str
unfolding made_told
returns-in-Ok-Str c = rw (c.in-Ok-Str.is, rw c.in-Ok-Str.is at c.in-Ok-Str.field-0-is, ← c.put_two.ensures)

pub returns-in-Ok-Table : goal.returns-in-Ok-Table
unfolding made_told
returns-in-Ok-Table c = rw (c.in-Ok-Table.is, rw c.in-Ok-Table.is at c.in-Ok-Table.field-0-is, ← c.put_two-in-Ok-Table.ensures)

pub returns-in-Ok-Function : goal.returns-in-Ok-Function
unfolding made_told
returns-in-Ok-Function c = rw (c.in-Ok-Function.is, rw c.in-Ok-Function.is at c.in-Ok-Function.field-0-is, ← c.put_two-in-Ok-Function.ensures)

pub returns-in-Ok-Upvalue : goal.returns-in-Ok-Upvalue
unfolding made_told
returns-in-Ok-Upvalue c = rw (c.in-Ok-Upvalue.is, rw c.in-Ok-Upvalue.is at c.in-Ok-Upvalue.field-0-is, ← c.put_two-in-Ok-Upvalue.ensures)

pub returns-in-Ok-Userdata : goal.returns-in-Ok-Userdata
unfolding made_told
returns-in-Ok-Userdata c = rw (c.in-Ok-Userdata.is, rw c.in-Ok-Userdata.is at c.in-Ok-Userdata.field-0-is, ← c.put_two-in-Ok-Userdata.ensures)

pub returns-in-Ok-Thread : goal.returns-in-Ok-Thread
unfolding made_told
returns-in-Ok-Thread c = rw (c.in-Ok-Thread.is, rw c.in-Ok-Thread.is at c.in-Ok-Thread.field-0-is, ← c.put_two-in-Ok-Thread.ensures)

pub returns-in-Ok-Proto : goal.returns-in-Ok-Proto
unfolding made_told
returns-in-Ok-Proto c = rw (c.in-Ok-Proto.is, rw c.in-Ok-Proto.is at c.in-Ok-Proto.field-0-is, ← c.put_two-in-Ok-Proto.ensures)

pub returns-in-Err : goal.returns-in-Err
unfolding made_told
returns-in-Err c = rw (c.in-Err.is, c.number.ensures)
