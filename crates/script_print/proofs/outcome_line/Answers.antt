-- `script_print::outcome_line` meets its contract: by cases of the outcome. Assumes nothing.
use Rattle.script_bytes.specs.Bytes.{said}
use Rattle.script_print.specs.Texts.{outcome_text}
use Rattle.script_print.proofs.outcome_line.Goals as goal

pub returns-in-Ok-Quiet : goal.returns-in-Ok-Quiet
unfolding outcome_text said
returns-in-Ok-Quiet c = rw (c.in-Ok-Quiet.is, rw c.in-Ok-Quiet.is at c.in-Ok-Quiet.field-0-is)

pub returns-in-Ok-Str : goal.returns-in-Ok-Str
unfolding outcome_text
returns-in-Ok-Str c = rw (c.in-Ok-Str.is, rw c.in-Ok-Str.is at c.in-Ok-Str.field-0-is) c.object_line.ensures

pub returns-in-Ok-Table : goal.returns-in-Ok-Table
unfolding outcome_text
returns-in-Ok-Table c = rw (c.in-Ok-Table.is, rw c.in-Ok-Table.is at c.in-Ok-Table.field-0-is) c.object_line-in-Ok-Table.ensures

pub returns-in-Ok-Userdata : goal.returns-in-Ok-Userdata
unfolding outcome_text
returns-in-Ok-Userdata c = rw (c.in-Ok-Userdata.is, rw c.in-Ok-Userdata.is at c.in-Ok-Userdata.field-0-is) c.object_line-in-Ok-Userdata.ensures

pub returns-in-Ok-Freed : goal.returns-in-Ok-Freed
unfolding outcome_text
returns-in-Ok-Freed c = rw (c.in-Ok-Freed.is, rw c.in-Ok-Freed.is at c.in-Ok-Freed.field-0-is) c.freed_line.ensures

pub returns-in-Err : goal.returns-in-Err
unfolding outcome_text
returns-in-Err c = rw (c.in-Err.is, ← c.number.ensures) c.refused_line.ensures
