-- `asked::objects::string_field_of` meets its contract: a row of the table, or past its end. Assumes nothing.
use Rattle.std.proofs.Common.{rules}
use Rattle.codes.specs.Numbers.{pick, past}
use Rattle.asked.specs.Objects.{string_field_of}
use Rattle.asked.proofs.objects.string_field_of.Goals as goal

pub returns-in-0 : goal.returns-in-0
unfolding string_field_of pick
returns-in-0 c = rw c.in-0.is

pub returns-in-1 : goal.returns-in-1
unfolding string_field_of pick
returns-in-1 c = rw c.in-1.is

pub returns-in_default : goal.returns-in_default
unfolding string_field_of
returns-in_default c = past _ _ _ _ (search rules)
