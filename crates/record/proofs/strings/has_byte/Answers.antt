-- `record::strings::has_byte` meets its contract: `contains` is the byte search. Assumes nothing.
use mathlib.Core.Path.{◌∙◌}
use Rattle.record.proofs.Bytes.{any_has_byte}
use Rattle.record.proofs.strings.has_byte.Goals as goal

pub returns : goal.returns
returns c = c.contains.ensures.value ∙ any_has_byte c.args.s.now c.args.c
