-- `record::strings::same_bytes` meets its contract: `==` is comparison. Assumes nothing.
use mathlib.Core.Path.{◌∙◌}
use Rattle.record.proofs.Bytes.{pointwise_same_bytes}
use Rattle.record.proofs.strings.same_bytes.Goals as goal

pub returns : goal.returns
returns c = c.eq.ensures ∙ pointwise_same_bytes c.args.s.now c.args.t.now
