-- `record::strings::text` meets its contract: from what its callees promise. Assumes nothing.
use Prim.Native.Nat.{◌+◌, ◌*◌, ◌-◌}
use mathlib.Core.Path.{◌≡◌}
use native.Mathlib.Omega.{arith}
use Rattle.record.proofs.strings.text.Goals as goal

pub returns : goal.returns
returns c = let q : 64 * c.args.i + c.args.n - 64 * c.args.i ≡ c.args.n = omega arith in rw q
