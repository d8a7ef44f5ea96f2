-- `pacing::finish_threshold` meets its contract: from what its callees promise. Assumes nothing.
use native.Mathlib.Nat.{mul-le-mul}
use native.Mathlib.Omega.{arith}
use Prim.Native.Nat.{◌*◌, ◌≤◌}
use Rattle.pacing.proofs.finish_threshold.Goals as goal

pub overflow_mul-result : goal.overflow_mul-result
overflow_mul-result c = let p : c.args.total * c.args.pause ≤ 4294967295 * 4294967295 = mul-le-mul {n₂ = 4294967295} {m₂ = 4294967295} (omega arith) (omega arith) in record { fits = omega (arith, p) }
