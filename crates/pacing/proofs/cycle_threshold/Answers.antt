-- `pacing::cycle_threshold` meets its contract: from what its callees promise. Assumes nothing.
use native.Mathlib.Nat.{mul-le-mul}
use native.Mathlib.Omega.{arith}
use Prim.Native.Nat.{◌*◌, ◌/◌, ◌≤◌}
use Rattle.pacing.proofs.cycle_threshold.Goals as goal

pub overflow_mul-t : goal.overflow_mul-t
overflow_mul-t c = let p : c.args.estimate / 100 * c.args.pause ≤ 4294967295 * 4294967295 = mul-le-mul {n₂ = 4294967295} {m₂ = 4294967295} (omega arith) (omega arith) in record { fits = omega (arith, p) }
