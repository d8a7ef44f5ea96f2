-- `chains::free_count` meets its contract: no more slots are occupied than lie below the fresh index. Assumes nothing.
use native.Mathlib.Omega.{arith}
use Rattle.chains.proofs.Laws.{occupied_most}
use Rattle.chains.proofs.free_count.Goals as goal

pub overflow_sub-result : goal.overflow_sub-result
overflow_sub-result c = omega (arith, occupied_most c.args.a c.args.w.now, c.used_of.ensures.0, c.occupied_of.ensures)
