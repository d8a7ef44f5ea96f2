-- `chains::chain_holds` meets its contract: what is left of the walk answers what the whole does. Assumes nothing.
use mathlib.Core.Path.{◌≡◌}
use Prim.Native.Nat.{◌-◌}
use Rattle.arena.specs.Slots.{head}
use Rattle.chains.specs.Chains.{free_count, leads}
use Rattle.chains.proofs.chain_holds.Given as goal

abbrev pub invariant-loop-k : goal.invariant-loop-k
invariant-loop-k l = leads l.a l.w (l.n - l.k) l.x ≡ leads l.a l.w (free_count l.a l.w) (head l.a l.w)
