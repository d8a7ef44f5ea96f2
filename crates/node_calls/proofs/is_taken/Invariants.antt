-- `node_calls::is_taken` meets its contract: what is left of the loop gives the whole. Assumes nothing.
use mathlib.Core.Path.{◌≡◌}
use mathlib.Core.Bool.{false}
use Prim.Native.Nat.{◌-◌}
use Rattle.making.specs.Turns.{turns}
use Rattle.node_calls.specs.NodeCalls.{is_taken, twin_turn}
use Rattle.node_calls.proofs.is_taken.Given as goal

abbrev pub invariant-loop-i : goal.invariant-loop-i
invariant-loop-i l = turns (twin_turn l.p l.j l.k l.w) false (l.n - l.i) l.i ≡ is_taken l.p l.j l.k l.w
