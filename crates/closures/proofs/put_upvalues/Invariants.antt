-- `closures::put_upvalues` meets its contract: what is left of the loop gives the whole. Assumes nothing.
use Rattle.making.proofs.Writing.{Writing}
use Rattle.closures.specs.Closures.{put_upvalue}
use Rattle.closures.proofs.put_upvalues.Given as goal

abbrev pub invariant-loop-k : goal.invariant-loop-k
invariant-loop-k l = Writing (put_upvalue l.p l.s) l.n l.initial.w l.w l.k
