-- `making::put_values` meets its contract: what is left of the loop gives the whole. Assumes nothing.
use Rattle.making.specs.Making.{put_one}
use Rattle.making.proofs.Writing.{Writing}
use Rattle.making.proofs.put_values.Given as goal

abbrev pub invariant-loop-k : goal.invariant-loop-k
invariant-loop-k l = Writing (put_one l.p l.s) l.n l.initial.w l.w l.k
