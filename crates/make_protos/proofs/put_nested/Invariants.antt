-- `make_protos::put_nested` meets its contract: what is left of the loop gives the whole. Assumes nothing.
use Rattle.layout.specs.Layout.{lay_of}
use Rattle.making.proofs.Writing.{Writing}
use Rattle.make_protos.specs.Making.{nest_one}
use Rattle.make_protos.proofs.put_nested.Given as goal

abbrev pub invariant-loop-k : goal.invariant-loop-k
invariant-loop-k l = Writing (nest_one (lay_of l.l.sizes) l.n l.s) l.m l.initial.w l.w l.k
