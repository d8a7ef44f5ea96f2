-- `script_collect::finals` meets its contract: what is left of the loop gives the whole. Assumes nothing.
use Rattle.std.proofs.Common.{◌≡◌, ◌-◌}
use Rattle.base.specs.Heap.{heap}
use Rattle.script_collect.specs.Collects.{handing}
use Rattle.script_collect.proofs.finals.Given as goal

abbrev pub invariant-loop : goal.invariant-loop
invariant-loop l = handing (l.most - l.counter) l.a (heap l.w l.b) (l.next, l.out) ≡ handing l.most l.initial.a (heap l.initial.w l.initial.b) (0, l.initial.out)
