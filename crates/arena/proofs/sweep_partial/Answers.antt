-- `arena::sweep_partial` meets its contract: what is left of the loop gives the whole. Assumes nothing.
use Rattle.std.specs.Prelude.{◌≡◌, ℕ, Bool, nat_le}
use Rattle.std.proofs.Common.{refl, ap, arith, le-leb}
use Rattle.std.proofs.lemmas.Bool.{lt-leb}
use Rattle.arena.specs.Slots.{swept, sweep_partial}
use Rattle.arena.specs.declared.Sweep.{Sweep}
use Rattle.base.specs.Heap.{Heap}
use Rattle.base.specs.Loop.{scan_again, scan_halt, scan_end}
use Rattle.arena.proofs.sweep_partial.Goals as goal

-- where the loop stops, at place n, it is done or not
stops : (e : ℕ) {i n : ℕ} {d : Bool} {s : Sweep} {h : Heap} {q : ℕ × (Sweep × Heap)} → (i, (s, h)) ≡ q → nat_le e i ≡ d → n ≡ i → (record { freed = s.freed; next = n; done = d }, h) ≡ swept e q
stops e p f g = rw (g, ← f) (ap (swept e) p)

pub loop-i-init : goal.loop-i-init
loop-i-init c = record { rest = refl; long = refl; wide = refl; few = omega arith; under = omega arith; near = omega arith }

pub returns-then-s-eq0 : goal.returns-then-s-eq0
unfolding sweep_partial
returns-then-s-eq0 c = record { does = rw (← c.used_of-end.ensures.0) (stops _ (scan_halt _ _ _ c.loop-i.invariant.rest (omega arith)) (lt-leb _ _ (omega arith)) refl); small = (omega arith, omega arith) }

pub loop-i-preserved : goal.loop-i-preserved
loop-i-preserved c = record {
  rest = scan_again _ _ c.loop-i.invariant.rest (omega arith) (omega arith) c.visit_slot-s.ensures.does;
  long = omega arith;
  wide = omega arith;
  few = omega arith;
  under = omega arith;
  near = omega arith;
}

pub returns : goal.returns
unfolding sweep_partial
returns c = record { does = rw (← c.used_of-end.ensures.0) (stops _ (scan_end _ _ c.loop-i.invariant.rest (omega arith)) (le-leb _ _ (omega arith)) (omega arith)); small = (omega arith, omega arith) }
