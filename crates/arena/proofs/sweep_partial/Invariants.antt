-- `arena::sweep_partial` meets its contract: what is left of the loop gives the whole. Assumes nothing.
use Rattle.std.proofs.Common.{◌≡◌, ℕ, ◌≤◌, max, List, length}
use Rattle.arena.specs.Slots.{to_see, visits}
use Rattle.arena.specs.declared.Arena.{Arena}
use Rattle.arena.specs.declared.Sweep.{Sweep}
use Rattle.base.specs.Heap.{heap}
use Rattle.base.specs.Loop.{scan}
use Rattle.arena.proofs.sweep_partial.Given as goal

pub record Inv (w₀ b₀ : List ℕ) (a : Arena) (dead white start end : ℕ) (s₀ : Sweep) (w b : List ℕ) (s : Sweep) (i : ℕ) : Type 0 where
  pub rest : scan to_see (visits a dead white) i end (s, heap w b) ≡ scan to_see (visits a dead white) start end (s₀, heap w₀ b₀)
  pub long : length w ≡ length w₀
  pub wide : length b ≡ length b₀
  pub few : s.freed ≤ i
  pub under : s.freed ≤ a.slots
  pub near : i ≤ max start end

abbrev pub invariant-loop-i : goal.invariant-loop-i
invariant-loop-i l = Inv l.initial.w l.initial.b l.a l.dead l.white l.start l.end l.initial.s l.w l.b l.s l.i
