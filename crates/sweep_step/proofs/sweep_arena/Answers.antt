-- `sweep_step::sweep_arena` meets its contract: the callees' equations joined. Assumes nothing.
use native.Mathlib.Omega.{arith}
use native.Mathlib.Nat.{mul-le-mul}
use Rattle.sweep_step.specs.Sweeping.{sweep_arena}
use Rattle.sweep_step.proofs.sweep_arena.Goals as goal

pub overflow_mul-s : goal.overflow_mul-s
overflow_mul-s c = record { fits = omega (arith, mul-le-mul {n₁ = c.sweep_partial-s.result.freed} {m₁ = c.args.size} {n₂ = 4096} {m₂ = 256} (omega (arith, c.requires.room.slots, c.sweep_partial-s.ensures.small.0)) c.requires.in_bounds.1) }

pub returns : goal.returns
unfolding sweep_arena
returns c = record { does = rw (← c.get-white.ensures, ← c.other_white-dead.ensures, ← c.wide.ensures.0, ← c.sweep_partial-s.ensures.does, ← c.take_off.ensures); small = omega (arith, c.sweep_partial-s.ensures.small.1, c.requires.room.slots, c.wide.ensures.1) }
