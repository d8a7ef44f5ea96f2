-- The main threads that a step of propagation takes off gray. Assumes nothing.
use Prim.Native.Nat.{ℕ}
use Rattle.propagate.specs.declared.Propagated.{Propagated}
use Rattle.propagate.specs.declared.Propagated.TheVariants.{Done, NeedMainThread, Empty}

-- A main thread that was taken off gray waits for its traversal.
abbrev pub mains_due : Propagated → ℕ
mains_due (Done c) = 0
mains_due NeedMainThread = 1
mains_due Empty = 0
