-- `run_walk::main_thread::mark_frames` meets its contract: what is left of the loop gives the whole. Assumes nothing.
use Rattle.layout.specs.Layout.{lay_of}
use Rattle.mark.specs.Words.{ops}
use Rattle.mark.proofs.Laws.{Going}
use Rattle.run_walk.specs.MainThread.{mark_frame}
use Rattle.run_walk.proofs.main_thread.mark_frames.Given as goal

abbrev pub invariant-loop-i : goal.invariant-loop-i
invariant-loop-i l = Going (mark_frame (ops (lay_of l.l.sizes)) (lay_of l.l.sizes)) l.n l.initial.w l.w l.i
