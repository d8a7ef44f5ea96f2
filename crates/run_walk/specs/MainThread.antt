-- Document 01, 'Followed links', roots: main stack below top, open upvalues, error value, hook function, and the stack value
-- at the function index of each frame up to `ci`, also above top. Assumes nothing.
use Rattle.std.specs.Prelude.{ℕ, ◌+◌, ◌*◌}
use Rattle.base.specs.Ways.{if_lt}
use Rattle.base.specs.Loop.{run}
use Rattle.layout.specs.declared.Lay.{Lay}
use Rattle.layout.specs.Places.{ERROR, HOOK}
use Rattle.lists.specs.declared.Item.TheVariants.{Main}
use Rattle.main_record.specs.Main.{main_top, main_open_count, main_ci, frame_function}
use Rattle.mark.specs.Ops.{grayagain, Ops}
use Rattle.mark.specs.Marking.{mark_value_at, mark_values, mark_upvalues}

-- Costs: main thread 256 + 16 per stack place + 40 per frame.
abbrev pub main_cost : Lay → ℕ
main_cost l = 256 + 16 * l.stack.room + 40 * l.frames.room

module _ {S : Type 0} (O : Ops S) (l : Lay) where
  unfoldable pub mark_frame : ℕ → S → S
  mark_frame i s =
      if_lt (frame_function l i (O.body s)) l.stack.room
      (mark_value_at O l (l.stack.base + 3 * frame_function l i (O.body s)) s)
      s

  unfoldable pub mark_frames : ℕ → S → S
  mark_frames n s = run mark_frame 0 n s

  unfoldable pub mark_main : S → S
  mark_main s =
      let s₁ = mark_values O l l.stack.base (main_top l (O.body s)) s in
      let s₂ = mark_upvalues O l l.opens.base (main_open_count l (O.body s₁)) s₁ in
      let s₃ = mark_value_at O l ERROR s₂ in
      let s₄ = mark_value_at O l HOOK s₃ in
      mark_frames (main_ci l (O.body s₄) + 1) s₄

  unfoldable pub traverse_main_thread : S → ℕ × S
  traverse_main_thread s = (main_cost l, O.push grayagain Main (mark_main s))
