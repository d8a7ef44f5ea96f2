-- Document 01, 'Followed links'. Thread: global, hook function, stack below top, open and suspended upvalues. Its error value
-- is not followed. The atomic phase follows it once more, but for the hook function. Assumes nothing.
use Rattle.std.specs.Prelude.{List, ℕ, ◌+◌, ◌*◌}
use Rattle.base.specs.Ways.{if_eq}
use Rattle.value.specs.declared.ThreadRef.{ThreadRef}
use Rattle.layout.specs.declared.Lay.{Lay}
use Rattle.lists.specs.declared.Item.TheVariants.{Thread}
use Rattle.record.specs.Fields.{body_at}
use Rattle.run_record.specs.Threads.{thread_global, thread_size, thread_top, thread_open_count, thread_suspended_count}
use Rattle.mark.specs.Ops.{thread, grayagain, Ops}
use Rattle.mark.specs.Marking.{mark_table_or, mark_value_at, mark_values, mark_upvalues}

-- Costs: thread 256 + 16 per stack place.
abbrev pub thread_cost : ℕ → List ℕ → ℕ
thread_cost p w = 256 + 16 * thread_size p w

module _ {S : Type 0} (O : Ops S) (l : Lay) where
  unfoldable pub mark_stack : ℕ → S → S
  mark_stack p s =
      let w = O.body s in
      let s₁ = mark_values O l (p + 76) (thread_top p w) s in
      let s₂ = mark_upvalues O l (p + 12) (thread_open_count p w) s₁ in
      mark_upvalues O l (p + 44) (thread_suspended_count p w) s₂

  unfoldable pub traverse_thread_at : ThreadRef → S → S
  traverse_thread_at r s =
      let p = body_at l.threads r.0 in
      let s₁ = O.paint (thread r) 4 s in
      let s₂ = mark_table_or O (thread_global p (O.body s)) s₁ in
      let s₃ = mark_value_at O l (p + 2) s₂ in
      let s₄ = mark_stack p s₃ in
      O.push grayagain (Thread r) s₄

  -- A handle that names no thread costs 256 and changes nothing.
  unfoldable pub traverse_thread : ThreadRef → S → ℕ × S
  traverse_thread r s = if_eq (O.colour (thread r) s) 0 (256, s) (thread_cost (body_at l.threads r.0) (O.body s), traverse_thread_at r s)

  unfoldable pub retraverse_thread_at : ThreadRef → S → S
  retraverse_thread_at r s =
      let p = body_at l.threads r.0 in
      let s₁ = O.paint (thread r) 4 s in
      let s₂ = mark_table_or O (thread_global p (O.body s)) s₁ in
      mark_stack p s₂

  unfoldable pub retraverse_thread : ThreadRef → S → S
  retraverse_thread r s = if_eq (O.colour (thread r) s) 0 s (retraverse_thread_at r s)
