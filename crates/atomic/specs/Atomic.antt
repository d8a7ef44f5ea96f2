-- Document 01, 'The atomic phase', in its order. Assumes nothing.
use Rattle.std.specs.Prelude.{List, ℕ, ◌-◌, ◌*◌}
use Rattle.base.specs.Loop.{run}
use Rattle.base.specs.Words.{at, put}
use Rattle.layout.specs.declared.Lay.{Lay}
use Rattle.layout.specs.Places.{PHASE, WHITE, CURSOR_ARENA, CURSOR_SLOT, TOTAL, ESTIMATE}
use Rattle.lists.specs.declared.Item.{Item}
use Rattle.lists.specs.declared.Item.TheVariants.{Table, Function, Userdata, Thread, Main, Unknown}
use Rattle.lists.specs.Lists.{length_of, item_at, cleared}
use Rattle.mark.specs.Ops.{other_white}
use Rattle.mark.specs.Words.{ops}
use Rattle.table_walk.specs.Tables.{traverse_table}
use Rattle.run_walk.specs.Closures.{traverse_closure}
use Rattle.run_walk.specs.Threads.{retraverse_thread}
use Rattle.run_walk.specs.MainThread.{mark_main}
use Rattle.propagate.specs.Propagation.{propagate_all}
use Rattle.separate.specs.Separation.{separated, mark_tmudata}
use Rattle.clearing.specs.Entries.{clear_weak_tables}

module _ (l : Lay) (b : List ℕ) where
  -- Main thread marked again, then `grayagain` in order, then all gray.
  unfoldable pub again_item : Item → List ℕ → List ℕ
  again_item (Table r) w = (traverse_table (ops l) l b r w).1
  again_item (Function r) w = (traverse_closure (ops l) l r w).1
  again_item (Thread r) w = retraverse_thread (ops l) l r w
  again_item (Userdata r) w = w
  again_item Main w = w
  again_item Unknown w = w

  unfoldable pub again_listed : ℕ → List ℕ → List ℕ
  again_listed k w = again_item (item_at l.grayagain k w) w

  unfoldable pub again_all : List ℕ → List ℕ
  again_all w = run again_listed 0 (length_of l.grayagain w) w

  unfoldable pub marked : List ℕ → List ℕ
  marked w =
      let w₁ = mark_main (ops l) l w in
      let w₂ = again_all w₁ in
      let w₃ = cleared l.grayagain w₂ in
      propagate_all (ops l) l b w₃

  -- Separation. The due and what they reach are marked.
  unfoldable pub finished : List ℕ → ℕ × List ℕ
  finished w = ((separated l w).0, propagate_all (ops l) l b (mark_tmudata l (separated l w).1))

  -- The white flips. Weak tables: strings first, then entries.
  unfoldable pub flipped : List ℕ → List ℕ
  flipped w =
      let old = at w WHITE in
      clear_weak_tables l b old (other_white old) (put WHITE (other_white old) w)

-- The estimate is the total less the size of n due userdata; the sweep begins at the first string.
unfoldable pub begun : ℕ → List ℕ → List ℕ
begun n w =
    let w₁ = put ESTIMATE (at w TOTAL - 48 * n) w in
    let w₂ = put CURSOR_ARENA 0 w₁ in
    let w₃ = put CURSOR_SLOT 0 w₂ in
    put PHASE 2 w₃

unfoldable pub atomic : Lay → List ℕ → List ℕ → List ℕ
atomic l b w =
    let x = finished l b (marked l b w) in
    begun x.0 (flipped l b x.1)
