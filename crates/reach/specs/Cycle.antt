-- A collection from Pause up to the atomic phase, with no script in between: the roots are marked, then any number of steps
-- are made. Assumes nothing: these are definitions.
use Rattle.std.specs.Prelude.{List, ℕ, zero, suc, ◌≤◌, ◌≡◌}
use Rattle.base.specs.Words.{at}
use Rattle.layout.specs.declared.Lay.{Lay}
use Rattle.layout.specs.Places.{WHITE}
use Rattle.mark.specs.Ops.{Ref}
use Rattle.mark.specs.Words.{colour_w, ops}
use Rattle.run_walk.specs.MainThread.{traverse_main_thread}
use Rattle.propagate.specs.declared.Propagated.{Propagated}
use Rattle.propagate.specs.declared.Propagated.TheVariants.{Done, NeedMainThread, Empty}
use Rattle.propagate.specs.Propagation.{propagate_one}
use Rattle.propagate.specs.Roots.{clear_lists, mark_roots}
use Rattle.reach.specs.Reached.{Occupied}

-- A heap at Pause: every occupied slot has the current white, which is 1 or 2.
pub record AllWhite (l : Lay) (w : List ℕ) : Type 0 where
  pub white : (r : Ref) → Occupied l w r → colour_w l r w ≡ at w WHITE
  pub low : 1 ≤ at w WHITE
  pub high : at w WHITE ≤ 2

-- Marking the roots first empties gray, grayagain and weak.
abbrev pub rooted : Lay → List ℕ → List ℕ
rooted l w = mark_roots (ops l) (clear_lists (ops l) w)

-- A step during Propagate: one gray object, or the main thread; where nothing is gray, nothing.
abbrev pub advanced : Lay → Propagated × List ℕ → List ℕ
advanced l (Done c, u) = u
advanced l (NeedMainThread, u) = (traverse_main_thread (ops l) l u).1
advanced l (Empty, u) = u

-- n of them, from words with the roots marked
unfoldable pub advances : Lay → List ℕ → ℕ → List ℕ → List ℕ
advances l b zero u = u
advances l b (suc n) u = advances l b n (advanced l (propagate_one (ops l) l b u))
