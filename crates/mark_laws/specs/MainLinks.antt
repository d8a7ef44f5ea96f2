-- Traversing the main thread marks exactly its links. `w` are the words before any marking, `u` those that a definition is
-- given. Assumes nothing.
--     frames_links, main_links_lem     stack, open upvalues, error value, hook function, frames
--     main_traversed, main_moves   it is traversed, and listed in grayagain; that is moves
use Rattle.std.specs.Prelude.{◌≡◌, refl, length}
use Rattle.std.proofs.Math.Path.{sym, ap}
use Rattle.std.proofs.Common.{◌∙◌, inl, inr, arith}
use mathlib.Core.List.{List, [], ◌∷◌, ◌++◌}
use Prim.Native.Nat.{ℕ, min, ◌+◌, ◌-◌, ◌*◌, ◌≤◌, ◌<◌}
use Rattle.std.proofs.Math.Decide.{dec_lt}
use Rattle.base.specs.Ways.{if_lt, lt_yes, lt_no}
use Rattle.layout.specs.declared.Lay.{Lay}
use Rattle.layout.specs.Places.{TOP, OPENS, CI, ERROR, HOOK}
use Rattle.lists.specs.declared.Item.TheVariants.{Main}
use Rattle.lists.specs.Lists.{push}
use Rattle.main_record.specs.Main.{main_top, main_open_count, main_ci, main_error, main_hook, main_value, main_open, frame_function}
use Rattle.laid.specs.Laid.{Laid}
use Rattle.mark.specs.Ops.{Ref, upval, grayagain}
use Rattle.mark.specs.Words.{ops}
use Rattle.mark.specs.Marking.{mark_value_at, mark_values, mark_upvalues}
use Rattle.run_walk.specs.MainThread.{main_cost, mark_frame, mark_frames, mark_main, traverse_main_thread}
use Rattle.links.specs.Links.{value_links, each, frame_links, main_links}
use Rattle.mark_laws.specs.Apart.{Apart, Order, order}
use Rattle.mark_laws.specs.Moves.{Moves, still, pushed}
use Rattle.mark_laws.specs.Changes.{Marked}
use Rattle.mark_laws.specs.Stays.{below}
use Rattle.mark_laws.specs.Marks.{marks, marks_append, marks_moves, marks_marked}
use Rattle.mark_laws.specs.Follows.{loop_links, value_at_links, values_links_lem, upvalues_links}

module _ (l : Lay) (ok : Laid l) (a : Apart l) (w : List ℕ) (long : l.words ≤ length w) where
  abbrev o : Order l
  o = order l ok a

  -- the stack value at the function index of frame i
  frame_links_lem : (i : ℕ) {u : List ℕ} → Marked l w u → mark_frame (ops l) l i u ≡ marks l (frame_links w l i) u
  unfolding mark_frame frame_links marks
  frame_links_lem i {u} m =
      ap (λ (n : ℕ). if_lt n l.stack.room (mark_value_at (ops l) l (l.stack.base + 3 * n) u) u) (below o m (l.frames.base + i) (inr (omega (arith, o.past_frames))))
      ∙ go (dec_lt (frame_function l i w) l.stack.room)
    where
      go : Dec (frame_function l i w < l.stack.room)
          → if_lt (frame_function l i w) l.stack.room (mark_value_at (ops l) l (l.stack.base + 3 * frame_function l i w) u) u
          ≡ marks l (if_lt (frame_function l i w) l.stack.room (value_links (main_value l (frame_function l i w) w)) []) u
      go (yes f) =
          sym (lt_yes (frame_function l i w) l.stack.room _ _ _ f refl)
          ∙ value_at_links l ok a w long m (l.stack.base + 3 * frame_function l i w) (inr (omega (arith, o.past_stack)))
          ∙ ap (λ rs. marks l rs u) (lt_yes (frame_function l i w) l.stack.room _ _ _ f refl)
      go (no f) =
          let g : l.stack.room ≤ frame_function l i w = omega (arith, f) in
          sym (lt_no (frame_function l i w) l.stack.room _ _ _ g refl)
          ∙ ap (λ rs. marks l rs u) (lt_no (frame_function l i w) l.stack.room (value_links (main_value l (frame_function l i w) w)) [] _ g refl)

  -- the first n frames
  pub frames_links : (n : ℕ) (u : List ℕ) → Marked l w u → mark_frames (ops l) l n u ≡ marks l (each (frame_links w l) n 0) u
  unfolding mark_frames
  frames_links n u m = loop_links l ok a w long (mark_frame (ops l) l) (frame_links w l) n (λ i f t k. frame_links_lem i k) u m

  -- The main thread's links are marked.
  module _ (u : List ℕ) (m : Marked l w u) where
    abbrev S : List Ref
    S = each (λ i. value_links (main_value l i w)) (main_top l w) 0

    abbrev U : List Ref
    U = each (λ i. upval (main_open l i w) ∷ []) (main_open_count l w) 0

    abbrev E : List Ref
    E = value_links (main_error w)

    abbrev H : List Ref
    H = value_links (main_hook w)

    abbrev F : List Ref
    F = each (frame_links w l) (main_ci l w + 1) 0

    abbrev u₁ : List ℕ
    u₁ = marks l S u

    abbrev u₂ : List ℕ
    u₂ = marks l U u₁

    abbrev u₃ : List ℕ
    u₃ = marks l E u₂

    abbrev u₄ : List ℕ
    u₄ = marks l H u₃

    m₁ : Marked l w u₁
    m₁ = marks_marked l ok a S long m

    m₂ : Marked l w u₂
    m₂ = marks_marked l ok a U long m₁

    m₃ : Marked l w u₃
    m₃ = marks_marked l ok a E long m₂

    m₄ : Marked l w u₄
    m₄ = marks_marked l ok a H long m₃

    -- each stage from the words that the one before leaves
    values_stage : mark_values (ops l) l l.stack.base (main_top l u) u ≡ u₁
    values_stage =
        ap (λ (x : ℕ). mark_values (ops l) l l.stack.base (min x l.stack.room) u) (below o m TOP (inl (omega arith)))
        ∙ values_links_lem l ok a w long l.stack.base (main_top l w) (inr o.past_stack) u m

    opens_stage : mark_upvalues (ops l) l l.opens.base (main_open_count l u₁) u₁ ≡ u₂
    opens_stage =
        ap (λ (x : ℕ). mark_upvalues (ops l) l l.opens.base (min x l.opens.room) u₁) (below o m₁ OPENS (inl (omega arith)))
        ∙ upvalues_links l ok a w long l.opens.base (main_open_count l w) (inr o.past_opens) u₁ m₁

    frames_stage : mark_frames (ops l) l (main_ci l u₄ + 1) u₄ ≡ marks l F u₄
    frames_stage =
        ap (λ (x : ℕ). mark_frames (ops l) l (min x (l.frames.room - 1) + 1) u₄) (below o m₄ CI (inl (omega arith)))
        ∙ frames_links (main_ci l w + 1) u₄ m₄

    -- Marking the main thread marks exactly its links.
    pub main_links_lem : mark_main (ops l) l u ≡ marks l (main_links w l) u
    unfolding mark_main main_links
    main_links_lem =
        ap (λ (x : List ℕ). fourth (third (second x))) values_stage
        ∙ ap (λ (x : List ℕ). fourth (third x)) opens_stage
        ∙ ap (λ (x : List ℕ). fourth (mark_value_at (ops l) l HOOK x)) (value_at_links l ok a w long m₂ ERROR (inl (omega arith)))
        ∙ ap fourth (value_at_links l ok a w long m₃ HOOK (inl (omega arith)))
        ∙ frames_stage
        ∙ ap (λ (x : List ℕ). marks l F (marks l H (marks l E x))) (sym (marks_append l S U u))
        ∙ ap (λ (x : List ℕ). marks l F (marks l H x)) (sym (marks_append l (S ++ U) E u))
        ∙ ap (marks l F) (sym (marks_append l (S ++ U ++ E) H u))
        ∙ sym (marks_append l (S ++ U ++ E ++ H) F u)
      where
        second : List ℕ → List ℕ
        second x = mark_upvalues (ops l) l l.opens.base (main_open_count l x) x

        third : List ℕ → List ℕ
        third x = mark_value_at (ops l) l HOOK (mark_value_at (ops l) l ERROR x)

        fourth : List ℕ → List ℕ
        fourth x = mark_frames (ops l) l (main_ci l x + 1) x

    -- It is traversed: its links are marked, and it is listed for the atomic phase.
    pub main_traversed : traverse_main_thread (ops l) l u ≡ (main_cost l, push l.grayagain Main (marks l (main_links w l) u))
    unfolding traverse_main_thread
    main_traversed = ap (λ (x : List ℕ). (main_cost l, push l.grayagain Main x)) main_links_lem

    -- That is moves.
    pub main_moves : Moves l u (traverse_main_thread (ops l) l u).1
    main_moves = pushed (marks_moves l (main_links w l) (still refl)) grayagain Main (ap (λ (x : ℕ × List ℕ). x.1) main_traversed)
