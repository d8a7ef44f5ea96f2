-- What the roots are read from: the first 52 words, and the main stack, open list and frames. Words that agree there have the
-- same roots. Assumes nothing.
--     MainReads           the two words agree on the three parts of the main record
--     root_links_same, main_links_same, roots_same     the roots
use Rattle.std.specs.Prelude.{◌≡◌, refl, Option}
use Rattle.std.proofs.Common.{sym, ◌∙◌, arith}
use Rattle.std.proofs.Math.Path.{ap}
use mathlib.Core.List.{List, [], ◌∷◌, ◌++◌}
use Prim.Native.Nat.{ℕ, min, ◌+◌, ◌-◌, ◌*◌, ◌≤◌, ◌<◌}
use Rattle.std.proofs.Math.Decide.{dec_lt}
use Rattle.base.specs.Ways.{if_lt, lt_no}
use Rattle.value.specs.declared.StrRef.{StrRef}
use Rattle.value.specs.declared.TableRef.{TableRef}
use Rattle.value.specs.declared.UpvalRef.{UpvalRef}
use Rattle.value.specs.declared.Value.{Value}
use Rattle.layout.specs.declared.Lay.{Lay}
use Rattle.layout.specs.Places.{TOP, OPENS, CI, ERROR, HOOK, GLOBAL, REGISTRY, NAME_MODE, NAME_GC, METATABLES}
use Rattle.main_record.specs.Main.{main_top, main_open_count, main_ci, main_error, main_hook, global, registry, mode_name, gc_name, type_meta, main_value, main_open, frame_function}
use Rattle.mark.specs.Ops.{Ref, upval}
use Rattle.links.specs.Links.{value_links, table_link, string_link, each, frame_links, main_links, root_links, roots}
use Rattle.link_laws.specs.Agrees.{Agree, each_same, value_same, table_same, str_same, upval_same}

-- The words u are as w on the main stack, the open list and the frames.
pub record MainReads (l : Lay) (w u : List ℕ) : Type 0 where
  pub stack : Agree w u l.stack.base (3 * l.stack.room)
  pub opens : Agree w u l.opens.base (2 * l.opens.room)
  pub frames : Agree w u l.frames.base l.frames.room

module _ (l : Lay) {w u : List ℕ} (h : Agree w u 0 52) where
  -- Global, registry, type metatables, both names.
  pub root_links_same : root_links u l ≡ root_links w l
  unfolding root_links
  root_links_same =
      ap (λ (t : Option TableRef). table_link t ++ table_link (registry u) ++ types u ++ string_link (mode_name u) ++ string_link (gc_name u)) (table_same h GLOBAL (omega arith) (omega arith))
      ∙ ap (λ (t : Option TableRef). table_link (global w) ++ table_link t ++ types u ++ string_link (mode_name u) ++ string_link (gc_name u)) (table_same h REGISTRY (omega arith) (omega arith))
      ∙ ap (λ (x : List Ref). table_link (global w) ++ table_link (registry w) ++ x ++ string_link (mode_name u) ++ string_link (gc_name u))
      (each_same (λ k. table_link (type_meta k u)) (λ k. table_link (type_meta k w)) 9 0 (λ k f g. ap table_link (table_same h (METATABLES + 2 * k) (omega arith) (omega (arith, g)))))
      ∙ ap (λ (s : Option StrRef). table_link (global w) ++ table_link (registry w) ++ types w ++ string_link s ++ string_link (gc_name u)) (str_same h NAME_MODE (omega arith) (omega arith))
      ∙ ap (λ (s : Option StrRef). table_link (global w) ++ table_link (registry w) ++ types w ++ string_link (mode_name w) ++ string_link s) (str_same h NAME_GC (omega arith) (omega arith))
    where
      types : List ℕ → List Ref
      types x = each (λ k. table_link (type_meta k x)) 9 0

  module _ (one : 1 ≤ l.frames.room) (s : MainReads l w u) where
    -- the stack value at the function index of a frame
    frame_same : (i : ℕ) → i < l.frames.room → frame_links u l i ≡ frame_links w l i
    unfolding frame_links
    frame_same i f =
        ap (λ (n : ℕ). if_lt n l.stack.room (value_links (main_value l n u)) []) (s.frames.word (l.frames.base + i) (omega arith) (omega (arith, f)))
        ∙ go (dec_lt (frame_function l i w) l.stack.room)
      where
        n : ℕ
        n = frame_function l i w

        go : Dec (frame_function l i w < l.stack.room)
            → if_lt (frame_function l i w) l.stack.room (value_links (main_value l (frame_function l i w) u)) [] ≡ if_lt (frame_function l i w) l.stack.room (value_links (main_value l (frame_function l i w) w)) []
        go (yes g) = ap (λ (v : Value). if_lt n l.stack.room (value_links v) []) (value_same s.stack (l.stack.base + 3 * n) (omega arith) (omega (arith, g)))
        go (no g) =
            let k : l.stack.room ≤ frame_function l i w = omega (arith, g) in
            sym (lt_no n l.stack.room (value_links (main_value l n u)) [] [] k refl) ∙ lt_no n l.stack.room (value_links (main_value l n w)) [] [] k refl

    -- Main stack below top, open upvalues, error value, hook function, frames up to `ci`.
    pub main_links_same : main_links u l ≡ main_links w l
    unfolding main_links
    main_links_same =
        ap (λ (x : ℕ). whole (min x l.stack.room) (main_open_count l u) (main_error u) (main_hook u) (main_ci l u) u) (h.word TOP (omega arith) (omega arith))
        ∙ ap (λ (x : ℕ). whole (main_top l w) (min x l.opens.room) (main_error u) (main_hook u) (main_ci l u) u) (h.word OPENS (omega arith) (omega arith))
        ∙ ap (λ (v : Value). whole (main_top l w) (main_open_count l w) v (main_hook u) (main_ci l u) u) (value_same h ERROR (omega arith) (omega arith))
        ∙ ap (λ (v : Value). whole (main_top l w) (main_open_count l w) (main_error w) v (main_ci l u) u) (value_same h HOOK (omega arith) (omega arith))
        ∙ ap (λ (x : ℕ). whole (main_top l w) (main_open_count l w) (main_error w) (main_hook w) (min x (l.frames.room - 1)) u) (h.word CI (omega arith) (omega arith))
        ∙ ap (λ (x : List Ref). x ++ opens u ++ E ++ H ++ frames u)
        (each_same (λ i. value_links (main_value l i u)) (λ i. value_links (main_value l i w)) (main_top l w) 0 (λ i f g. ap value_links (value_same s.stack (l.stack.base + 3 * i) (omega arith) (omega (arith, g)))))
        ∙ ap (λ (x : List Ref). values w ++ x ++ E ++ H ++ frames u)
        (each_same (λ i. upval (main_open l i u) ∷ []) (λ i. upval (main_open l i w) ∷ []) (main_open_count l w) 0 (λ i f g. ap (λ (r : UpvalRef). upval r ∷ []) (upval_same s.opens (l.opens.base + 2 * i) (omega arith) (omega (arith, g)))))
        ∙ ap (λ (x : List Ref). values w ++ opens w ++ E ++ H ++ x) (each_same (frame_links u l) (frame_links w l) (main_ci l w + 1) 0 (λ i f g. frame_same i (omega (arith, g, one))))
      where
        whole : ℕ → ℕ → Value → Value → ℕ → List ℕ → List Ref
        whole n m e k c x = each (λ i. value_links (main_value l i x)) n 0 ++ each (λ i. upval (main_open l i x) ∷ []) m 0 ++ value_links e ++ value_links k ++ each (frame_links x l) (c + 1) 0

        values : List ℕ → List Ref
        values x = each (λ i. value_links (main_value l i x)) (main_top l w) 0

        opens : List ℕ → List Ref
        opens x = each (λ i. upval (main_open l i x) ∷ []) (main_open_count l w) 0

        frames : List ℕ → List Ref
        frames x = each (frame_links x l) (main_ci l w + 1) 0

        E : List Ref
        E = value_links (main_error w)

        H : List Ref
        H = value_links (main_hook w)

    -- All roots.
    pub roots_same : (b : List ℕ) → roots u l b ≡ roots w l b
    roots_same b = ap (λ (x : List Ref). x ++ main_links u l) root_links_same ∙ ap (λ (x : List Ref). root_links w l ++ x) main_links_same
