-- Marking the roots marks exactly their links. `w` are the words before any marking, `u` those that a definition is given.
-- Assumes nothing.
--     cleared_moves                the lists are emptied before, which is moves
--     types_links, roots_links, roots_moves     the main thread is listed, and the other roots are marked; that is moves
use Rattle.std.specs.Prelude.{◌≡◌, refl, length, Some, None, Option}
use Rattle.std.proofs.Math.Path.{sym, ap}
use Rattle.std.proofs.Common.{subst, ◌∙◌, inl, arith}
use mathlib.Core.List.{List, ◌++◌}
use Prim.Native.Nat.{ℕ, ◌+◌, ◌*◌, ◌≤◌}
use Rattle.value.specs.declared.StrRef.{StrRef}
use Rattle.value.specs.declared.TableRef.{TableRef}
use Rattle.value.specs.Handles.{table_or_at}
use Rattle.layout.specs.declared.Lay.{Lay}
use Rattle.layout.specs.Places.{GLOBAL, REGISTRY, NAME_MODE, NAME_GC, METATABLES}
use Rattle.lists.specs.declared.Item.TheVariants.{Main}
use Rattle.lists.specs.Lists.{push}
use Rattle.main_record.specs.Main.{global, registry, mode_name, gc_name, type_meta}
use Rattle.laid.specs.Laid.{Laid}
use Rattle.mark.specs.Ops.{Ref, gray, grayagain, weak}
use Rattle.mark.specs.Words.{ops}
use Rattle.mark.specs.Marking.{mark_table_or}
use Rattle.propagate.specs.Roots.{clear_lists, mark_string_or, mark_type, mark_types, mark_gc_roots, mark_roots}
use Rattle.links.specs.Links.{table_link, string_link, each, root_links}
use Rattle.mark_laws.specs.Apart.{Apart, Order, order}
use Rattle.mark_laws.specs.Moves.{Moves, still, pushed, emptied}
use Rattle.mark_laws.specs.Changes.{Marked, marked_then, moves_marked}
use Rattle.mark_laws.specs.Stays.{table_stays, str_stays}
use Rattle.mark_laws.specs.Marks.{marks, marks_append, marks_moves, marks_marked}
use Rattle.mark_laws.specs.Follows.{table_link_lem, loop_links}

-- gray, grayagain and weak are emptied, which is moves
pub cleared_moves : (l : Lay) {w u : List ℕ} → Moves l w u → Moves l w (clear_lists (ops l) u)
unfolding clear_lists
cleared_moves l m = emptied (emptied (emptied m gray refl) grayagain refl) weak refl

-- a string's handle that may be missing
pub string_link_lem : (l : Lay) (s : Option StrRef) (u : List ℕ) → mark_string_or (ops l) s u ≡ marks l (string_link s) u
unfolding mark_string_or marks
string_link_lem l (Some r) u = refl
string_link_lem l None u = refl

module _ (l : Lay) (ok : Laid l) (a : Apart l) (w : List ℕ) (long : l.words ≤ length w) where
  abbrev o : Order l
  o = order l ok a

  -- the nine type metatables
  pub types_links : (u : List ℕ) → Marked l w u → mark_types (ops l) u ≡ marks l (each (λ k. table_link (type_meta k w)) 9 0) u
  unfolding mark_types mark_type
  types_links u m =
      loop_links l ok a w long (mark_type (ops l)) (λ k. table_link (type_meta k w)) 9
      (λ k f t n. table_link_lem l (type_meta k t) t ∙ ap (λ (x : Option TableRef). marks l (table_link x) t) (table_stays o n (METATABLES + 2 * k) (inl (omega arith))))
      u m

  -- The main thread is listed; global, registry, type metatables and both names are marked.
  module _ (u : List ℕ) (m : Marked l w u) where
    abbrev A : List Ref
    A = table_link (global w)

    abbrev B : List Ref
    B = table_link (registry w)

    abbrev C : List Ref
    C = each (λ k. table_link (type_meta k w)) 9 0

    abbrev D : List Ref
    D = string_link (mode_name w)

    abbrev G : List Ref
    G = string_link (gc_name w)

    gc_roots : {t : List ℕ} → Marked l w t → mark_gc_roots (ops l) t ≡ marks l G (marks l D (marks l C t))
    unfolding mark_gc_roots
    gc_roots {t} n =
        ap (λ (x : List ℕ). last (second x)) (types_links t n)
        ∙ ap last (string_link_lem l (mode_name c) c ∙ ap (λ (s : Option StrRef). marks l (string_link s) c) (str_stays o nc NAME_MODE (inl (omega arith))))
        ∙ string_link_lem l (gc_name d) d
        ∙ ap (λ (s : Option StrRef). marks l (string_link s) d) (str_stays o nd NAME_GC (inl (omega arith)))
      where
        c : List ℕ
        c = marks l (each (λ k. table_link (type_meta k w)) 9 0) t

        nc : Marked l w (marks l (each (λ k. table_link (type_meta k w)) 9 0) t)
        nc = marks_marked l ok a (each (λ k. table_link (type_meta k w)) 9 0) long n

        d : List ℕ
        d = marks l (string_link (mode_name w)) (marks l (each (λ k. table_link (type_meta k w)) 9 0) t)

        nd : Marked l w (marks l (string_link (mode_name w)) (marks l (each (λ k. table_link (type_meta k w)) 9 0) t))
        nd = marks_marked l ok a (string_link (mode_name w)) long nc

        second : List ℕ → List ℕ
        second x = mark_string_or (ops l) (mode_name x) x

        last : List ℕ → List ℕ
        last x = mark_string_or (ops l) (gc_name x) x

    abbrev listed : List ℕ
    listed = push l.gray Main u

    listed_marked : Marked l w listed
    listed_marked = marked_then m (moves_marked l ok a (pushed (still refl) gray Main refl) (omega (arith, m.long)))

    table_stage : (q : ℕ) → q + 2 ≤ 52 → (t : List ℕ) → Marked l w t → mark_table_or (ops l) (table_or_at t q) t ≡ marks l (table_link (table_or_at w q)) t
    table_stage q h t n = table_link_lem l (table_or_at t q) t ∙ ap (λ (x : Option TableRef). marks l (table_link x) t) (table_stays o n q (inl h))

    -- Marking the roots marks exactly their links.
    pub roots_links : mark_roots (ops l) u ≡ marks l (root_links w l) (push l.gray Main u)
    unfolding mark_roots root_links
    roots_links =
        ap (λ (x : List ℕ). mark_gc_roots (ops l) (mark_table_or (ops l) (registry x) x)) (table_stage GLOBAL (omega arith) listed listed_marked)
        ∙ ap (mark_gc_roots (ops l)) (table_stage REGISTRY (omega arith) (marks l A listed) (marks_marked l ok a A long listed_marked))
        ∙ gc_roots (marks_marked l ok a B long (marks_marked l ok a A long listed_marked))
        ∙ ap (λ (x : List ℕ). marks l G (marks l D (marks l C x))) (sym (marks_append l A B listed))
        ∙ ap (λ (x : List ℕ). marks l G (marks l D x)) (sym (marks_append l (A ++ B) C listed))
        ∙ ap (marks l G) (sym (marks_append l (A ++ B ++ C) D listed))
        ∙ sym (marks_append l (A ++ B ++ C ++ D) G listed)

    -- So marking the roots is moves.
    pub roots_moves : Moves l u (mark_roots (ops l) u)
    roots_moves = subst (λ x. Moves l u x) (sym roots_links) (marks_moves l (root_links w l) (pushed (still refl) gray Main refl))
