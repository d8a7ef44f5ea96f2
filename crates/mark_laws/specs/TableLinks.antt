-- Traversing a table marks exactly its links. `w` are the words before any marking, `u` those that a definition is given,
-- `b` the bytes. Assumes nothing.
--     array_links, nodes_links, entries_links     the parts of a table: array, nodes, both
--     table_links_lem          a table is painted, its metatable is marked, it is listed if it is weak, its entries are marked
--     table_both           the links of the metatable and of the entries are the table's links
--     table_traversed      traversing it is moves
use Rattle.std.proofs.Math.Path.{◌≡◌, refl, sym, ap}
use Rattle.std.proofs.Common.{subst, ◌∙◌, true≢false, inr, arith}
use Rattle.std.specs.Prelude.{Bool, length, Option}
use Rattle.std.proofs.Math.Bool.{true, false, cond}
use mathlib.Core.List.{List, [], ◌++◌}
use Prim.Native.Nat.{ℕ, zero, suc, ◌+◌, ◌*◌, ◌≤◌}
use Rattle.value.specs.declared.TableRef.{TableRef}
use Rattle.value.specs.declared.Value.{Value}
use Rattle.value.specs.Values.{is_nil, value_at}
use Rattle.layout.specs.declared.Lay.{Lay}
use Rattle.lists.specs.declared.Item.TheVariants.{Table}
use Rattle.lists.specs.Lists.{push}
use Rattle.record.specs.Fields.{body_at}
use Rattle.record.specs.Tables.{table_meta, array_size, node_count, node_place, node_key, node_value, array_value}
use Rattle.laid.specs.Laid.{Laid}
use Rattle.mark.specs.Ops.{Ref, tab, weak}
use Rattle.mark.specs.Words.{colour_w, paint_w, ops}
use Rattle.mark.specs.Marking.{mark_table_or, mark_values}
use Rattle.modes.specs.declared.Mode.{Mode}
use Rattle.modes.specs.Modes.{is_weak, is_both, weak_mode}
use Rattle.table_walk.specs.Tables.{list_weak, mark_unless, mark_pair, mark_node, mark_nth_node, mark_nodes, mark_array, mark_entries, traverse_table_at}
use Rattle.links.specs.Links.{value_links, table_link, each, node_links, entry_links, table_links}
use Rattle.mark_laws.specs.Apart.{Apart, Order, order}
use Rattle.mark_laws.specs.Moves.{Moves, still, pushed, paint_moves}
use Rattle.mark_laws.specs.Changes.{Marked, marked_then, moves_marked}
use Rattle.mark_laws.specs.Stays.{value_stays, table_stays}
use Rattle.mark_laws.specs.ModesStay.{size_stays, nodes_stay, weak_mode_stays}
use Rattle.mark_laws.specs.Marks.{marks, marks_append, marks_none, marks_moves, marks_marked}
use Rattle.mark_laws.specs.Follows.{table_link_lem, loop_links, value_at_links, values_links_lem}

-- lists that are all empty, joined
pub each_none : (g : ℕ → List Ref) → ((i : ℕ) → g i ≡ []) → (n i : ℕ) → each g n i ≡ []
unfolding each
each_none g h zero i = refl
each_none g h (suc n) i = ap (λ (x : List Ref). x ++ each g n (i + 1)) (h i) ∙ each_none g h n (i + 1)

-- A table that is weak in either way is listed, which is a move.
pub list_weak_moves : (l : Lay) (m : Mode) (r : TableRef) {w u : List ℕ} → Moves l w u → Moves l w (list_weak (ops l) m r u)
unfolding list_weak
list_weak_moves l m r {w} {u} n = go (is_weak m)
  where
    go : (b : Bool) → Moves l w (cond b (push l.weak (Table r) u) u)
    go true = pushed n weak (Table r) refl
    go false = n

module _ (l : Lay) (ok : Laid l) (a : Apart l) (w : List ℕ) (long : l.words ≤ length w) where
  abbrev o : Order l
  o = order l ok a

  -- a value is marked unless it is weak
  unless_links : (b : Bool) (p : ℕ) → l.boundary ≤ p → {u : List ℕ} → Marked l w u
      → mark_unless (ops l) l b p u ≡ marks l (cond b [] (value_links (value_at w p))) u
  unfolding mark_unless marks
  unless_links true p h m = refl
  unless_links false p h m = value_at_links l ok a w long m p (inr h)

  -- the key unless keys are weak, the value unless values are
  pair_links : (d : Mode) (q : ℕ) → l.boundary ≤ q → {u : List ℕ} → Marked l w u
      → mark_pair (ops l) l d q u ≡ marks l (cond d.keys [] (value_links (value_at w q)) ++ cond d.values [] (value_links (value_at w (q + 3)))) u
  unfolding mark_pair
  pair_links d q h {u} m =
      ap (mark_unless (ops l) l d.values (q + 3)) (unless_links d.keys q h m)
      ∙ unless_links d.values (q + 3) (omega arith) (marks_marked l ok a (cond d.keys [] (value_links (value_at w q))) long m)
      ∙ sym (marks_append l (cond d.keys [] (value_links (value_at w q))) (cond d.values [] (value_links (value_at w (q + 3)))) u)

  -- a node with non-nil key and value
  node_links_lem : (d : Mode) (q : ℕ) → l.boundary ≤ q → {u : List ℕ} → Marked l w u
      → mark_node (ops l) l d q u
      ≡ marks l (cond (is_nil (value_at w q)) [] (cond (is_nil (value_at w (q + 3))) [] (cond d.keys [] (value_links (value_at w q)) ++ cond d.values [] (value_links (value_at w (q + 3)))))) u
  unfolding mark_node marks
  node_links_lem d q h {u} m =
      ap (λ (v : Value). cond (is_nil v) u (cond (is_nil (value_at u (q + 3))) u (mark_pair (ops l) l d q u))) (value_stays o m q (inr h))
      ∙ ap (λ (v : Value). cond (is_nil (value_at w q)) u (cond (is_nil v) u (mark_pair (ops l) l d q u))) (value_stays o m (q + 3) (inr (omega arith)))
      ∙ go (is_nil (value_at w q)) (is_nil (value_at w (q + 3)))
    where
      go : (x y : Bool) → cond x u (cond y u (mark_pair (ops l) l d q u))
          ≡ marks l (cond x [] (cond y [] (cond d.keys [] (value_links (value_at w q)) ++ cond d.values [] (value_links (value_at w (q + 3)))))) u
      go true y = refl
      go false true = refl
      go false false = pair_links d q h m

  module _ (d : Mode) (p : ℕ) (h : l.boundary ≤ p) where
    -- The array, unless values are weak.
    pub array_links : {u : List ℕ} → Marked l w u
        → mark_array (ops l) l d (p + 4) (array_size p w) u ≡ marks l (cond d.values [] (each (λ i. value_links (array_value p i w)) (array_size p w) 0)) u
    unfolding mark_array marks
    array_links {u} m = go d.values
      where
        go : (b : Bool) → cond b u (mark_values (ops l) l (p + 4) (array_size p w) u)
            ≡ marks l (cond b [] (each (λ i. value_links (array_value p i w)) (array_size p w) 0)) u
        go true = refl
        go false = values_links_lem l ok a w long (p + 4) (array_size p w) (inr (omega arith)) u m

    -- The nodes.
    pub nodes_links : {u : List ℕ} → Marked l w u
        → mark_nodes (ops l) l d (p + 4 + 3 * array_size p w) (node_count p w) u ≡ marks l (each (node_links w d p) (node_count p w) 0) u
    unfolding mark_nodes node_links
    nodes_links {u} m =
        loop_links l ok a w long (mark_nth_node (ops l) l d (p + 4 + 3 * array_size p w)) (node_links w d p) (node_count p w)
        (λ j f t k. node_links_lem d (node_place p j w) (omega arith) k)
        u m

    -- a table weak in both ways has no links among its nodes
    both_none : is_both d ≡ true → (j : ℕ) → node_links w d p j ≡ []
    unfolding node_links
    both_none e j = go (is_nil (node_key p j w)) (is_nil (node_value p j w)) d.keys d.values e
      where
        go : (x y s t : Bool) → cond s t false ≡ true
            → ◌≡◌ {A = List Ref} (cond x [] (cond y [] (cond s [] (value_links (node_key p j w)) ++ cond t [] (value_links (node_value p j w))))) []
        go true y s t e = refl
        go false true s t e = refl
        go false false true true e = refl
        go false false true false e = absurd (true≢false (sym e))
        go false false false t e = absurd (true≢false (sym e))

    both_values : is_both d ≡ true → d.values ≡ true
    both_values e = go d.keys d.values e
      where
        go : (s t : Bool) → cond s t false ≡ true → t ≡ true
        go true t e = e
        go false t e = absurd (true≢false (sym e))

    -- Both.
    pub entries_links : {u : List ℕ} → Marked l w u → mark_entries (ops l) l d p u ≡ marks l (entry_links w d p) u
    unfolding mark_entries entry_links
    entries_links {u} m =
        ap (λ (n : ℕ). cond (is_both d) u (mark_nodes (ops l) l d (p + 4 + 3 * n) (node_count p u) (mark_array (ops l) l d (p + 4) n u))) (size_stays o m p h)
        ∙ ap (λ (k : ℕ). cond (is_both d) u (mark_nodes (ops l) l d (p + 4 + 3 * array_size p w) k (mark_array (ops l) l d (p + 4) (array_size p w) u))) (nodes_stay o m p h)
        ∙ go (is_both d) refl
      where
        A : List Ref
        A = cond d.values [] (each (λ i. value_links (array_value p i w)) (array_size p w) 0)

        N : List Ref
        N = each (node_links w d p) (node_count p w) 0

        none : is_both d ≡ true → cond d.values [] (each (λ i. value_links (array_value p i w)) (array_size p w) 0) ++ each (node_links w d p) (node_count p w) 0 ≡ []
        none e =
            ap (λ (t : Bool). cond t [] (each (λ i. value_links (array_value p i w)) (array_size p w) 0) ++ each (node_links w d p) (node_count p w) 0) (both_values e)
            ∙ each_none (node_links w d p) (both_none e) (node_count p w) 0

        go : (x : Bool) → is_both d ≡ x
            → cond x u (mark_nodes (ops l) l d (p + 4 + 3 * array_size p w) (node_count p w) (mark_array (ops l) l d (p + 4) (array_size p w) u)) ≡ marks l (A ++ N) u
        go true e = sym (marks_none l (A ++ N) u (none e))
        go false e =
            ap (mark_nodes (ops l) l d (p + 4 + 3 * array_size p w) (node_count p w)) (array_links m)
            ∙ nodes_links (marks_marked l ok a A long m)
            ∙ sym (marks_append l A N u)

  -- A table that is named is painted black, its metatable is marked, it is listed if it is weak, and its entries are marked.
  module _ (b : List ℕ) (r : TableRef) (u : List ℕ) (m : Marked l w u) (named : 1 ≤ colour_w l (tab r) u) where
    abbrev place : ℕ
    place = body_at l.tables r.0

    abbrev mode : Mode
    mode = weak_mode l (table_meta place w) w b

    abbrev listed : List ℕ
    listed = list_weak (ops l) mode r (marks l (table_link (table_meta place w)) (paint_w l (tab r) 4 u))

    listed_moves : Moves l u listed
    listed_moves = list_weak_moves l mode r (marks_moves l (table_link (table_meta place w)) (paint_moves l (tab r) named (still refl)))

    -- Its traversal marks exactly its links: the metatable, and, listed or not, the entries.
    pub table_links_lem : traverse_table_at (ops l) l b r u
        ≡ marks l (entry_links w (weak_mode l (table_meta (body_at l.tables r.0) w) w b) (body_at l.tables r.0))
        (list_weak (ops l) (weak_mode l (table_meta (body_at l.tables r.0) w) w b) r
        (marks l (table_link (table_meta (body_at l.tables r.0) w))
        (paint_w l (tab r) 4 u)))
    unfolding traverse_table_at
    table_links_lem =
        ap (λ (t : Option TableRef). whole t (weak_mode l t u b)) (table_stays o m place (inr (omega (arith, o.past_tables))))
        ∙ ap (whole (table_meta place w)) (weak_mode_stays o m b (table_meta place w))
        ∙ ap (λ (x : List ℕ). mark_entries (ops l) l mode place (list_weak (ops l) mode r x)) (table_link_lem l (table_meta place w) (paint_w l (tab r) 4 u))
        ∙ entries_links mode place (omega (arith, o.past_tables)) (marked_then m (moves_marked l ok a listed_moves (omega (arith, m.long))))
      where
        whole : Option TableRef → Mode → List ℕ
        whole t d = mark_entries (ops l) l d (body_at l.tables r.0) (list_weak (ops l) d r (mark_table_or (ops l) t (paint_w l (tab r) 4 u)))

    -- So the traversal is moves.
    pub table_traversed : Moves l u (traverse_table_at (ops l) l b r u)
    table_traversed = subst (λ x. Moves l u x) (sym table_links_lem) (marks_moves l (entry_links w mode place) listed_moves)

  -- The links of the metatable and of the entries are all the links of the table.
  pub table_both : (b : List ℕ) (p : ℕ) → table_links w l b p ≡ table_link (table_meta p w) ++ entry_links w (weak_mode l (table_meta p w) w b) p
  unfolding table_links
  table_both b p = refl
