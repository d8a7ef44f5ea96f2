-- Document 01, 'Followed links', table: its metatable always; array values unless values are weak; of nodes with non-nil key
-- and value, the key unless keys are weak, the value unless values are. Assumes nothing.
use Rattle.std.specs.Prelude.{Bool, cond, List, ℕ, ◌+◌, ◌*◌}
use Rattle.base.specs.Ways.{if_eq}
use Rattle.base.specs.Loop.{run}
use Rattle.value.specs.declared.TableRef.{TableRef}
use Rattle.value.specs.Values.{is_nil, value_at}
use Rattle.layout.specs.declared.Lay.{Lay}
use Rattle.lists.specs.declared.Item.TheVariants.{Table}
use Rattle.record.specs.Fields.{body_at}
use Rattle.record.specs.Tables.{table_meta, array_size, node_count}
use Rattle.mark.specs.Ops.{tab, weak, Ops}
use Rattle.mark.specs.Marking.{mark_table_or, mark_value_at, mark_values}
use Rattle.modes.specs.declared.Mode.{Mode}
use Rattle.modes.specs.Modes.{is_weak, is_both, weak_mode}

-- Costs: table 64 + 16 per array place + 32 per node.
abbrev pub table_cost : ℕ → List ℕ → ℕ
table_cost p w = 64 + 16 * array_size p w + 32 * node_count p w

module _ {S : Type 0} (O : Ops S) where
  -- A table with weak keys or weak values is listed.
  unfoldable pub list_weak : Mode → TableRef → S → S
  list_weak m r s = cond (is_weak m) (O.push weak (Table r) s) s

  module _ (l : Lay) where
    unfoldable pub mark_unless : Bool → ℕ → S → S
    mark_unless weakly p s = cond weakly s (mark_value_at O l p s)

    -- the node whose key is at q and its value at q + 3
    unfoldable pub mark_pair : Mode → ℕ → S → S
    mark_pair m q s = mark_unless m.values (q + 3) (mark_unless m.keys q s)

    unfoldable pub mark_node : Mode → ℕ → S → S
    mark_node m q s =
        cond (is_nil (value_at (O.body s) q)) s
        (cond (is_nil (value_at (O.body s) (q + 3))) s
        (mark_pair m q s))

    abbrev pub mark_nth_node : Mode → ℕ → ℕ → S → S
    mark_nth_node m q j s = mark_node m (q + 6 * j) s

    unfoldable pub mark_nodes : Mode → ℕ → ℕ → S → S
    mark_nodes m q n s = run (mark_nth_node m q) 0 n s

    unfoldable pub mark_array : Mode → ℕ → ℕ → S → S
    mark_array m p n s = cond m.values s (mark_values O l p n s)

    unfoldable pub mark_entries : Mode → ℕ → S → S
    mark_entries m p s =
        let n = array_size p (O.body s) in
        let k = node_count p (O.body s) in
        let s₁ = mark_array m (p + 4) n s in
        cond (is_both m) s (mark_nodes m (p + 4 + 3 * n) k s₁)

    module _ (b : List ℕ) where
      unfoldable pub traverse_table_at : TableRef → S → S
      traverse_table_at r s =
          let p = body_at l.tables r.0 in
          let mt = table_meta p (O.body s) in
          let m = weak_mode l mt (O.body s) b in
          let s₁ = O.paint (tab r) 4 s in
          let s₂ = mark_table_or O mt s₁ in
          let s₃ = list_weak m r s₂ in
          mark_entries m p s₃

      -- A handle that names no table costs 64 and changes nothing.
      unfoldable pub traverse_table : TableRef → S → ℕ × S
      traverse_table r s = if_eq (O.colour (tab r) s) 0 (64, s) (table_cost (body_at l.tables r.0) (O.body s), traverse_table_at r s)
