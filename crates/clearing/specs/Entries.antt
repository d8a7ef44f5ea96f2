-- Document 01, 'The atomic phase': entries die: for weak values a dead array value or node value, for weak keys a dead key.
-- Dead is a table, function, userdata or thread in the old white; a userdata as value also dies if finalized. A dead node
-- loses its value and keeps its key. Assumes nothing.
use Rattle.std.specs.Prelude.{Bool, true, false, cond, List, ℕ, ◌+◌, ◌*◌, eqb}
use Rattle.base.specs.Ways.{if_eq}
use Rattle.base.specs.Loop.{run}
use Rattle.value.specs.declared.TableRef.{TableRef}
use Rattle.value.specs.declared.UdRef.{UdRef}
use Rattle.value.specs.declared.Value.{Value}
use Rattle.value.specs.declared.Value.TheVariants as value
use Rattle.value.specs.Values.{is_nil, value_at, put3}
use Rattle.layout.specs.declared.Lay.{Lay}
use Rattle.lists.specs.Lists.{length_of, item_at, cleared}
use Rattle.record.specs.Fields.{body_at}
use Rattle.record.specs.Tables.{table_meta, array_size, node_count}
use Rattle.record.specs.Userdata.{ud_finalized}
use Rattle.mark.specs.Words.{shade}
use Rattle.modes.specs.declared.Mode.{Mode}
use Rattle.modes.specs.Modes.{is_weak, weak_mode}
use Rattle.clearing.specs.Strings.{on_table, keep_all}

unfoldable pub is_finalized : Lay → UdRef → List ℕ → Bool
is_finalized l r w = if_eq (shade l.userdata r.0 r.1 w) 0 false (ud_finalized (body_at l.userdata r.0) w)

module _ (l : Lay) where
  module _ (old : ℕ) where
    -- `key` says that the value is one. A finalized userdata is dead as a value, and not as a key. A string never is.
    unfoldable pub is_dead : Bool → Value → List ℕ → Bool
    is_dead key value.Nil w = false
    is_dead key (value.Boolean x) w = false
    is_dead key (value.Light x) w = false
    is_dead key (value.Number x) w = false
    is_dead key (value.Str s) w = false
    is_dead key (value.Table r) w = eqb (shade l.tables r.0 r.1 w) old
    is_dead key (value.Function r) w = eqb (shade l.functions r.0 r.1 w) old
    is_dead key (value.Thread r) w = eqb (shade l.threads r.0 r.1 w) old
    is_dead key (value.Userdata r) w =
        if_eq (shade l.userdata r.0 r.1 w) old true
        (cond key false (is_finalized l r w))

    unfoldable pub clear_value : ℕ → List ℕ → List ℕ
    clear_value p w = cond (is_dead false (value_at w p) w) (put3 p 0 0 0 w) w

    abbrev pub clear_nth : ℕ → ℕ → List ℕ → List ℕ
    clear_nth p i w = clear_value (p + 3 * i) w

    unfoldable pub clear_values : ℕ → ℕ → List ℕ → List ℕ
    clear_values p n w = run (clear_nth p) 0 n w

    module _ (m : Mode) where
      unfoldable pub clear_array : ℕ → ℕ → List ℕ → List ℕ
      clear_array p n w = cond m.values (clear_values p n w) w

      -- A node dies by its key where keys are weak, and by its value where values are.
      unfoldable pub key_dies : ℕ → List ℕ → Bool
      key_dies q w = cond m.keys (is_dead true (value_at w q) w) false

      unfoldable pub value_dies : ℕ → List ℕ → Bool
      value_dies q w = cond m.values (is_dead false (value_at w (q + 3)) w) false

      unfoldable pub node_dies : ℕ → List ℕ → Bool
      node_dies q w = cond (key_dies q w) true (value_dies q w)

      unfoldable pub clear_node : ℕ → List ℕ → List ℕ
      clear_node q w = cond (is_nil (value_at w q)) w (cond (node_dies q w) (put3 (q + 3) 0 0 0 w) w)

      abbrev pub clear_nth_node : ℕ → ℕ → List ℕ → List ℕ
      clear_nth_node q j w = clear_node (q + 6 * j) w

      unfoldable pub clear_nodes : ℕ → ℕ → List ℕ → List ℕ
      clear_nodes q n w = run (clear_nth_node q) 0 n w

      unfoldable pub clear_entries : ℕ → List ℕ → List ℕ
      clear_entries p w =
          let n = array_size p w in
          let k = node_count p w in
          clear_nodes (p + 4 + 3 * n) k (clear_array (p + 4) n w)

  module _ (b : List ℕ) where
    -- The mode is read again, from what the metatable has now.
    unfoldable pub clear_table : ℕ → TableRef → List ℕ → List ℕ
    clear_table old r w =
        let p = body_at l.tables r.0 in
        let m = weak_mode l (table_meta p w) w b in
        if_eq (shade l.tables r.0 r.1 w) 0 w
        (cond (is_weak m) (clear_entries old m p w) w)

    unfoldable pub clear_listed : ℕ → ℕ → List ℕ → List ℕ
    clear_listed old k w = on_table (clear_table old) (item_at l.weak k w) w

    unfoldable pub clear_all : ℕ → List ℕ → List ℕ
    clear_all old w = run (clear_listed old) 0 (length_of l.weak w) w

    -- first the strings of all, then the entries of all; the list is emptied
    unfoldable pub clear_weak_tables : ℕ → ℕ → List ℕ → List ℕ
    clear_weak_tables old white w = cleared l.weak (clear_all old (keep_all l white w))
