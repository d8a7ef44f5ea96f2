-- Document 01, 'The atomic phase': every string in the array, or as key or value of a node with non-nil key, of each listed
-- weak table takes the new white. Assumes nothing.
use Rattle.std.specs.Prelude.{cond, List, ℕ, ◌+◌, ◌*◌}
use Rattle.base.specs.Ways.{if_eq}
use Rattle.base.specs.Loop.{run}
use Rattle.arena.specs.Slots.{set_colour}
use Rattle.value.specs.declared.TableRef.{TableRef}
use Rattle.value.specs.declared.Value.{Value}
use Rattle.value.specs.declared.Value.TheVariants as value
use Rattle.value.specs.Values.{is_nil, value_at}
use Rattle.layout.specs.declared.Lay.{Lay}
use Rattle.lists.specs.declared.Item.{Item}
use Rattle.lists.specs.declared.Item.TheVariants.{Table, Function, Userdata, Thread, Main, Unknown}
use Rattle.lists.specs.Lists.{length_of, item_at}
use Rattle.record.specs.Fields.{body_at}
use Rattle.record.specs.Tables.{array_size, node_count}
use Rattle.mark.specs.Words.{shade}

-- A table that is listed is worked on; any other item is passed.
unfoldable pub on_table : (TableRef → List ℕ → List ℕ) → Item → List ℕ → List ℕ
on_table work (Table r) w = work r w
on_table work (Function r) w = w
on_table work (Userdata r) w = w
on_table work (Thread r) w = w
on_table work Main w = w
on_table work Unknown w = w

module _ (l : Lay) (white : ℕ) where
  -- a string takes the white; a handle that names none, and any other value, does nothing
  unfoldable pub keep_value : List ℕ → Value → List ℕ
  keep_value w (value.Str s) = if_eq (shade l.strings s.0 s.1 w) 0 w (set_colour l.strings s.0 white w)
  keep_value w value.Nil = w
  keep_value w (value.Boolean x) = w
  keep_value w (value.Light x) = w
  keep_value w (value.Number x) = w
  keep_value w (value.Table r) = w
  keep_value w (value.Function r) = w
  keep_value w (value.Userdata r) = w
  keep_value w (value.Thread r) = w

  unfoldable pub keep_string : ℕ → List ℕ → List ℕ
  keep_string p w = keep_value w (value_at w p)

  abbrev pub keep_nth : ℕ → ℕ → List ℕ → List ℕ
  keep_nth p i w = keep_string (p + 3 * i) w

  unfoldable pub keep_strings : ℕ → ℕ → List ℕ → List ℕ
  keep_strings p n w = run (keep_nth p) 0 n w

  unfoldable pub keep_node : ℕ → List ℕ → List ℕ
  keep_node q w = cond (is_nil (value_at w q)) w (keep_string (q + 3) (keep_string q w))

  abbrev pub keep_nth_node : ℕ → ℕ → List ℕ → List ℕ
  keep_nth_node q j w = keep_node (q + 6 * j) w

  unfoldable pub keep_nodes : ℕ → ℕ → List ℕ → List ℕ
  keep_nodes q n w = run (keep_nth_node q) 0 n w

  unfoldable pub keep_table : TableRef → List ℕ → List ℕ
  keep_table r w =
      let p = body_at l.tables r.0 in
      let n = array_size p w in
      if_eq (shade l.tables r.0 r.1 w) 0 w
      (keep_nodes (p + 4 + 3 * n) (node_count p w) (keep_strings (p + 4) n w))

  unfoldable pub keep_listed : ℕ → List ℕ → List ℕ
  keep_listed k w = on_table keep_table (item_at l.weak k w) w

  unfoldable pub keep_all : List ℕ → List ℕ
  keep_all w = run keep_listed 0 (length_of l.weak w) w
