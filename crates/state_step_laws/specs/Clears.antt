-- Clearing the entries of weak tables leaves all words before the tables' records. Assumes nothing.
use Rattle.std.specs.Prelude.{◌≡◌, ℕ, ◌+◌, ◌*◌, ◌≤◌, ◌<◌}
use Rattle.std.proofs.Math.Path.{refl}
use Rattle.std.proofs.Common.{◌∙◌, inl, arith}
use Rattle.std.proofs.Math.Bool.{false}
use mathlib.Core.List.{List}
use Rattle.base.specs.Loop.{run_keeps}
use Rattle.base.specs.Words.{at}
use Rattle.value.specs.declared.TableRef.{TableRef}
use Rattle.value.specs.Values.{value_at, is_nil}
use Rattle.value.specs.Laws.{put3_kept}
use Rattle.layout.specs.declared.Lay.{Lay}
use Rattle.lists.specs.declared.Item.{Item}
use Rattle.lists.specs.declared.Item.TheVariants.{Table, Function, Userdata, Thread, Main, Unknown}
use Rattle.lists.specs.Lists.{length_of, item_at}
use Rattle.record.specs.Fields.{body_at}
use Rattle.record.specs.Tables.{table_meta, array_size, node_count}
use Rattle.modes.specs.declared.Mode.{Mode}
use Rattle.modes.specs.Modes.{is_weak, weak_mode}
use Rattle.mark.specs.Words.{shade}
use Rattle.clearing.specs.Strings.{on_table}
use Rattle.clearing.specs.Entries.{is_dead, clear_value, clear_nth, clear_values, clear_array, node_dies, clear_node, clear_nth_node, clear_nodes, clear_entries, clear_table, clear_listed, clear_all}
use Rattle.state_laws.specs.Plains.{eq_both, cond_both}

module _ (l : Lay) (old x : ℕ) (h : x < l.tables.bodies) where
  value_kept : (p : ℕ) (u : List ℕ) → l.tables.bodies ≤ p → at (clear_value l old p u) x ≡ at u x
  unfolding clear_value
  value_kept p u f = cond_both (λ (v : List ℕ). at v x ≡ at u x) (is_dead l old false (value_at u p) u) _ _ (λ e. put3_kept p 0 0 0 u x (inl (omega (arith, h, f)))) (λ e. refl)

  array_kept : (m : Mode) (p n : ℕ) (u : List ℕ) → l.tables.bodies ≤ p → at (clear_array l old m p n u) x ≡ at u x
  unfolding clear_array clear_values
  array_kept m p n u f =
      cond_both (λ (v : List ℕ). at v x ≡ at u x) m.values _ _
      (λ e. run_keeps (clear_nth l old p) (λ (v : List ℕ). at v x ≡ at u x) 0 n u (omega arith) (λ j v g k. value_kept (p + 3 * j) v (omega (arith, f)) ∙ k) refl) (λ e. refl)

  node_kept : (m : Mode) (q : ℕ) (u : List ℕ) → l.tables.bodies ≤ q → at (clear_node l old m q u) x ≡ at u x
  unfolding clear_node
  node_kept m q u f =
      cond_both (λ (v : List ℕ). at v x ≡ at u x) (is_nil (value_at u q)) _ _ (λ e. refl)
      (λ e. cond_both (λ (v : List ℕ). at v x ≡ at u x) (node_dies l old m q u) _ _ (λ z. put3_kept (q + 3) 0 0 0 u x (inl (omega (arith, h, f)))) (λ z. refl))

  entries_kept : (m : Mode) (p : ℕ) (u : List ℕ) → l.tables.bodies ≤ p → at (clear_entries l old m p u) x ≡ at u x
  unfolding clear_entries clear_nodes
  entries_kept m p u f =
      run_keeps (clear_nth_node l old m (p + 4 + 3 * array_size p u)) (λ (v : List ℕ). at v x ≡ at u x) 0 (node_count p u) _ (omega arith)
      (λ j v g k. node_kept m (p + 4 + 3 * array_size p u + 6 * j) v (omega (arith, f)) ∙ k) (array_kept m (p + 4) (array_size p u) u (omega (arith, f)))

  table_kept : (b : List ℕ) (r : TableRef) (u : List ℕ) → at (clear_table l b old r u) x ≡ at u x
  unfolding clear_table
  table_kept b r u =
      eq_both (λ (v : List ℕ). at v x ≡ at u x) (shade l.tables r.0 r.1 u) 0 u _ (λ e. refl)
      (λ e. cond_both (λ (v : List ℕ). at v x ≡ at u x) (is_weak (weak_mode l (table_meta (body_at l.tables r.0) u) u b)) _ _ (λ z. entries_kept _ (body_at l.tables r.0) u (omega arith)) (λ z. refl))

  item_kept : (b : List ℕ) (y : Item) (u : List ℕ) → at (on_table (clear_table l b old) y u) x ≡ at u x
  unfolding on_table
  item_kept b (Table r) u = table_kept b r u
  item_kept b (Function r) u = refl
  item_kept b (Userdata r) u = refl
  item_kept b (Thread r) u = refl
  item_kept b Main u = refl
  item_kept b Unknown u = refl

  pub cleared_before : (b u : List ℕ) → at (clear_all l b old u) x ≡ at u x
  unfolding clear_all clear_listed
  cleared_before b u = run_keeps (clear_listed l b old) (λ (v : List ℕ). at v x ≡ at u x) 0 (length_of l.weak u) u (omega arith) (λ j v g k. item_kept b (item_at l.weak j v) v ∙ k) refl
