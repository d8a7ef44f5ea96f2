-- The third part of the atomic phase: the white flips, the strings of listed weak tables take the new white, dead entries are
-- cleared, the estimate and the cursor are set. Nothing is pushed, and the damage mark stays. Assumes nothing.
--     Unmarked                  the damage mark is as it was
--     kept_mark                 keeping strings leaves the damage mark
--     Low, cleared_low          the words below the boundary; clearing entries leaves them
--     flipped_mark, begun_mark  the whole part
use Rattle.std.specs.Prelude.{◌≡◌, refl, Bool, cond, length}
use Rattle.std.proofs.Common.{◌∙◌, inl, arith, get_or-set_other, length-set}
use Rattle.std.proofs.Math.Bool.{true, false}
use mathlib.Core.List.{List}
use Prim.Native.Nat.{ℕ, ◌+◌, ◌-◌, ◌*◌, ◌≤◌, ◌<◌}
use Rattle.base.specs.Ways.{eq_either}
use Rattle.base.specs.Loop.{run_keeps}
use Rattle.base.specs.Words.{at, put}
use Rattle.value.specs.declared.TableRef.{TableRef}
use Rattle.value.specs.declared.Value.{Value}
use Rattle.value.specs.declared.Value.TheVariants as value
use Rattle.value.specs.Values.{is_nil, value_at, put3}
use Rattle.value.specs.Laws.{put3_long, put3_kept}
use Rattle.layout.specs.declared.Lay.{Lay}
use Rattle.layout.specs.Places.{PHASE, WHITE, CURSOR_ARENA, CURSOR_SLOT, TOTAL, ESTIMATE}
use Rattle.lists.specs.declared.Item.{Item}
use Rattle.lists.specs.declared.Item.TheVariants.{Table, Function, Userdata, Thread, Main, Unknown}
use Rattle.lists.specs.Lists.{damage, length_of, item_at}
use Rattle.lists.proofs.Laws.{cleared_kept}
use Rattle.record.specs.Fields.{body_at}
use Rattle.record.specs.Tables.{table_meta, array_size, node_count}
use Rattle.laid.specs.Laid.{Laid, weak_room_lem}
use Rattle.mark.specs.Ops.{other_white}
use Rattle.mark.specs.Words.{shade}
use Rattle.modes.specs.declared.Mode.{Mode}
use Rattle.modes.specs.Modes.{is_weak, weak_mode}
use Rattle.clearing.specs.Strings.{on_table, keep_value, keep_string, keep_nth, keep_strings, keep_node, keep_nth_node, keep_nodes, keep_table, keep_listed, keep_all}
use Rattle.clearing.specs.Entries.{is_dead, clear_value, clear_nth, clear_values, clear_array, node_dies, clear_node, clear_nth_node, clear_nodes, clear_entries, clear_table, clear_listed, clear_all, clear_weak_tables}
use Rattle.atomic.specs.Atomic.{flipped, begun}
use Rattle.mark_laws.specs.Apart.{Apart, Order, order}

-- The words are as long, and the damage mark is as it was.
pub record Unmarked (w u : List ℕ) : Type 0 where
  pub long : length u ≡ length w
  pub mark : at u damage ≡ at w damage

pub unmarked_none : {w : List ℕ} → Unmarked w w
unmarked_none = record { long = refl; mark = refl }

-- a word elsewhere
put_unmarked : {w u : List ℕ} (q x : ℕ) → damage < q → Unmarked w u → Unmarked w (put q x u)
put_unmarked {w} {u} q x h s = record { long = length-set u q x ∙ s.long; mark = get_or-set_other u q damage x 0 (λ e. omega (arith, e, h)) ∙ s.mark }

-- what is done with a listed table
on_table_lem : (f : TableRef → List ℕ → List ℕ) {w : List ℕ} → ((r : TableRef) (u : List ℕ) → Unmarked w u → Unmarked w (f r u)) → (x : Item) (u : List ℕ) → Unmarked w u → Unmarked w (on_table f x u)
unfolding on_table
on_table_lem f h (Table r) u s = h r u s
on_table_lem f h (Function r) u s = s
on_table_lem f h (Userdata r) u s = s
on_table_lem f h (Thread r) u s = s
on_table_lem f h Main u s = s
on_table_lem f h Unknown u s = s

module _ (l : Lay) (ok : Laid l) (a : Apart l) (w : List ℕ) where
  abbrev o : Order l
  o = order l ok a

  -- Strings take the new white.
  module _ (white : ℕ) where
    string_mark : (p : ℕ) (u : List ℕ) → Unmarked w u → Unmarked w (keep_string l white p u)
    unfolding keep_string keep_value
    string_mark p u s = go (value_at u p)
      where
        go : (v : Value) → Unmarked w (keep_value l white u v)
        go (value.Str r) = eq_either (λ (x : List ℕ). Unmarked w x) (shade l.strings r.0 r.1 u) 0 u _ s (put_unmarked (l.strings.base + r.0) white (omega (arith, o.header)) s)
        go value.Nil = s
        go (value.Boolean x) = s
        go (value.Light x) = s
        go (value.Number x) = s
        go (value.Table r) = s
        go (value.Function r) = s
        go (value.Userdata r) = s
        go (value.Thread r) = s

    node_mark : (q : ℕ) (u : List ℕ) → Unmarked w u → Unmarked w (keep_node l white q u)
    unfolding keep_node
    node_mark q u s = go (is_nil (value_at u q))
      where
        go : (d : Bool) → Unmarked w (cond d u (keep_string l white (q + 3) (keep_string l white q u)))
        go true = s
        go false = string_mark (q + 3) (keep_string l white q u) (string_mark q u s)

    table_mark : (r : TableRef) (u : List ℕ) → Unmarked w u → Unmarked w (keep_table l white r u)
    unfolding keep_table keep_nodes keep_strings
    table_mark r u s =
        eq_either (λ (x : List ℕ). Unmarked w x) (shade l.tables r.0 r.1 u) 0 u _ s
        (run_keeps (keep_nth_node l white (p + 4 + 3 * n)) (λ x. Unmarked w x) 0 (node_count p u) _ (omega arith) (λ j x h t. node_mark (p + 4 + 3 * n + 6 * j) x t)
        (run_keeps (keep_nth l white (p + 4)) (λ x. Unmarked w x) 0 n u (omega arith) (λ j x h t. string_mark (p + 4 + 3 * j) x t) s))
      where
        p : ℕ
        p = body_at l.tables r.0

        n : ℕ
        n = array_size (body_at l.tables r.0) u

    -- Keeping the strings of all listed tables leaves the damage mark.
    pub kept_mark : (u : List ℕ) → Unmarked w u → Unmarked w (keep_all l white u)
    unfolding keep_all keep_listed
    kept_mark u s = run_keeps (keep_listed l white) (λ x. Unmarked w x) 0 (length_of l.weak u) u (omega arith) (λ j x h t. on_table_lem (keep_table l white) table_mark (item_at l.weak j x) x t) s

-- The words below the boundary are as they were.
pub record Low (l : Lay) (w u : List ℕ) : Type 0 where
  pub long : length u ≡ length w
  pub word : (q : ℕ) → q < l.boundary → at u q ≡ at w q

pub low_none : {l : Lay} {w : List ℕ} → Low l w w
low_none = record { long = refl; word = λ q h. refl }

-- what is done with a listed table
low_table : {l : Lay} (f : TableRef → List ℕ → List ℕ) {w : List ℕ} → ((r : TableRef) (u : List ℕ) → Low l w u → Low l w (f r u)) → (x : Item) (u : List ℕ) → Low l w u → Low l w (on_table f x u)
unfolding on_table
low_table f h (Table r) u s = h r u s
low_table f h (Function r) u s = s
low_table f h (Userdata r) u s = s
low_table f h (Thread r) u s = s
low_table f h Main u s = s
low_table f h Unknown u s = s

module _ (l : Lay) (ok : Laid l) (a : Apart l) (w : List ℕ) (old : ℕ) where
  abbrev ord : Order l
  ord = order l ok a

  -- a value past the boundary becomes nil
  nil_low : {u : List ℕ} (p : ℕ) → l.boundary ≤ p → Low l w u → Low l w (put3 p 0 0 0 u)
  nil_low {u} p h s = record { long = put3_long p 0 0 0 u ∙ s.long; word = λ q g. put3_kept p 0 0 0 u q (inl (omega (arith, g, h))) ∙ s.word q g }

  -- Entries die.
  value_low : (p : ℕ) (u : List ℕ) → l.boundary ≤ p → Low l w u → Low l w (clear_value l old p u)
  unfolding clear_value
  value_low p u h s = go (is_dead l old false (value_at u p) u)
    where
      go : (d : Bool) → Low l w (cond d (put3 p 0 0 0 u) u)
      go true = nil_low p h s
      go false = s

  array_low : (m : Mode) (p n : ℕ) (u : List ℕ) → l.boundary ≤ p → Low l w u → Low l w (clear_array l old m p n u)
  unfolding clear_array clear_values
  array_low m p n u h s = go m.values
    where
      go : (d : Bool) → Low l w (cond d (clear_values l old p n u) u)
      go true = run_keeps (clear_nth l old p) (λ x. Low l w x) 0 n u (omega arith) (λ j x g t. value_low (p + 3 * j) x (omega (arith, h)) t) s
      go false = s

  entry_low : (m : Mode) (q : ℕ) (u : List ℕ) → l.boundary ≤ q → Low l w u → Low l w (clear_node l old m q u)
  unfolding clear_node
  entry_low m q u h s = go (is_nil (value_at u q)) (node_dies l old m q u)
    where
      go : (c d : Bool) → Low l w (cond c u (cond d (put3 (q + 3) 0 0 0 u) u))
      go true d = s
      go false true = nil_low (q + 3) (omega (arith, h)) s
      go false false = s

  entries_low : (m : Mode) (p : ℕ) (u : List ℕ) → l.boundary ≤ p → Low l w u → Low l w (clear_entries l old m p u)
  unfolding clear_entries clear_nodes
  entries_low m p u h s =
      run_keeps (clear_nth_node l old m (p + 4 + 3 * array_size p u)) (λ x. Low l w x) 0 (node_count p u) _ (omega arith)
      (λ j x g t. entry_low m (p + 4 + 3 * array_size p u + 6 * j) x (omega (arith, h)) t)
      (array_low m (p + 4) (array_size p u) u (omega (arith, h)) s)

  dead_low : (b : List ℕ) (r : TableRef) (u : List ℕ) → Low l w u → Low l w (clear_table l b old r u)
  unfolding clear_table
  dead_low b r u s =
      eq_either (λ (x : List ℕ). Low l w x) (shade l.tables r.0 r.1 u) 0 u _ s
      (go (is_weak (weak_mode l (table_meta (body_at l.tables r.0) u) u b)))
    where
      m : Mode
      m = weak_mode l (table_meta (body_at l.tables r.0) u) u b

      go : (d : Bool) → Low l w (cond d (clear_entries l old m (body_at l.tables r.0) u) u)
      go true = entries_low m (body_at l.tables r.0) u (omega (arith, ord.past_tables)) s
      go false = s

  -- Clearing the entries of all listed tables leaves all words below the boundary.
  pub cleared_low : (b u : List ℕ) → Low l w u → Low l w (clear_all l b old u)
  unfolding clear_all clear_listed
  cleared_low b u s = run_keeps (clear_listed l b old) (λ x. Low l w x) 0 (length_of l.weak u) u (omega arith) (λ j x h t. low_table (clear_table l b old) (dead_low b) (item_at l.weak j x) x t) s

-- The white flips, and weak tables are cleared.
pub flipped_mark : (l : Lay) → Laid l → Apart l → (b w : List ℕ) → l.words ≤ length w → at (flipped l b w) damage ≡ at w damage
unfolding flipped clear_weak_tables
flipped_mark l ok a b w long =
    let o = order l ok a in
    let n = other_white (at w WHITE) in
    let k = kept_mark l ok a w n (put WHITE n w) (put_unmarked WHITE n (omega arith) unmarked_none) in
    let v = keep_all l n (put WHITE n w) in
    let s = cleared_low l ok a v (at w WHITE) b v low_none in
    cleared_kept l.weak (clear_all l b (at w WHITE) v) (weak_room_lem l (clear_all l b (at w WHITE) v) ok (omega (arith, long, k.long, s.long))) damage (λ e. omega (arith, e, o.weak)) (inl (omega (arith, o.header, a)))
    ∙ s.word damage (omega (arith, o.header, a))
    ∙ k.mark

-- The estimate, the cursor and the phase are set.
pub begun_mark : (n : ℕ) (w : List ℕ) → at (begun n w) damage ≡ at w damage
unfolding begun
begun_mark n w =
    let s : Unmarked w (put PHASE 2 (put CURSOR_SLOT 0 (put CURSOR_ARENA 0 (put ESTIMATE (at w TOTAL - 48 * n) w)))) =
    put_unmarked PHASE 2 (omega arith) (put_unmarked CURSOR_SLOT 0 (omega arith) (put_unmarked CURSOR_ARENA 0 (omega arith) (put_unmarked ESTIMATE (at w TOTAL - 48 * n) (omega arith) unmarked_none))) in
    s.mark
