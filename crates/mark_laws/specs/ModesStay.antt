-- Marking leaves the entries of every table, and so the mode that a metatable gives. Assumes nothing.
--     size_stays, nodes_stay, key_stays, node_value_stays     the parts of a table's record
--     look_stays, field_stays       a name looked up in a table
--     weak_mode_stays, gc_method_stays     the mode, and the finalizer, that a metatable gives
use Rattle.std.specs.Prelude.{◌≡◌, List as Words, Some, None, Option}
use Rattle.std.proofs.Math.Path.{refl, ap}
use Rattle.std.proofs.Common.{◌∙◌, inl, inr, arith}
use Rattle.std.proofs.Math.Bool.{cond}
use Prim.Native.Nat.{ℕ, zero, suc, ◌+◌, ◌*◌, ◌≤◌}
use Rattle.base.specs.Words.{bounded}
use Rattle.arena.specs.Slots.{named}
use Rattle.value.specs.declared.Value.{Value}
use Rattle.value.specs.declared.Value.TheVariants.{Nil, Boolean, Light, Number, Str, Table, Function, Userdata, Thread}
use Rattle.value.specs.declared.StrRef.{StrRef}
use Rattle.value.specs.declared.TableRef.{TableRef}
use Rattle.value.specs.Values.{key_equal, value_at}
use Rattle.layout.specs.declared.Lay.{Lay}
use Rattle.layout.specs.Places.{NAME_MODE, NAME_GC}
use Rattle.record.specs.Fields.{body_at}
use Rattle.record.specs.Strings.{text_of}
use Rattle.record.specs.Tables.{array_size, node_number, node_count, node_place, node_key, node_value}
use Rattle.main_record.specs.Main.{mode_name, gc_name}
use Rattle.modes.specs.Modes.{look_from, field_at, field_named, field, mode_of_text, mode_of_slot, mode_of_string, mode_of_value, weak_mode, gc_method}
use Rattle.mark_laws.specs.Apart.{Order}
use Rattle.mark_laws.specs.Changes.{Marked}
use Rattle.mark_laws.specs.Stays.{below, value_stays, str_stays, named_stays}

module _ {l : Lay} (o : Order l) {w u : Words ℕ} (m : Marked l w u) where
  -- The sizes, keys and values of a table whose record lies past the boundary.
  module _ (p : ℕ) (h : l.boundary ≤ p) where
    -- the array's size
    pub size_stays : array_size p u ≡ array_size p w
    size_stays = ap (λ (x : ℕ). bounded x 64) (below o m (p + 2) (inr (omega arith)))

    -- the number of nodes
    pub nodes_stay : node_count p u ≡ node_count p w
    nodes_stay = ap node_number (below o m (p + 3) (inr (omega arith)))

    -- the key of node j
    pub key_stays : (j : ℕ) → node_key p j u ≡ node_key p j w
    key_stays j = ap (λ (n : ℕ). value_at u (p + 4 + 3 * n + 6 * j)) size_stays ∙ value_stays o m (node_place p j w) (inr (omega arith))

    -- and its value
    pub node_value_stays : (j : ℕ) → node_value p j u ≡ node_value p j w
    node_value_stays j = ap (λ (n : ℕ). value_at u (p + 4 + 3 * n + 6 * j + 3)) size_stays ∙ value_stays o m (node_place p j w + 3) (inr (omega arith))

    -- A name is found at the same node, with the same value.
    pub look_stays : (n j : ℕ) (s : StrRef) → look_from n j p s u ≡ look_from n j p s w
    unfolding look_from
    look_stays zero j s = refl
    look_stays (suc n) j s =
        ap (λ (k : Value). cond (key_equal k (Str s)) (node_value p j u) (look_from n (j + 1) p s u)) (key_stays j)
        ∙ ap (λ (v : Value). cond (key_equal (node_key p j w) (Str s)) v (look_from n (j + 1) p s u)) (node_value_stays j)
        ∙ ap (λ (v : Value). cond (key_equal (node_key p j w) (Str s)) (node_value p j w) v) (look_stays n (j + 1) s)

  field_named_stays : (t : TableRef) (s : StrRef) → field_named l t s u ≡ field_named l t s w
  unfolding field_named
  field_named_stays t s = ap (field_at l s u) (named_stays o m 1 t.0 t.1) ∙ go (named l.tables t.0 t.1 w)
    where
      go : (n : Option ℕ) → field_at l s u n ≡ field_at l s w n
      go (Some i) =
          let h : l.boundary ≤ body_at l.tables i = omega (arith, o.past_tables) in
          ap (λ (n : ℕ). look_from n 0 (body_at l.tables i) s u) (nodes_stay (body_at l.tables i) h)
          ∙ look_stays (body_at l.tables i) h (node_count (body_at l.tables i) w) 0 s
      go None = refl

  -- A field of a table stays.
  pub field_stays : (t : TableRef) (s : Option StrRef) → field l t s u ≡ field l t s w
  unfolding field
  field_stays t (Some s) = field_named_stays t s
  field_stays t None = refl

  module _ (b : Words ℕ) where
    string_mode_stays : (s : StrRef) → mode_of_string l s u b ≡ mode_of_string l s w b
    unfolding mode_of_string
    string_mode_stays s = ap (mode_of_slot l u b) (named_stays o m 0 s.0 s.1) ∙ go (named l.strings s.0 s.1 w)
      where
        go : (n : Option ℕ) → mode_of_slot l u b n ≡ mode_of_slot l w b n
        go (Some i) = ap (λ (x : ℕ). mode_of_text (text_of i (bounded x 64) b)) (below o m (body_at l.strings i) (inr (omega (arith, o.past_strings))))
        go None = refl

    value_mode_stays : (v : Value) → mode_of_value l v u b ≡ mode_of_value l v w b
    unfolding mode_of_value
    value_mode_stays Nil = refl
    value_mode_stays (Boolean x) = refl
    value_mode_stays (Light x) = refl
    value_mode_stays (Number x) = refl
    value_mode_stays (Str s) = string_mode_stays s
    value_mode_stays (Table r) = refl
    value_mode_stays (Function r) = refl
    value_mode_stays (Userdata r) = refl
    value_mode_stays (Thread r) = refl

    -- Marking leaves the mode that a metatable gives.
    pub weak_mode_stays : (t : Option TableRef) → weak_mode l t u b ≡ weak_mode l t w b
    unfolding weak_mode
    weak_mode_stays None = refl
    weak_mode_stays (Some t) =
        ap (λ (s : Option StrRef). mode_of_value l (field l t s u) u b) (str_stays o m NAME_MODE (inl (omega arith)))
        ∙ ap (λ (v : Value). mode_of_value l v u b) (field_stays t (mode_name w))
        ∙ value_mode_stays (field l t (mode_name w) w)

  -- Marking leaves the finalizer that a metatable gives.
  pub gc_method_stays : (t : Option TableRef) → gc_method l t u ≡ gc_method l t w
  unfolding gc_method
  gc_method_stays None = refl
  gc_method_stays (Some t) =
      ap (λ (s : Option StrRef). field l t s u) (str_stays o m NAME_GC (inl (omega arith)))
      ∙ field_stays t (gc_name w)
