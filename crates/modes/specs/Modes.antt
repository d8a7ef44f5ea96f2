-- Document 01, 'Followed links': a key is looked up in node order, by handle. A table's mode comes from its metatable's
-- `__mode` value, if that is a string: `k` in it means weak keys, `v` weak values. Assumes nothing.
use Rattle.std.specs.Prelude.{◌≡◌, Bool, true, false, cond, List, Some, None, Option}
use Rattle.std.proofs.Math.Path.{ap}
use Rattle.std.proofs.Common.{◌∙◌}
use Prim.Native.Nat.{ℕ, zero, suc, ◌+◌, ◌-◌, ◌≤◌, ◌<◌}
use native.Mathlib.Omega.{arith}
use Rattle.arena.specs.Slots.{named}
use Rattle.value.specs.declared.Value.{Value}
use Rattle.value.specs.declared.Value.TheVariants.{Nil, Boolean, Light, Number, Str, Table, Function, Userdata, Thread}
use Rattle.value.specs.declared.StrRef.{StrRef}
use Rattle.value.specs.declared.TableRef.{TableRef}
use Rattle.value.specs.Values.{key_equal}
use Rattle.layout.specs.declared.Lay.{Lay}
use Rattle.record.specs.Fields.{body_at}
use Rattle.record.specs.Strings.{string_length, text_of, has_byte}
use Rattle.record.specs.Tables.{node_count, node_key, node_value}
use Rattle.main_record.specs.Main.{mode_name, gc_name}
use Rattle.modes.specs.declared.Mode.{Mode}

-- The value of the first of n nodes from j on whose key is the name; nil where there is none.
unfoldable pub look_from : ℕ → ℕ → ℕ → StrRef → List ℕ → Value
look_from zero j p s w = Nil
look_from (suc n) j p s w = cond (key_equal (node_key p j w) (Str s)) (node_value p j w) (look_from n (j + 1) p s w)

abbrev pub look_up : ℕ → StrRef → List ℕ → Value
look_up p s w = look_from (node_count p w) 0 p s w

-- from the first node on it is the whole
pub look_start : (n p : ℕ) (s : StrRef) (w : List ℕ) → n ≡ node_count p w → look_from (n - 0) 0 p s w ≡ look_up p s w
look_start n p s w e =
    let q : n - 0 ≡ node_count p w = omega arith in
    ap (λ (k : ℕ). look_from k 0 p s w) q

-- a node is passed, is found, and there is none left: r is what the whole gives
module _ (n j p : ℕ) (s : StrRef) (w : List ℕ) {r : Value} (rest : look_from (n - j) j p s w ≡ r) where
  step : j < n → cond (key_equal (node_key p j w) (Str s)) (node_value p j w) (look_from (n - (j + 1)) (j + 1) p s w) ≡ r
  unfolding look_from
  step h =
      let q : suc (n - (j + 1)) ≡ n - j = omega arith in
      ap (λ (k : ℕ). look_from k j p s w) q ∙ rest

  pub look_again : j < n → key_equal (node_key p j w) (Str s) ≡ false → look_from (n - (j + 1)) (j + 1) p s w ≡ r
  look_again h e = rw e at (step h)

  pub look_found : j < n → key_equal (node_key p j w) (Str s) ≡ true → node_value p j w ≡ r
  look_found h e = rw e at (step h)

  pub look_end : n ≤ j → Nil ≡ r
  unfolding look_from
  look_end h =
      let q : zero ≡ n - j = omega arith in
      ap (λ (k : ℕ). look_from k j p s w) q ∙ rest

-- A field of a table; nil where the handle names no table or there is no such name.
abbrev pub field_at : Lay → StrRef → List ℕ → Option ℕ → Value
field_at l s w (Some i) = look_up (body_at l.tables i) s w
field_at l s w None = Nil

unfoldable pub field_named : Lay → TableRef → StrRef → List ℕ → Value
field_named l t s w = field_at l s w (named l.tables t.0 t.1 w)

unfoldable pub field : Lay → TableRef → Option StrRef → List ℕ → Value
field l t (Some s) w = field_named l t s w
field l t None w = Nil

abbrev pub strong : Mode
strong = record { keys = false; values = false }

-- Weak in either way, and in both.
abbrev pub is_weak : Mode → Bool
is_weak m = cond m.keys true m.values

abbrev pub is_both : Mode → Bool
is_both m = cond m.keys m.values false

-- `k` is byte 107, `v` byte 118.
abbrev pub mode_of_text : List ℕ → Mode
mode_of_text t = record { keys = has_byte t 107; values = has_byte t 118 }

abbrev pub mode_of_slot : Lay → List ℕ → List ℕ → Option ℕ → Mode
mode_of_slot l w b (Some i) = mode_of_text (text_of i (string_length (body_at l.strings i) w) b)
mode_of_slot l w b None = strong

unfoldable pub mode_of_string : Lay → StrRef → List ℕ → List ℕ → Mode
mode_of_string l s w b = mode_of_slot l w b (named l.strings s.0 s.1 w)

unfoldable pub mode_of_value : Lay → Value → List ℕ → List ℕ → Mode
mode_of_value l Nil w b = strong
mode_of_value l (Boolean x) w b = strong
mode_of_value l (Light x) w b = strong
mode_of_value l (Number x) w b = strong
mode_of_value l (Str s) w b = mode_of_string l s w b
mode_of_value l (Table r) w b = strong
mode_of_value l (Function r) w b = strong
mode_of_value l (Userdata r) w b = strong
mode_of_value l (Thread r) w b = strong

-- The mode that a metatable gives, if there is one.
unfoldable pub weak_mode : Lay → Option TableRef → List ℕ → List ℕ → Mode
weak_mode l (Some t) w b = mode_of_value l (field l t (mode_name w) w) w b
weak_mode l None w b = strong

-- The `__gc` that a metatable gives now, nil where there is none.
unfoldable pub gc_method : Lay → Option TableRef → List ℕ → Value
gc_method l (Some t) w = field l t (gc_name w) w
gc_method l None w = Nil
