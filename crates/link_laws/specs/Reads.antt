-- All that links, weak modes and `__gc` methods are read from: words that agree there have the same. The finalized mark of a
-- userdata, its creation number and the error value of a thread are not among them. Assumes nothing.
--     Reads                     the two words agree on what is read
--     named_below               a handle names a slot below the slots
--     weak_mode_same, gc_method_same     the mode and the method that a metatable gives
--     links_same                the links of a slot
use Rattle.std.specs.Prelude.{◌≡◌, Bool, true, false, leb, eqb, Some, None, Option}
use Rattle.std.proofs.Math.Path.{refl, ap}
use Rattle.std.proofs.Common.{◌∙◌, arith, leb-false}
use Rattle.std.proofs.Math.Bool.{cond}
use mathlib.Core.List.{List, ◌++◌}
use Prim.Native.Nat.{ℕ, zero, suc, ◌+◌, ◌*◌, ◌≤◌, ◌<◌}
use Rattle.base.specs.Ways.{if_le, if_eq}
use Rattle.base.specs.Words.{at, bounded}
use Rattle.arena.specs.declared.Arena.{Arena}
use Rattle.arena.specs.Slots.{used, gen, colour, named, Within}
use Rattle.value.specs.declared.StrRef.{StrRef}
use Rattle.value.specs.declared.TableRef.{TableRef}
use Rattle.value.specs.declared.Value.{Value}
use Rattle.value.specs.declared.Value.TheVariants.{Nil, Boolean, Light, Number, Str, Table, Function, Userdata, Thread}
use Rattle.value.specs.Values.{key_equal}
use Rattle.layout.specs.declared.Lay.{Lay}
use Rattle.layout.specs.Places.{NAME_MODE, NAME_GC}
use Rattle.record.specs.Fields.{body_at}
use Rattle.record.specs.Strings.{text_of}
use Rattle.record.specs.Tables.{table_meta, node_count, node_key, node_value}
use Rattle.main_record.specs.Main.{mode_name, gc_name}
use Rattle.mark.specs.Ops.{Ref}
use Rattle.mark.specs.Words.{arena_of}
use Rattle.modes.specs.declared.Mode.{Mode}
use Rattle.modes.specs.Modes.{look_from, field_at, field_named, field, mode_of_text, mode_of_slot, mode_of_string, mode_of_value, weak_mode, gc_method}
use Rattle.links.specs.Links.{table_link, entry_links, table_links, links}
use Rattle.link_laws.specs.Agrees.{Agree, str_same, table_same, nodes_most, nodes_same, key_same, node_value_same, upvalue_same, userdata_same, thread_same, entries_same, closure_same}

-- The words u are as w wherever links, modes and methods are read: the first 52 words; the prototypes; the records, of a
-- userdata the first four words; and strings and tables are named by the same handles.
pub record Reads (l : Lay) (w u : List ℕ) : Type 0 where
  pub header : Agree w u 0 52
  pub protos : Agree w u l.protos.base (59 * l.protos.room)
  pub strings : (i : ℕ) → i < l.strings.slots → Agree w u (body_at l.strings i) 1
  pub tables : (i : ℕ) → i < l.tables.slots → Agree w u (body_at l.tables i) 580
  pub functions : (i : ℕ) → i < l.functions.slots → Agree w u (body_at l.functions i) 53
  pub upvalues : (i : ℕ) → i < l.upvalues.slots → Agree w u (body_at l.upvalues i) 4
  pub userdata : (i : ℕ) → i < l.userdata.slots → Agree w u (body_at l.userdata i) 4
  pub threads : (i : ℕ) → i < l.threads.slots → Agree w u (body_at l.threads i) 268
  pub string_names : (i g : ℕ) → named l.strings i g u ≡ named l.strings i g w
  pub table_names_lem : (i g : ℕ) → named l.tables i g u ≡ named l.tables i g w

-- A handle names a slot below the slots.
pub named_below : (a : Arena) (i g : ℕ) (w : List ℕ) → Within (named a i g w) a.slots
unfolding named if_le if_eq
named_below a i g w = go (leb (used a w) i) refl (eqb (gen a i w) g) (eqb (colour a i w) 0)
  where
    go : (x : Bool) → leb (used a w) i ≡ x → (y z : Bool) → Within (cond x None (cond y (cond z None (Some i)) None)) a.slots
    go true e y z = tt
    go false e true true = tt
    go false e true false = omega (arith, leb-false (used a w) i e)
    go false e false z = tt

module _ {l : Lay} {w u : List ℕ} (s : Reads l w u) where
  -- a name looked up in a table
  look_same : (n j p : ℕ) (t : StrRef) → j + n ≤ 64 → Agree w u p 580 → look_from n j p t u ≡ look_from n j p t w
  unfolding look_from
  look_same zero j p t h g = refl
  look_same (suc n) j p t h g =
      ap (λ (k : Value). cond (key_equal k (Str t)) (node_value p j u) (look_from n (j + 1) p t u)) (key_same g j (omega (arith, h)))
      ∙ ap (λ (v : Value). cond (key_equal (node_key p j w) (Str t)) v (look_from n (j + 1) p t u)) (node_value_same g j (omega (arith, h)))
      ∙ ap (λ (v : Value). cond (key_equal (node_key p j w) (Str t)) (node_value p j w) v) (look_same n (j + 1) p t (omega (arith, h)) g)

  field_named_same : (t : TableRef) (x : StrRef) → field_named l t x u ≡ field_named l t x w
  unfolding field_named
  field_named_same t x = ap (field_at l x u) (s.table_names_lem t.0 t.1) ∙ go (named l.tables t.0 t.1 w) (named_below l.tables t.0 t.1 w)
    where
      go : (n : Option ℕ) → Within n l.tables.slots → field_at l x u n ≡ field_at l x w n
      go (Some i) h =
          ap (λ (n : ℕ). look_from n 0 (body_at l.tables i) x u) (nodes_same (s.tables i h))
          ∙ look_same (node_count (body_at l.tables i) w) 0 (body_at l.tables i) x (omega (arith, nodes_most (at w (body_at l.tables i + 3)))) (s.tables i h)
      go None h = refl

  field_same : (t : TableRef) (x : Option StrRef) → field l t x u ≡ field l t x w
  unfolding field
  field_same t (Some x) = field_named_same t x
  field_same t None = refl

  -- The `__gc` method that a metatable gives.
  pub gc_method_same : (t : Option TableRef) → gc_method l t u ≡ gc_method l t w
  unfolding gc_method
  gc_method_same None = refl
  gc_method_same (Some t) =
      ap (λ (x : Option StrRef). field l t x u) (str_same s.header NAME_GC (omega arith) (omega arith))
      ∙ field_same t (gc_name w)

  module _ (b : List ℕ) where
    string_mode_same : (x : StrRef) → mode_of_string l x u b ≡ mode_of_string l x w b
    unfolding mode_of_string
    string_mode_same x = ap (mode_of_slot l u b) (s.string_names x.0 x.1) ∙ go (named l.strings x.0 x.1 w) (named_below l.strings x.0 x.1 w)
      where
        go : (n : Option ℕ) → Within n l.strings.slots → mode_of_slot l u b n ≡ mode_of_slot l w b n
        go (Some i) h = ap (λ (k : ℕ). mode_of_text (text_of i (bounded k 64) b)) ((s.strings i h).word (body_at l.strings i) (omega arith) (omega arith))
        go None h = refl

    value_mode_same : (v : Value) → mode_of_value l v u b ≡ mode_of_value l v w b
    unfolding mode_of_value
    value_mode_same Nil = refl
    value_mode_same (Boolean x) = refl
    value_mode_same (Light x) = refl
    value_mode_same (Number x) = refl
    value_mode_same (Str x) = string_mode_same x
    value_mode_same (Table r) = refl
    value_mode_same (Function r) = refl
    value_mode_same (Userdata r) = refl
    value_mode_same (Thread r) = refl

    -- The mode that a metatable gives.
    pub weak_mode_same : (t : Option TableRef) → weak_mode l t u b ≡ weak_mode l t w b
    unfolding weak_mode
    weak_mode_same None = refl
    weak_mode_same (Some t) =
        ap (λ (x : Option StrRef). mode_of_value l (field l t x u) u b) (str_same s.header NAME_MODE (omega arith) (omega arith))
        ∙ ap (λ (v : Value). mode_of_value l v u b) (field_same t (mode_name w))
        ∙ value_mode_same (field l t (mode_name w) w)

    -- The links of a table,
    pub table_links_same : (i : ℕ) → i < l.tables.slots → table_links u l b (body_at l.tables i) ≡ table_links w l b (body_at l.tables i)
    unfolding table_links
    table_links_same i h =
        ap (λ (t : Option TableRef). table_link t ++ entry_links u (weak_mode l t u b) p) (table_same (s.tables i h) p (omega arith) (omega arith))
        ∙ ap (λ (m : Mode). table_link (table_meta p w) ++ entry_links u m p) (weak_mode_same (table_meta p w))
        ∙ ap (λ (x : List Ref). table_link (table_meta p w) ++ x) (entries_same (s.tables i h) (weak_mode l (table_meta p w) w b))
      where
        p : ℕ
        p = body_at l.tables i

    -- and of any slot.
    pub links_same : (r : Ref) → r.at < (arena_of l r.kind).slots → links u l b r ≡ links w l b r
    unfolding links if_eq
    links_same r h = go r.kind h
      where
        go : (k : ℕ) → r.at < (arena_of l k).slots → links u l b (record { kind = k; at = r.at; gen = r.gen }) ≡ links w l b (record { kind = k; at = r.at; gen = r.gen })
        go zero h = refl
        go (suc zero) h = table_links_same r.at h
        go (suc (suc zero)) h = closure_same l s.header s.protos (body_at l.functions r.at) (s.functions r.at h)
        go (suc (suc (suc zero))) h = upvalue_same (s.upvalues r.at h)
        go (suc (suc (suc (suc zero)))) h = userdata_same (s.userdata r.at h)
        go (suc (suc (suc (suc (suc zero))))) h = thread_same (s.threads r.at h)
        go (suc (suc (suc (suc (suc (suc k)))))) h = absurd (let z : ⊥ = omega (arith, h) in z)
