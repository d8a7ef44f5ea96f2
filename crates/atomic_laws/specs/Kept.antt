-- Document 01, 'The atomic phase': what it keeps beside what the roots reach. All is read from the words w and the bytes b of one
-- heap, before the collection. Assumes nothing: these are definitions.
use Rattle.std.specs.Prelude.{◌≡◌, true, false, cond, ◌⊎◌, ℕ}
use mathlib.Core.List.{List, [], ◌∷◌, ◌++◌, Memᴰ}
use Rattle.value.specs.declared.TableRef.{TableRef}
use Rattle.value.specs.declared.Value.{Value}
use Rattle.value.specs.declared.Value.TheVariants.{Nil, Boolean, Light, Number, Str, Table, Function, Userdata, Thread}
use Rattle.value.specs.Values.{is_nil}
use Rattle.layout.specs.declared.Lay.{Lay}
use Rattle.record.specs.Fields.{body_at}
use Rattle.record.specs.Tables.{table_meta, array_size, node_count, array_value, node_key, node_value}
use Rattle.record.specs.Userdata.{ud_meta, ud_finalized}
use Rattle.mark.specs.Ops.{Ref, str, tab}
use Rattle.modes.specs.Modes.{is_weak, weak_mode, gc_method}
use Rattle.links.specs.Links.{each}
use Rattle.reach.specs.Reached.{Reach, Occupied, Link, Root, Reached}

-- Userdata still white, not finalized, whose metatable has a non-nil `__gc`, are due. (White then is not reached.)
pub record Due (l : Lay) (w b : List ℕ) (r : Ref) : Type 0 where
  pub userdata : r.kind ≡ 4
  pub occupied : Occupied l w r
  pub unfinalized : ud_finalized (body_at l.userdata r.at) w ≡ false
  pub method : is_nil (gc_method l (ud_meta (body_at l.userdata r.at) w) w) ≡ false
  pub unreached : Reached l w b r → ⊥

-- They and what they reach are marked: kept is what a root or a due userdata reaches.
abbrev pub KeptRoot : Lay → List ℕ → List ℕ → Ref → Type 0
KeptRoot l w b r = Root l w b r ⊎ Due l w b r

abbrev pub Kept : Lay → List ℕ → List ℕ → Ref → Type 0
Kept l w b r = Reach (Link l w b) (KeptRoot l w b) (Occupied l w) r

-- Every string in the array, or as key or value of a node with non-nil key, ..
abbrev pub string_in : Value → List Ref
string_in (Str s) = str s ∷ []
string_in Nil = []
string_in (Boolean x) = []
string_in (Light x) = []
string_in (Number x) = []
string_in (Table r) = []
string_in (Function r) = []
string_in (Userdata r) = []
string_in (Thread r) = []

abbrev pub node_strings : ℕ → List ℕ → ℕ → List Ref
node_strings p w j = cond (is_nil (node_key p j w)) [] (string_in (node_key p j w) ++ string_in (node_value p j w))

unfoldable pub table_strings : ℕ → List ℕ → List Ref
table_strings p w = each (λ i. string_in (array_value p i w)) (array_size p w) 0 ++ each (node_strings p w) (node_count p w) 0

-- .. of each listed weak table is spared: of each that is kept.
abbrev pub is_weak_table : Lay → List ℕ → List ℕ → TableRef → Type 0
is_weak_table l w b t = is_weak (weak_mode l (table_meta (body_at l.tables t.0) w) w b) ≡ true

pub record Spared (l : Lay) (w b : List ℕ) (r : Ref) : Type 0 where
  pub table : TableRef
  pub kept : Kept l w b (tab table)
  pub weak : is_weak_table l w b table
  pub inside : Memᴰ r (table_strings (body_at l.tables table.0) w)
  pub occupied : Occupied l w r
