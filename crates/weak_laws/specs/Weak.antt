-- Weak tables against the manual: what the atomic phase does to the entries of a table that is retained. An entry goes exactly if the
-- manual removes it for a key or a value that is no string, or if values are weak and its value is a userdata that was finalized or is to
-- be finalized. Its key stays in its place, and every other entry stays as it was. That it does so is proved in proofs/Weak.antt.
--     place_of, Lost, Ended, Cleared     the definitions
use Rattle.std.specs.Prelude.{◌≡◌, ◌⊎◌, ◌↔◌, ◌≢◌}
use Rattle.std.proofs.Math.Bool.{true, false}
use mathlib.Core.List.{List, Memᴰ}
use Prim.Native.Nat.{ℕ, ◌+◌, ◌<◌}
use Rattle.value.specs.Values.{is_nil, value_at}
use Rattle.layout.specs.declared.Lay.{Lay}
use Rattle.record.specs.Tables.{node_count, array_place, node_place, node_key}
use Rattle.mark.specs.Ops.{Ref}
use Rattle.manual.specs.Manual.{WeakValues, Removed, ToFinalize, Retained}
use Rattle.manual.specs.Instance.{Object, EntryOf, EntryOf-array, EntryOf-node, values_links, in_tables, FinalizedIs, heap}

module _ (l : Lay) (w b : List ℕ) where
  -- Where an entry's value stands.
  abbrev pub place_of : (r : Ref) → EntryOf l w b r → ℕ
  place_of r (EntryOf-array k i f n) = array_place (in_tables l w b r) i
  place_of r (EntryOf-node k j f m n) = node_place (in_tables l w b r) j w + 3

  -- The manual removes it, for a key or a value that is no string: strings count as values, and are kept.
  abbrev pub Lost : (x : Object l w b) → EntryOf l w b x.0 → Type 0
  Lost x e = (m : Removed (heap l w b) x e) × (m.lost.0.kind ≢ 0)

  -- Values are weak and its value is a userdata that was finalized, or is to be finalized now: the source removes it, although the
  -- manual does not as long as the userdata is not collected. As a key such a userdata stays.
  abbrev pub Ended : (x : Object l w b) → EntryOf l w b x.0 → Type 0
  Ended x e = WeakValues (heap l w b) x × ((v : Object l w b) × Memᴰ v.0 (values_links l w b x.0 e) × (v.0.kind ≡ 4) × (FinalizedIs l w b v.0 ⊎ ToFinalize (heap l w b) v))

  -- What the atomic phase leaves of the entries of a retained table, in the words h.
  pub record Cleared (h : List ℕ) : Type 0 where
    -- an entry is gone exactly then
    pub gone : (x : Object l w b) → Retained (heap l w b) x → (e : EntryOf l w b x.0) → (is_nil (value_at h (place_of x.0 e)) ≡ true) ↔ (Lost x e ⊎ Ended x e)
    -- else it stays as it was
    pub stays : (x : Object l w b) (e : EntryOf l w b x.0) → is_nil (value_at h (place_of x.0 e)) ≡ false → value_at h (place_of x.0 e) ≡ value_at w (place_of x.0 e)
    -- a node keeps its key, also where it loses its value
    pub key : (x : Object l w b) → x.0.kind ≡ 1 → (j : ℕ) → j < node_count (in_tables l w b x.0) w
        → value_at h (node_place (in_tables l w b x.0) j w) ≡ node_key (in_tables l w b x.0) j w
