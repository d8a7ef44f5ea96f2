-- What the Lua 5.1 Reference Manual promises of garbage collection (2.10, 2.10.1, 2.10.2), in our own words and over any heap:
-- nothing here speaks of slots, colours or phases. One definition for each rule. Assumes nothing: these are definitions.
use mathlib.Core.List.{List, [], ◌∷◌, Memᴰ}
use Rattle.std.specs.Prelude.{◌⊎◌, ◌↔◌, ℕ, ◌<◌}

-- A heap as far as the manual speaks of it.
pub record Heap : Type 1 where
  pub Object : Type 0  -- what is made and can be collected: tables, userdata, functions, threads, strings ..
  pub Root : Object → Type 0  -- a program has it at hand: globals, registry, stack of the main thread ..
  pub Refers : Object → Object → Type 0  -- any reference but those of a table's entries: metatable, environment, upvalue, stack ..
  pub Entry : Object → Type 0  -- the entries of a table, pairs of key and value; what is no table has none
  pub Key : (t : Object) → Entry t → Object → Type 0  -- the entry's key is that object (a number, say, is none)
  pub Value : (t : Object) → Entry t → Object → Type 0  -- the entry's value is that object
  pub Mode : Object → List ℕ → Type 0  -- its metatable has a field `__mode`, a string of these characters
  pub Userdata : Object → Type 0  -- it is a full userdata
  pub Gc : Object → Type 0  -- its metatable has a field `__gc`
  pub Finalized : Object → Type 0  -- it was put on the list of those to finalize in an earlier cycle
  pub created : Object → ℕ  -- of two userdata the one created later has the greater number

module _ (h : Heap) where
  -- 2.10.2: a table's keys are weak if its `__mode` has the character `k`, its values if it has `v` (107 and 118).
  abbrev pub WeakKeys : h.Object → Type 0
  WeakKeys t = (s : List ℕ) × h.Mode t s × Memᴰ 107 s

  abbrev pub WeakValues : h.Object → Type 0
  WeakValues t = (s : List ℕ) × h.Mode t s × Memᴰ 118 s

  abbrev pub WeakTable : h.Object → Type 0
  WeakTable t = WeakKeys t ⊎ WeakValues t

  -- 2.10.2: the collector passes over weak references: a table with weak keys refers weakly to its keys, one with weak
  -- values to its values. All other references are strong.
  pub data Strong (x y : h.Object) : Type 0 where
    Strong-other : h.Refers x y → Strong x y
    Strong-key : (e : h.Entry x) → h.Key x e y → (WeakKeys x → ⊥) → Strong x y
    Strong-value : (e : h.Entry x) → h.Value x e y → (WeakValues x → ⊥) → Strong x y

  -- what a chain of strong references leads to, of any length, zero too
  pub data From (R : h.Object → Type 0) : h.Object → Type 0 where
    From-start : {x : h.Object} → R x → From R x
    From-step : {x y : h.Object} → From R x → Strong x y → From R y

  -- 2.10: an object is dead once the program has no way to it any more; weak references (2.10.2) are no way.
  abbrev pub Accessible : h.Object → Type 0
  Accessible x = From h.Root x

  abbrev pub Collectable : h.Object → Type 0
  Collectable x = Accessible x → ⊥

  -- 2.10.1: a dead userdata whose metatable has `__gc` is not collected in this cycle but put on a list, to be finalized;
  -- once only, since it is freed in a later cycle.
  pub record ToFinalize (x : h.Object) : Type 0 where
    pub userdata : h.Userdata x
    pub method : h.Gc x
    pub first : h.Finalized x → ⊥
    pub dead : Collectable x

  -- 2.10.1: its finalizer is given the userdata, and with it what that refers to. So this is what a cycle does not collect,
  abbrev pub Retained : h.Object → Type 0
  Retained x = From (λ y. h.Root y ⊎ ToFinalize y) x

  -- 2.10: and this is what it collects.
  abbrev pub Collected : h.Object → Type 0
  Collected x = Retained x → ⊥

  -- 2.10.2: an entry of a weak table goes, key and value, if either of them is collected.
  pub record Removed (t : h.Object) (e : h.Entry t) : Type 0 where
    pub weak : WeakTable t
    pub lost : h.Object
    pub part : h.Key t e lost ⊎ h.Value t e lost
    pub collected : Collected lost

  -- 2.10.1: the finalizers of one cycle are called for those on the list, the one created last first.
  pub data LastFirst : List h.Object → Type 0 where
    LastFirst-none : LastFirst []
    LastFirst-next : {x : h.Object} {xs : List h.Object} → ((y : h.Object) → Memᴰ y xs → h.created y < h.created x) → LastFirst xs → LastFirst (x ∷ xs)

  pub record Calls (xs : List h.Object) : Type 0 where
    pub those : (x : h.Object) → Memᴰ x xs ↔ ToFinalize x
    pub order : LastFirst xs

  -- 2.10.1: a userdata that was finalized is freed in a later cycle: as any object then is, whatever its metatable holds.
  abbrev pub FreedLater : h.Object → Type 0
  FreedLater x = h.Userdata x × h.Finalized x × Collected x
