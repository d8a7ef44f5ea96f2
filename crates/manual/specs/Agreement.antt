-- In what the heap at the words agrees with the manual, and each place where it differs or the manual leaves it open, as one
-- clause each. Assumes nothing.
use Rattle.std.specs.Prelude.{◌≡◌, ◌⊎◌, ◌↔◌, ℕ, ◌+◌, ◌≤◌, ◌<◌}
use Rattle.std.proofs.Math.Bool.{true, false}
use mathlib.Core.List.{List, [], Memᴰ}
use Rattle.value.specs.Values.{is_nil}
use Rattle.layout.specs.declared.Lay.{Lay}
use Rattle.record.specs.Tables.{node_value}
use Rattle.run_record.specs.Upvalues.{is_closed}
use Rattle.main_record.specs.Main.{main_ci, main_value, frame_function}
use Rattle.mark.specs.Ops.{Ref}
use Rattle.modes.specs.declared.Mode.{Mode}
use Rattle.links.specs.Links.{value_links, node_links}
use Rattle.link_laws.specs.Agrees.{Agree}
use Rattle.reach.specs.Reached.{Reached}
use Rattle.atomic_laws.specs.Kept.{Due, Kept, Spared}
use Rattle.manual.specs.Manual.{WeakTable, Strong, Accessible, ToFinalize, Retained}
use Rattle.manual.specs.Instance.{Object, Refers, EntryOf, key_links, values_links, in_upvalues, in_threads, heap}

pub record Agreement (l : Lay) (w b : List ℕ) : Type 0 where
  -- They agree in what is accessible, what is to be finalized, and what a cycle does not collect.
  pub accessible : (x : Object l w b) → Accessible (heap l w b) x ↔ Reached l w b x.0
  pub to_finalize : (x : Object l w b) → ToFinalize (heap l w b) x ↔ Due l w b x.0
  pub retained : (x : Object l w b) → Retained (heap l w b) x ↔ Kept l w b x.0
  -- A node whose value is nil keeps a key, which is not followed.
  pub nil_node : (m : Mode) (p j : ℕ) → is_nil (node_value p j w) ≡ true → node_links w m p j ≡ []
  -- An open upvalue refers to nothing, although its record has a value.
  pub open_upvalue : (x y : Object l w b) → x.0.kind ≡ 3 → is_closed (in_upvalues l w b x.0) w ≡ false → Strong (heap l w b) x y → ⊥
  -- A thread's error value, words 5 to 7 of its record, is not followed: whatever stands there, the references are the same.
  pub error_value : (u : List ℕ) (r q : Ref) → r.kind ≡ 5 → Agree w u (in_threads l w b r) 5 → Agree w u (in_threads l w b r + 8) 260 → Refers l w b r q → Refers l u b r q
  -- The function of each frame up to `ci` is accessible, also above top.
  pub frame_function_lem : (x : Object l w b) (i : ℕ) → i ≤ main_ci l w → frame_function l i w < l.stack.room → Memᴰ x.0 (value_links (main_value l (frame_function l i w) w)) → Accessible (heap l w b) x
  -- A string in an entry of a weak table is a value: it is spared, also where the manual collects it. Nothing else is spared.
  pub string_spared : (x y : Object l w b) (e : EntryOf l w b x.0) → Retained (heap l w b) x → WeakTable (heap l w b) x → y.0.kind ≡ 0
      → Memᴰ y.0 (key_links l w b x.0 e) ⊎ Memᴰ y.0 (values_links l w b x.0 e) → Spared l w b y.0
  pub only_strings : (r : Ref) → Spared l w b r → r.kind ≡ 0
