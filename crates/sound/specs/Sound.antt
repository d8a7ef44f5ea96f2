-- Document 01, row 2, of many at once: a handle given, or a constant of a prototype (nested ones too), names an occupied slot
-- of its kind. Assumes nothing.
use Rattle.std.specs.Prelude.{◌≡◌, Bool, true, false, cond, List, ◌⊎◌, ℕ, zero, suc, ◌+◌, ◌*◌, ◌≤◌, ◌<◌}
use Rattle.base.specs.Ways.{if_lt, if_eq}
use Rattle.base.specs.Words.{at}
use Rattle.value.specs.Values.{value_at}
use Rattle.layout.specs.declared.Lay.{Lay}
use Rattle.record.specs.Fields.{upval_at}
use Rattle.main_record.specs.Prototypes.{proto_at, proto_constants, proto_nested, proto_child}
use Rattle.given.specs.Given.{is_upvalue, is_sound}
use Rattle.making.specs.Turns.{each}

-- Each of n values of the list s, three words each from p on.
unfoldable pub sound_at : Lay → List ℕ → ℕ → List ℕ → ℕ → Bool
sound_at l s p w k = is_sound l (value_at s (p + 3 * k)) w

unfoldable pub are_sound : Lay → List ℕ → ℕ → ℕ → List ℕ → Bool
are_sound l s p n w = each (sound_at l s p w) n

-- Each of n handles of upvalues, two words each.
unfoldable pub upvalue_at : Lay → List ℕ → List ℕ → ℕ → Bool
upvalue_at l s w k = is_upvalue l (upval_at s (2 * k)) w

unfoldable pub are_upvalues : Lay → List ℕ → ℕ → List ℕ → Bool
are_upvalues l s n w = each (upvalue_at l s w) n

module _ (l : Lay) (w : List ℕ) where
  unfoldable pub constants_sound : ℕ → Bool
  constants_sound n = are_sound l w (proto_at l n + 3) (proto_constants l n w) w

  -- the j-th prototype nested in n, by `sound`; a number not below its parent's is skipped
  unfoldable pub child_sound : (ℕ → Bool) → ℕ → ℕ → Bool
  child_sound sound n j = if_lt (proto_child l n j w) n (sound (proto_child l n j w)) true

  -- prototype n, its nested ones by `sound`
  unfoldable pub sound_by : (ℕ → Bool) → ℕ → Bool
  sound_by sound n = cond (constants_sound n) (each (child_sound sound n) (proto_nested l n w)) false

  -- prototype n, if its number is below b
  unfoldable pub sound_below : ℕ → ℕ → Bool
  sound_below zero n = true
  sound_below (suc b) n = if_eq n b (sound_by (sound_below b) n) (sound_below b n)

  -- The constants of prototype n and of all nested ones.
  unfoldable pub sound_proto : ℕ → Bool
  sound_proto n = sound_below (suc n) n

  -- what was seen up to number n is sound
  unfoldable pub Known : List ℕ → ℕ → Type 0
  Known seen n = (q : ℕ) → q ≤ n → 0 < at seen q → sound_proto q ≡ true

  -- what is newly seen is sound; so it is where the answer is yes
  unfoldable pub Added : List ℕ → List ℕ → Type 0
  Added seen seen' = (q : ℕ) → 0 < at seen' q → (0 < at seen q) ⊎ (sound_proto q ≡ true)

  unfoldable pub Grown : Bool → List ℕ → List ℕ → Type 0
  Grown r seen seen' = r ≡ true → Added seen seen'
