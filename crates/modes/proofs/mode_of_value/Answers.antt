-- `modes::mode_of_value` meets its contract: by the kind of value, a string's mode from its callee. Assumes nothing.
use mathlib.Core.Path.{◌≡◌, refl}
use mathlib.Core.List.{List}
use Prim.Native.Nat.{ℕ}
use Rattle.layout.specs.declared.Lay.{Lay}
use Rattle.value.specs.declared.Value.{Value}
use Rattle.value.specs.declared.Value.TheVariants.{Nil, Boolean, Light, Number, Str, Table, Function, Userdata, Thread}
use Rattle.modes.specs.Modes.{strong, mode_of_value}
use Rattle.std.proofs.Common.{refl, ◌≡◌, ℕ}
use Rattle.value.specs.declared.StrRef.{StrRef}
use Rattle.modes.proofs.mode_of_value.Goals as goal

-- only a string has a mode
inert : (l : Lay) (v : Value) (w b : List ℕ) → ((x : StrRef) → v ≡ Str x → ⊥) → strong ≡ mode_of_value l v w b
unfolding mode_of_value
inert l Nil w b _ = refl
inert l (Boolean x) w b _ = refl
inert l (Light x) w b _ = refl
inert l (Number x) w b _ = refl
inert l (Str s) w b k0 = absurd (k0 s refl)
inert l (Table r) w b _ = refl
inert l (Function r) w b _ = refl
inert l (Userdata r) w b _ = refl
inert l (Thread r) w b _ = refl

pub returns-in-Str : goal.returns-in-Str
unfolding mode_of_value
returns-in-Str c = rw c.in-Str.is c.mode_of_string.ensures

pub returns-in_default : goal.returns-in_default
returns-in_default c = inert _ _ _ _ c.in_default.not-Str
