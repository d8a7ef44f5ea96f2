-- `node_calls::is_nan_key` meets its contract: by the cases of a value. Assumes nothing.
use mathlib.Core.Bool.{false}
use mathlib.Core.Path.{◌≡◌, refl}
use Rattle.value.specs.declared.Value.TheVariants.{Boolean, Function, Light, Nil, Number, Str, Table, Thread, Userdata}
use Rattle.value.specs.declared.Value.{Value}
use Rattle.node_calls.specs.NodeCalls.{is_nan_key}
use Rattle.std.proofs.Common.{refl, ◌≡◌, ℕ}
use Rattle.node_calls.proofs.is_nan_key.Goals as goal

-- only a number is NaN
inert : (k : Value) → ((x : ℕ) → k ≡ Number x → ⊥) → false ≡ is_nan_key k
unfolding is_nan_key
inert Nil m = refl
inert (Boolean x) m = refl
inert (Light x) m = refl
inert (Number x) m = absurd (m x refl)
inert (Str r) m = refl
inert (Table r) m = refl
inert (Function r) m = refl
inert (Userdata r) m = refl
inert (Thread r) m = refl

pub returns-in-Number : goal.returns-in-Number
unfolding is_nan_key
returns-in-Number c = rw c.in-Number.is c.is_nan.ensures

pub returns-in_default : goal.returns-in_default
returns-in_default c = inert _ c.in_default.not-Number
