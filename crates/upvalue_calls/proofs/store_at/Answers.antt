-- `upvalue_calls::store_at` meets its contract: each way by its test. Assumes nothing.
use Rattle.std.specs.Prelude.{true, false, cond, Bool, List, ℕ, Err, Result}
use mathlib.Core.Bool.{not, beq}
use mathlib.Core.Path.{◌≡◌, refl}
use Rattle.base.specs.declared.Refusal.{Refusal}
use Rattle.base.specs.declared.Refusal.TheVariants.{WrongState}
use Rattle.value.specs.declared.UpvalRef.{UpvalRef}
use Rattle.value.specs.declared.Value.{Value}
use Rattle.layout.specs.declared.Lay.{Lay}
use Rattle.run_record.specs.Upvalues.{is_closed}
use Rattle.upvalue_calls.specs.UpvalueCalls.{store_closed, store_at, close_at, set_at}
use Rattle.upvalue_calls.proofs.store_at.Goals as goal

-- a state that is not the one asked for
when_closed : (x : Bool) (a b : Result Unit Refusal × List ℕ) → cond (not (beq x false)) a b ≡ cond x a b
when_closed true a b = refl
when_closed false a b = refl

when_open : (x : Bool) (a b : Result Unit Refusal × List ℕ) → cond (not (beq x true)) a b ≡ cond x b a
when_open true a b = refl
when_open false a b = refl

-- either call, by the state
by_state : (k : Bool) (l : Lay) (u : UpvalRef) (v : Value) (p : ℕ) (w : List ℕ) → cond (not (beq (is_closed p w) k)) (Err WrongState, w) (store_closed l u v p w) ≡ store_at k l u v p w
unfolding close_at set_at
by_state false l u v p w = when_closed (is_closed p w) _ _
by_state true l u v p w = when_open (is_closed p w) _ _

pub returns-then-is_closed-closed : goal.returns-then-is_closed-closed
returns-then-is_closed-closed c = rw (← by_state, ← c.is_closed.ensures, c.if-is_closed-closed.true)

pub returns : goal.returns
returns c = rw (← by_state, ← c.is_closed.ensures, c.if-is_closed-closed.false) c.store_closed.ensures
