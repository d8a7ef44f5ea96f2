-- `accounts::limited` meets its contract: by cases of the answer. Assumes nothing.
use Rattle.std.specs.Prelude.{Ok}
use mathlib.Core.Path.{◌≡◌, refl, ◌∙◌}
use mathlib.Core.List.{List}
use Prim.Native.Nat.{ℕ}
use Rattle.accounts.specs.declared.Answer.{Answer}
use Rattle.accounts.specs.declared.Answer.TheVariants.{Stepped, Unfinished, Ended, Passed, Handed, Busy, Failed}
use Rattle.accounts.specs.Accounts.{within_limit, limited}
use Rattle.value.specs.declared.UdRef.{UdRef}
use Rattle.value.specs.declared.Value.{Value}
use Rattle.accounts.proofs.limited.Goals as goal

-- an answer that hands nothing out
over : (w : List ℕ) (a : Answer) → ((x : UdRef) → (y : Value) → a ≡ Handed x y → ⊥) → within_limit w ≡ limited w (Ok a)
unfolding limited
over w (Stepped c) _ = refl
over w Unfinished _ = refl
over w Ended _ = refl
over w Passed _ = refl
over w (Handed r v) k0 = absurd (k0 r v refl)
over w Busy _ = refl
over w Failed _ = refl

pub returns-in-Handed : goal.returns-in-Handed
unfolding limited
returns-in-Handed c = rw (c.in-Ok.is, c.in-Handed.is)

pub returns-in_default : goal.returns-in_default
returns-in_default c = rw c.in-Ok.is (c.within_limit.ensures ∙ over _ _ c.in_default.not-Handed)

pub returns-in-Err : goal.returns-in-Err
unfolding limited
returns-in-Err c = rw c.in-Err.is c.within_limit-in-Err.ensures
