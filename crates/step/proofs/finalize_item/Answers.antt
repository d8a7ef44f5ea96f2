-- `step::finalize_item` meets its contract: the callees' equations joined. Assumes nothing.
use mathlib.Core.Path.{◌≡◌, refl}
use mathlib.Core.List.{List}
use Prim.Native.Nat.{ℕ}
use native.Mathlib.Omega.{arith}
use Rattle.layout.specs.declared.Lay.{Lay}
use Rattle.lists.specs.declared.Item.{Item}
use Rattle.lists.specs.declared.Item.TheVariants.{Table, Function, Userdata, Thread, Main, Unknown}
use Rattle.step.specs.declared.Single.TheVariants.{Cost}
use Rattle.step.specs.Step.{finalize_item}
use Rattle.std.proofs.Common.{refl, ◌≡◌, ℕ}
use Rattle.value.specs.declared.UdRef.{UdRef}
use Rattle.step.proofs.finalize_item.Goals as goal

-- an item that is no userdata is taken out at cost 0
passed : (l : Lay) (x : Item) (w : List ℕ) → ((y : UdRef) → x ≡ Userdata y → ⊥) → (Cost 0, w) ≡ finalize_item l x w
unfolding finalize_item
passed l (Table r) w _ = refl
passed l (Function r) w _ = refl
passed l (Userdata r) w k0 = absurd (k0 r refl)
passed l (Thread r) w _ = refl
passed l Main w _ = refl
passed l Unknown w _ = refl

pub returns-in-Userdata : goal.returns-in-Userdata
unfolding finalize_item
returns-in-Userdata c = (rw c.in-Userdata.is c.finalize.ensures.0, c.finalize.ensures.1)

pub returns-in_default : goal.returns-in_default
returns-in_default c = (passed _ _ _ c.in_default.not-Userdata, omega arith)
