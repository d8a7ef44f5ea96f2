-- `atomic::again_item` meets its contract: an item that is no thread is traversed as in propagation. Assumes nothing.
use mathlib.Core.List.{List}
use mathlib.Core.Path.{◌∙◌, ◌≡◌, ap, refl}
use Prim.Native.Nat.{ℕ}
use Rattle.layout.specs.declared.Lay.{Lay}
use Rattle.lists.specs.declared.Item.TheVariants.{Function, Main, Table, Thread, Unknown, Userdata}
use Rattle.lists.specs.declared.Item.{Item}
use Rattle.mark.specs.Words.{ops}
use Rattle.propagate.specs.Propagation.{propagate_item}
use Rattle.propagate.specs.declared.Propagated.{Propagated}
use Rattle.atomic.specs.Atomic.{again_item}
use Rattle.std.proofs.Common.{refl, ◌≡◌, ℕ}
use Rattle.value.specs.declared.ThreadRef.{ThreadRef}
use Rattle.atomic.proofs.again_item.Goals as goal

-- an item that is no thread is traversed as in propagation
as-propagated : (l : Lay) (b : List ℕ) (x : Item) (w : List ℕ) → ((y : ThreadRef) → x ≡ Thread y → ⊥) → (propagate_item (ops l) l b x w).1 ≡ again_item l b x w
unfolding again_item propagate_item
as-propagated l b (Table r) w _ = refl
as-propagated l b (Function r) w _ = refl
as-propagated l b (Userdata r) w _ = refl
as-propagated l b (Thread r) w k0 = absurd (k0 r refl)
as-propagated l b Main w _ = refl
as-propagated l b Unknown w _ = refl

pub returns-in-Thread : goal.returns-in-Thread
unfolding again_item
returns-in-Thread c = rw c.in-Thread.is c.retraverse_thread.ensures

pub returns-in_default : goal.returns-in_default
returns-in_default c = ap (λ (y : Propagated × List ℕ). y.1) c.propagate_item.ensures.0 ∙ as-propagated _ _ _ _ c.in_default.not-Thread
