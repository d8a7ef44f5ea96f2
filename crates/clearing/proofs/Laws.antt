-- What an arm for all other kinds leaves. Assumes nothing.
use mathlib.Core.Path.{◌≡◌, refl}
use mathlib.Core.List.{List}
use Prim.Native.Nat.{ℕ}
use Rattle.value.specs.declared.TableRef.{TableRef}
use Rattle.lists.specs.declared.Item.{Item}
use Rattle.lists.specs.declared.Item.TheVariants.{Table, Function, Userdata, Thread, Main, Unknown}
use Rattle.clearing.specs.Strings.{on_table}

-- an item that is no table is passed
pub passed : (work : TableRef → List ℕ → List ℕ) (x : Item) (w : List ℕ) → ((y : TableRef) → x ≡ Table y → ⊥) → w ≡ on_table work x w
unfolding on_table
passed work (Table r) w k0 = absurd (k0 r refl)
passed work (Function r) w _ = refl
passed work (Userdata r) w _ = refl
passed work (Thread r) w _ = refl
passed work Main w _ = refl
passed work Unknown w _ = refl
