-- `given::is_sound` meets its contract: by the cases of a value. Assumes nothing.
use mathlib.Core.Bool.{true}
use mathlib.Core.List.{List}
use mathlib.Core.Path.{◌≡◌, refl}
use Prim.Native.Nat.{ℕ}
use Rattle.given.specs.Given.{is_sound}
use Rattle.laid.specs.Laid.{functions_room, strings_room, tables_room, threads_room, userdata_room, laid_of}
use Rattle.layout.specs.declared.Lay.{Lay}
use Rattle.value.specs.declared.Value.TheVariants.{Boolean, Function, Light, Nil, Number, Str, Table, Thread, Userdata}
use Rattle.value.specs.declared.Value.{Value}
use Rattle.std.proofs.Common.{refl, ◌≡◌, ℕ}
use Rattle.value.specs.declared.FuncRef.{FuncRef}
use Rattle.value.specs.declared.StrRef.{StrRef}
use Rattle.value.specs.declared.TableRef.{TableRef}
use Rattle.value.specs.declared.ThreadRef.{ThreadRef}
use Rattle.value.specs.declared.UdRef.{UdRef}
use Rattle.given.proofs.is_sound.Goals as goal

-- a value that refers to nothing is sound
plain-sound : (l : Lay) (v : Value) (w : List ℕ) → ((x : StrRef) → v ≡ Str x → ⊥) → ((x : TableRef) → v ≡ Table x → ⊥) → ((x : FuncRef) → v ≡ Function x → ⊥) → ((x : UdRef) → v ≡ Userdata x → ⊥) → ((x : ThreadRef) → v ≡ Thread x → ⊥) → true ≡ is_sound l v w
unfolding is_sound
plain-sound l Nil w _ _ _ _ _ = refl
plain-sound l (Boolean b) w _ _ _ _ _ = refl
plain-sound l (Light x) w _ _ _ _ _ = refl
plain-sound l (Number x) w _ _ _ _ _ = refl
plain-sound l (Str r) w k0 k1 k2 k3 k4 = absurd (k0 r refl)
plain-sound l (Table r) w k0 k1 k2 k3 k4 = absurd (k1 r refl)
plain-sound l (Function r) w k0 k1 k2 k3 k4 = absurd (k2 r refl)
plain-sound l (Userdata r) w k0 k1 k2 k3 k4 = absurd (k3 r refl)
plain-sound l (Thread r) w k0 k1 k2 k3 k4 = absurd (k4 r refl)

pub is_named-requires : goal.is_named-requires
is_named-requires c = rw c.strings_of.ensures (strings_room _ _ (laid_of _ c.args.l.fits) c.requires.l_in_bounds)

pub is_named-requires-in-Table : goal.is_named-requires-in-Table
is_named-requires-in-Table c = rw c.tables_of.ensures (tables_room _ _ (laid_of _ c.args.l.fits) c.requires.l_in_bounds)

pub is_named-requires-in-Function : goal.is_named-requires-in-Function
is_named-requires-in-Function c = rw c.functions_of.ensures (functions_room _ _ (laid_of _ c.args.l.fits) c.requires.l_in_bounds)

pub is_named-requires-in-Userdata : goal.is_named-requires-in-Userdata
is_named-requires-in-Userdata c = rw c.userdata_of.ensures (userdata_room _ _ (laid_of _ c.args.l.fits) c.requires.l_in_bounds)

pub is_named-requires-in-Thread : goal.is_named-requires-in-Thread
is_named-requires-in-Thread c = rw c.threads_of.ensures (threads_room _ _ (laid_of _ c.args.l.fits) c.requires.l_in_bounds)

pub returns-in-Str : goal.returns-in-Str
unfolding is_sound
returns-in-Str c = rw c.in-Str.is ((rw c.strings_of.ensures at c.is_named.ensures))

pub returns-in-Table : goal.returns-in-Table
unfolding is_sound
returns-in-Table c = rw c.in-Table.is ((rw c.tables_of.ensures at c.is_named-in-Table.ensures))

pub returns-in-Function : goal.returns-in-Function
unfolding is_sound
returns-in-Function c = rw c.in-Function.is ((rw c.functions_of.ensures at c.is_named-in-Function.ensures))

pub returns-in-Userdata : goal.returns-in-Userdata
unfolding is_sound
returns-in-Userdata c = rw c.in-Userdata.is ((rw c.userdata_of.ensures at c.is_named-in-Userdata.ensures))

pub returns-in-Thread : goal.returns-in-Thread
unfolding is_sound
returns-in-Thread c = rw c.in-Thread.is ((rw c.threads_of.ensures at c.is_named-in-Thread.ensures))

pub returns-in_default : goal.returns-in_default
returns-in_default c = plain-sound _ _ _ c.in_default.not-Str c.in_default.not-Table c.in_default.not-Function c.in_default.not-Userdata c.in_default.not-Thread
