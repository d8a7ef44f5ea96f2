-- `mark::value_colour` meets its contract: the callees' equations joined. Assumes nothing.
use mathlib.Core.Path.{◌≡◌, refl}
use Rattle.value.specs.declared.Value.{Value}
use Rattle.value.specs.declared.Value.TheVariants.{Nil, Boolean, Light, Number, Str, Table, Function, Userdata, Thread}
use Rattle.laid.specs.Laid.{strings_room, tables_room, functions_room, userdata_room, threads_room, laid_of}
use Rattle.mark.specs.Ops.{Ops}
use Rattle.mark.specs.Marking.{value_colour}
use Rattle.std.proofs.Common.{refl, ◌≡◌}
use Rattle.value.specs.declared.FuncRef.{FuncRef}
use Rattle.value.specs.declared.StrRef.{StrRef}
use Rattle.value.specs.declared.TableRef.{TableRef}
use Rattle.value.specs.declared.ThreadRef.{ThreadRef}
use Rattle.value.specs.declared.UdRef.{UdRef}
use Rattle.mark.proofs.value_colour.Goals as goal

-- a value that refers to nothing has no colour
plain-colour : {S : Type 0} (O : Ops S) (v : Value) (s : S) → ((x : StrRef) → v ≡ Str x → ⊥) → ((x : TableRef) → v ≡ Table x → ⊥) → ((x : FuncRef) → v ≡ Function x → ⊥) → ((x : UdRef) → v ≡ Userdata x → ⊥) → ((x : ThreadRef) → v ≡ Thread x → ⊥) → 0 ≡ value_colour O v s
unfolding value_colour
plain-colour O Nil s _ _ _ _ _ = refl
plain-colour O (Boolean b) s _ _ _ _ _ = refl
plain-colour O (Light x) s _ _ _ _ _ = refl
plain-colour O (Number x) s _ _ _ _ _ = refl
plain-colour O (Str r) s k0 k1 k2 k3 k4 = absurd (k0 r refl)
plain-colour O (Table r) s k0 k1 k2 k3 k4 = absurd (k1 r refl)
plain-colour O (Function r) s k0 k1 k2 k3 k4 = absurd (k2 r refl)
plain-colour O (Userdata r) s k0 k1 k2 k3 k4 = absurd (k3 r refl)
plain-colour O (Thread r) s k0 k1 k2 k3 k4 = absurd (k4 r refl)

pub shade-requires : goal.shade-requires
shade-requires c = rw c.strings_of.ensures (strings_room _ _ (laid_of _ c.args.l.fits) c.requires.l_in_bounds)

pub shade-requires-in-Table : goal.shade-requires-in-Table
shade-requires-in-Table c = rw c.tables_of.ensures (tables_room _ _ (laid_of _ c.args.l.fits) c.requires.l_in_bounds)

pub shade-requires-in-Function : goal.shade-requires-in-Function
shade-requires-in-Function c = rw c.functions_of.ensures (functions_room _ _ (laid_of _ c.args.l.fits) c.requires.l_in_bounds)

pub shade-requires-in-Userdata : goal.shade-requires-in-Userdata
shade-requires-in-Userdata c = rw c.userdata_of.ensures (userdata_room _ _ (laid_of _ c.args.l.fits) c.requires.l_in_bounds)

pub shade-requires-in-Thread : goal.shade-requires-in-Thread
shade-requires-in-Thread c = rw c.threads_of.ensures (threads_room _ _ (laid_of _ c.args.l.fits) c.requires.l_in_bounds)

pub returns-in-Str : goal.returns-in-Str
unfolding value_colour
returns-in-Str c = rw c.in-Str.is ((rw c.strings_of.ensures at c.shade.ensures))

pub returns-in-Table : goal.returns-in-Table
unfolding value_colour
returns-in-Table c = rw c.in-Table.is ((rw c.tables_of.ensures at c.shade-in-Table.ensures))

pub returns-in-Function : goal.returns-in-Function
unfolding value_colour
returns-in-Function c = rw c.in-Function.is ((rw c.functions_of.ensures at c.shade-in-Function.ensures))

pub returns-in-Userdata : goal.returns-in-Userdata
unfolding value_colour
returns-in-Userdata c = rw c.in-Userdata.is ((rw c.userdata_of.ensures at c.shade-in-Userdata.ensures))

pub returns-in-Thread : goal.returns-in-Thread
unfolding value_colour
returns-in-Thread c = rw c.in-Thread.is ((rw c.threads_of.ensures at c.shade-in-Thread.ensures))

pub returns-in_default : goal.returns-in_default
returns-in_default c = plain-colour _ _ _ c.in_default.not-Str c.in_default.not-Table c.in_default.not-Function c.in_default.not-Userdata c.in_default.not-Thread
