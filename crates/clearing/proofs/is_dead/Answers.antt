-- `clearing::is_dead` meets its contract: each way by its test. Assumes nothing.
use mathlib.Core.Path.{◌≡◌, refl, sym, ◌∙◌}
use mathlib.Core.Bool.{Bool, false}
use mathlib.Core.List.{List}
use Prim.Native.Nat.{ℕ}
use Rattle.base.specs.Ways.{eq_yes, eq_no}
use Rattle.value.specs.declared.Value.{Value}
use Rattle.value.specs.declared.Value.TheVariants.{Nil, Boolean, Light, Number, Str, Table, Function, Userdata, Thread}
use Rattle.layout.specs.declared.Lay.{Lay}
use Rattle.laid.specs.Laid.{tables_room, functions_room, userdata_room, threads_room, laid_of}
use Rattle.clearing.specs.Entries.{is_dead}
use Rattle.std.proofs.Common.{refl, ◌≡◌, ℕ, eq-eqb}
use Rattle.value.specs.declared.FuncRef.{FuncRef}
use Rattle.value.specs.declared.TableRef.{TableRef}
use Rattle.value.specs.declared.ThreadRef.{ThreadRef}
use Rattle.value.specs.declared.UdRef.{UdRef}
use Rattle.clearing.proofs.is_dead.Goals as goal

-- what is no table, function, userdata or thread is never dead
plain-lives : (l : Lay) (old : ℕ) (key : Bool) (v : Value) (w : List ℕ) → ((x : TableRef) → v ≡ Table x → ⊥) → ((x : FuncRef) → v ≡ Function x → ⊥) → ((x : UdRef) → v ≡ Userdata x → ⊥) → ((x : ThreadRef) → v ≡ Thread x → ⊥) → false ≡ is_dead l old key v w
unfolding is_dead
plain-lives l old key Nil w _ _ _ _ = refl
plain-lives l old key (Boolean x) w _ _ _ _ = refl
plain-lives l old key (Light x) w _ _ _ _ = refl
plain-lives l old key (Number x) w _ _ _ _ = refl
plain-lives l old key (Str s) w _ _ _ _ = refl
plain-lives l old key (Table r) w k0 k1 k2 k3 = absurd (k0 r refl)
plain-lives l old key (Function r) w k0 k1 k2 k3 = absurd (k1 r refl)
plain-lives l old key (Userdata r) w k0 k1 k2 k3 = absurd (k2 r refl)
plain-lives l old key (Thread r) w k0 k1 k2 k3 = absurd (k3 r refl)

pub shade-requires : goal.shade-requires
shade-requires c = rw c.tables_of.ensures (tables_room _ _ (laid_of _ c.args.l.fits) c.requires.l_in_bounds)

pub shade-requires-in-Function : goal.shade-requires-in-Function
shade-requires-in-Function c = rw c.functions_of.ensures (functions_room _ _ (laid_of _ c.args.l.fits) c.requires.l_in_bounds)

pub shade-requires-in-Thread : goal.shade-requires-in-Thread
shade-requires-in-Thread c = rw c.threads_of.ensures (threads_room _ _ (laid_of _ c.args.l.fits) c.requires.l_in_bounds)

pub shade-requires-in-Userdata : goal.shade-requires-in-Userdata
shade-requires-in-Userdata c = rw c.userdata_of.ensures (userdata_room _ _ (laid_of _ c.args.l.fits) c.requires.l_in_bounds)

pub returns-then-shade-old : goal.returns-then-shade-old
unfolding is_dead
returns-then-shade-old c = rw c.in-Userdata.is (eq_yes _ _ _ _ _ (sym ((rw c.userdata_of.ensures at c.shade-in-Userdata.ensures)) ∙ c.if-shade-old.true) (eq-eqb _ _ c.if-shade-old.true))

pub returns-else-not-key : goal.returns-else-not-key
unfolding is_dead
returns-else-not-key c = rw c.in-Userdata.is (eq_no _ _ _ _ _ (λ e. c.if-shade-old.false ((rw c.userdata_of.ensures at c.shade-in-Userdata.ensures) ∙ e)) (rw c.if-not-key.false))

pub is_finalized-requires : goal.is_finalized-requires
is_finalized-requires c = c.requires

pub returns-in-Table : goal.returns-in-Table
unfolding is_dead
returns-in-Table c = rw (c.in-Table.is, ← (rw c.tables_of.ensures at c.shade.ensures))

pub returns-in-Function : goal.returns-in-Function
unfolding is_dead
returns-in-Function c = rw (c.in-Function.is, ← (rw c.functions_of.ensures at c.shade-in-Function.ensures))

pub returns-in-Thread : goal.returns-in-Thread
unfolding is_dead
returns-in-Thread c = rw (c.in-Thread.is, ← (rw c.threads_of.ensures at c.shade-in-Thread.ensures))

pub returns-then-not-key : goal.returns-then-not-key
unfolding is_dead
returns-then-not-key c = rw c.in-Userdata.is (eq_no _ _ _ _ _ (λ e. c.if-shade-old.false ((rw c.userdata_of.ensures at c.shade-in-Userdata.ensures) ∙ e)) (rw c.if-not-key.true c.is_finalized.ensures))

pub returns-in_default : goal.returns-in_default
returns-in_default c = plain-lives _ _ _ _ _ c.in_default.not-Table c.in_default.not-Function c.in_default.not-Userdata c.in_default.not-Thread
