-- `clearing::keep_string` meets its contract: each way by its test. Assumes nothing.
use mathlib.Core.Path.{◌≡◌, refl, sym, ◌∙◌}
use mathlib.Core.List.{List}
use Prim.Native.Nat.{ℕ}
use native.Mathlib.Omega.{arith}
use Rattle.base.specs.Ways.{eq_yes, eq_no}
use Rattle.value.specs.declared.Value.{Value}
use Rattle.value.specs.declared.Value.TheVariants.{Nil, Boolean, Light, Number, Str, Table, Function, Userdata, Thread}
use Rattle.layout.specs.declared.Lay.{Lay}
use Rattle.laid.specs.Laid.{strings_room, laid_of}
use Rattle.mark.specs.Shades.{named_in}
use Rattle.clearing.specs.Strings.{keep_value, keep_string}
use Rattle.std.proofs.Common.{refl, ◌≡◌, ℕ}
use Rattle.value.specs.declared.StrRef.{StrRef}
use Rattle.clearing.proofs.keep_string.Goals as goal

-- what is no string changes nothing
plain-kept : (l : Lay) (white : ℕ) (w : List ℕ) (v : Value) → ((x : StrRef) → v ≡ Str x → ⊥) → w ≡ keep_value l white w v
unfolding keep_value
plain-kept l white w Nil _ = refl
plain-kept l white w (Boolean x) _ = refl
plain-kept l white w (Light x) _ = refl
plain-kept l white w (Number x) _ = refl
plain-kept l white w (Str s) k0 = absurd (k0 s refl)
plain-kept l white w (Table r) _ = refl
plain-kept l white w (Function r) _ = refl
plain-kept l white w (Userdata r) _ = refl
plain-kept l white w (Thread r) _ = refl

pub read_value-requires : goal.read_value-requires
read_value-requires c = c.requires.p_in_bounds

pub shade-requires : goal.shade-requires
shade-requires c = rw c.strings_of-strings.ensures (strings_room _ _ (laid_of _ c.args.l.fits) c.requires.l_in_bounds)

pub shape_of-w-else-shade-ne0 : goal.shape_of-w-else-shade-ne0
shape_of-w-else-shade-ne0 c = refl

pub returns-else-shade-ne0 : goal.returns-else-shade-ne0
unfolding keep_string keep_value
returns-else-shade-ne0 c = rw (← c.read_value.ensures, c.in-Str.is) (eq_yes _ _ _ _ _ (sym ((rw c.strings_of-strings.ensures at c.shade.ensures)) ∙ c.if-shade-ne0.false) refl)

pub set_colour-requires : goal.set_colour-requires
set_colour-requires c = record { room = rw c.strings_of-strings.ensures (strings_room _ _ (laid_of _ c.args.l.fits) c.requires.l_in_bounds); i_lt_slots = rw c.strings_of-strings.ensures (omega (arith, c.wide.ensures.0, named_in _ _ _ _ ((rw c.strings_of-strings.ensures at c.shade.ensures)) c.if-shade-ne0.true)) }

pub shape_of-w-then-shade-ne0 : goal.shape_of-w-then-shade-ne0
shape_of-w-then-shade-ne0 c = c.set_colour.auto.w

pub returns-then-shade-ne0 : goal.returns-then-shade-ne0
unfolding keep_string keep_value
returns-then-shade-ne0 c = rw (← c.read_value.ensures, c.in-Str.is) (eq_no _ _ _ _ _ (λ e. c.if-shade-ne0.true ((rw c.strings_of-strings.ensures at c.shade.ensures) ∙ e)) (rw (← c.wide.ensures.0) ((rw c.strings_of-strings.ensures at c.set_colour.ensures))))

pub shape_of-w-in_default : goal.shape_of-w-in_default
shape_of-w-in_default c = refl

pub returns-in_default : goal.returns-in_default
unfolding keep_string
returns-in_default c = rw (← c.read_value.ensures) (plain-kept _ _ _ _ c.in_default.not-Str)
