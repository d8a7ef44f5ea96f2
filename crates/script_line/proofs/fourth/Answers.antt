-- `script_line::fourth` meets its contract: by the cases of its tests. Assumes nothing.
use Rattle.std.specs.Prelude.{ℕ}
use mathlib.Core.Path.{◌≡◌, refl, ◌∙◌}
use Rattle.script_fields.specs.declared.Field.{Field}
use Rattle.script_fields.specs.declared.Field.TheVariants.{Last, Part, Bad}
use Rattle.script_line.specs.Lines.{fourth, wrong}
use Rattle.script_line.proofs.fourth.Goals as goal

-- a field that is not the line's last number
unended : (a b c : ℕ) (f : Field) → ((d : ℕ) → f ≡ Last d → ⊥) → wrong ≡ fourth a b c f
unfolding fourth
unended a b c (Last d) k = absurd (k d refl)
unended a b c (Part d i) _ = refl
unended a b c Bad _ = refl

pub returns-in-Last : goal.returns-in-Last
unfolding fourth
returns-in-Last c = rw (← c.number_from.ensures, c.in-Last.is) c.counted.ensures

pub returns-in_default : goal.returns-in_default
returns-in_default c = rw (← c.number_from.ensures) (c.counted-in_default.ensures ∙ unended _ _ _ _ c.in_default.not-Last)
