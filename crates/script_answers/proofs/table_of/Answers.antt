-- `script_answers::table_of` meets its contract: by cases of what is given. Assumes nothing.
use Rattle.std.specs.Prelude.{None}
use mathlib.Core.Path.{◌≡◌, refl}
use Rattle.value.specs.declared.Value.{Value}
use Rattle.value.specs.declared.Value.TheVariants.{Nil, Boolean, Light, Number, Str, Table, Function, Userdata, Thread}
use Rattle.script_answers.specs.Answers.{table_of_value, table_of}
use Rattle.std.proofs.Common.{refl, ◌≡◌}
use Rattle.value.specs.declared.TableRef.{TableRef}
use Rattle.script_answers.proofs.table_of.Goals as goal

-- what is no table
no_table : (v : Value) → ((x : TableRef) → v ≡ Table x → ⊥) → None ≡ table_of_value v
unfolding table_of_value
no_table Nil _ = refl
no_table (Boolean x) _ = refl
no_table (Light x) _ = refl
no_table (Number x) _ = refl
no_table (Str r) _ = refl
no_table (Table r) k0 = absurd (k0 r refl)
no_table (Function r) _ = refl
no_table (Userdata r) _ = refl
no_table (Thread r) _ = refl

pub returns-in_err-r : goal.returns-in_err-r
unfolding table_of
returns-in_err-r c = rw (c.in_err-r.was, c.from_residual.ensures)

pub returns-in-Table : goal.returns-in-Table
unfolding table_of table_of_value
returns-in-Table c = rw (c.in_ok-r.was, c.in-Table.is)

pub returns-in_default : goal.returns-in_default
unfolding table_of
returns-in_default c = rw c.in_ok-r.was (no_table _ c.in_default.not-Table)
