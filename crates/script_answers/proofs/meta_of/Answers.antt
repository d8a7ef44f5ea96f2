-- `script_answers::meta_of` meets its contract: by cases of what is given. Assumes nothing.
use Rattle.std.specs.Prelude.{None}
use mathlib.Core.Path.{◌≡◌, refl}
use Rattle.value.specs.declared.Value.{Value}
use Rattle.value.specs.declared.Value.TheVariants.{Nil, Boolean, Light, Number, Str, Table, Function, Userdata, Thread}
use Rattle.script_answers.specs.Answers.{meta_of_value, meta_of}
use Rattle.std.proofs.Common.{refl, ◌≡◌}
use Rattle.value.specs.declared.TableRef.{TableRef}
use Rattle.script_answers.proofs.meta_of.Goals as goal

-- what is neither nil nor a table
no-meta : (v : Value) → (v ≡ Nil → ⊥) → ((x : TableRef) → v ≡ Table x → ⊥) → None ≡ meta_of_value v
unfolding meta_of_value
no-meta Nil k0 k1 = absurd (k0 refl)
no-meta (Boolean x) _ _ = refl
no-meta (Light x) _ _ = refl
no-meta (Number x) _ _ = refl
no-meta (Str r) _ _ = refl
no-meta (Table r) k0 k1 = absurd (k1 r refl)
no-meta (Function r) _ _ = refl
no-meta (Userdata r) _ _ = refl
no-meta (Thread r) _ _ = refl

pub returns-in_err-o : goal.returns-in_err-o
unfolding meta_of
returns-in_err-o c = rw (c.in_err-o.was, c.from_residual.ensures)

pub returns-in-Nil : goal.returns-in-Nil
unfolding meta_of meta_of_value
returns-in-Nil c = rw (c.in_ok-o.was, c.in-Nil.is)

pub returns-in-Table : goal.returns-in-Table
unfolding meta_of meta_of_value
returns-in-Table c = rw (c.in_ok-o.was, c.in-Table.is)

pub returns-in_default : goal.returns-in_default
unfolding meta_of
returns-in_default c = rw c.in_ok-o.was (no-meta _ c.in_default.not-Nil c.in_default.not-Table)
