-- `script_calls::set_meta` meets its contract: by cases of what is given. Assumes nothing.
use Rattle.std.specs.Prelude.{Option}
use mathlib.Core.Path.{◌≡◌, refl}
use Rattle.value.specs.declared.Value.{Value}
use Rattle.value.specs.declared.Value.TheVariants.{Nil, Boolean, Light, Number, Str, Table, Function, Userdata, Thread}
use Rattle.script_answers.specs.Answers.{Script, refused4}
use Rattle.script_calls.specs.Commands.{set_meta}
use Rattle.script_calls.specs.Laws.{serves}
use Rattle.std.proofs.Common.{refl, ◌≡◌}
use Rattle.value.specs.declared.TableRef.{TableRef}
use Rattle.value.specs.declared.UdRef.{UdRef}
use Rattle.script_calls.proofs.set_meta.Goals as goal

-- what has no metatable
no-owner : (v : Value) (t : Option TableRef) (s : Script) → ((x : TableRef) → v ≡ Table x → ⊥) → ((x : UdRef) → v ≡ Userdata x → ⊥) → refused4 s ≡ set_meta v t s
unfolding set_meta
no-owner Nil t s _ _ = refl
no-owner (Boolean x) t s _ _ = refl
no-owner (Light x) t s _ _ = refl
no-owner (Number x) t s _ _ = refl
no-owner (Str r) t s _ _ = refl
no-owner (Table r) t s k0 k1 = absurd (k0 r refl)
no-owner (Function r) t s _ _ = refl
no-owner (Userdata r) t s k0 k1 = absurd (k1 r refl)
no-owner (Thread r) t s _ _ = refl

pub returns-in-Table : goal.returns-in-Table
unfolding set_meta
returns-in-Table c = rw c.in-Table.is (serves _ _ _ _ _ _ c.table_set_meta-a.ensures c.of_served.ensures)

pub returns-in-Userdata : goal.returns-in-Userdata
unfolding set_meta
returns-in-Userdata c = rw c.in-Userdata.is (serves _ _ _ _ _ _ c.ud_set_meta-a.ensures c.of_served-in-Userdata.ensures)

pub returns-in_default : goal.returns-in_default
returns-in_default c = no-owner _ _ _ c.in_default.not-Table c.in_default.not-Userdata
