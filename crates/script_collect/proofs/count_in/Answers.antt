-- `script_collect::count_in` meets its contract: by cases of the answer. Assumes nothing.
use Rattle.std.proofs.Common.{rules, ◌≡◌, refl, ℕ}
use Rattle.std.specs.Prelude.{Ok}
use Rattle.reads.specs.declared.Read.{Read}
use Rattle.reads.specs.declared.Read.TheVariants.{Number, Value, Table, Str, Upvalue, Item, Userdata}
use Rattle.script_collect.specs.Collects.{number_of, count_in}
use Rattle.script_collect.proofs.count_in.Goals as goal

-- an answer that is no number
no_number : (r : Read) → ((x : ℕ) → r ≡ Number x → ⊥) → 0 ≡ number_of (Ok r)
unfolding number_of
no_number (Number n) k0 = absurd (k0 n refl)
no_number (Value v) _ = refl
no_number (Table t) _ = refl
no_number (Str t) _ = refl
no_number (Upvalue r) _ = refl
no_number (Item x) _ = refl
no_number (Userdata t) _ = refl

pub returns-in-Ok-Number : goal.returns-in-Ok-Number
unfolding count_in number_of
returns-in-Ok-Number c = rw (← c.read_arena.ensures, c.in-Ok-Number.is, c.in-Ok-Number.field-0-is)

pub returns-in_default : goal.returns-in_default
unfolding count_in number_of
returns-in_default c = rw (← c.read_arena.ensures, c.in_default.is) (no_number c.in_default.field-0 (λ x e. search (rules, e)))

pub returns-in_default-2 : goal.returns-in_default-2
unfolding count_in number_of
returns-in_default-2 c = rw (← c.read_arena.ensures, c.in_default.is)
