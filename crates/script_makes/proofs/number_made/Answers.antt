-- `script_makes::number_made` meets its contract: by cases of what is given. Assumes nothing.
use Rattle.std.specs.Prelude.{Ok, Err}
use Rattle.std.proofs.Common.{◌≡◌, refl, List, ℕ}
use Rattle.std.proofs.lemmas.Result.{err_from_is_err_and}
use Rattle.base.specs.declared.Refusal.TheVariants.{OutOfRange}
use Rattle.value.specs.declared.StrRef.{StrRef}
use Rattle.value.specs.declared.TableRef.{TableRef}
use Rattle.value.specs.declared.UdRef.{UdRef}
use Rattle.making.specs.declared.Made.{Made}
use Rattle.making.specs.declared.Made.TheVariants.{Str, Table, Function, Upvalue, Userdata, Thread, Proto}
use Rattle.script_makes.specs.Makes.{numbered}
use Rattle.script_makes.proofs.number_made.Goals as goal

-- what no script makes
other-made : (x : Made) (m : List ℕ) → ((y : StrRef) → x ≡ Str y → ⊥) → ((y : TableRef) → x ≡ Table y → ⊥) → ((y : UdRef) → x ≡ Userdata y → ⊥) → (Err OutOfRange, m) ≡ numbered (Ok x) m
unfolding numbered
other-made (Str r) m k0 k1 k2 = absurd (k0 r refl)
other-made (Table r) m k0 k1 k2 = absurd (k1 r refl)
other-made (Function r) m _ _ _ = refl
other-made (Upvalue r) m _ _ _ = refl
other-made (Userdata r) m k0 k1 k2 = absurd (k2 r refl)
other-made (Thread r) m _ _ _ = refl
other-made (Proto n) m _ _ _ = refl

pub returns-in_err-r : goal.returns-in_err-r
unfolding numbered
returns-in_err-r c = let p = err_from_is_err_and c.from_residual.result c.from_residual.ensures.1 in rw (c.in_err-r.was, p.1, p.2)

pub returns-in-Str : goal.returns-in-Str
unfolding numbered
returns-in-Str c = rw (c.in_ok-r.was, c.in-Str.is, ← c.add-k.ensures)

pub returns-in-Table : goal.returns-in-Table
unfolding numbered
returns-in-Table c = rw (c.in_ok-r.was, c.in-Table.is, ← c.add-k-in-Table.ensures)

pub returns-in-Userdata : goal.returns-in-Userdata
unfolding numbered
returns-in-Userdata c = rw (c.in_ok-r.was, c.in-Userdata.is, ← c.add-k-in-Userdata.ensures)

pub returns-in_default : goal.returns-in_default
returns-in_default c = rw c.in_ok-r.was (other-made _ _ c.in_default.not-Str c.in_default.not-Table c.in_default.not-Userdata)
