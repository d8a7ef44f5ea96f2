-- `mark::mark_table_or` meets its contract: the callees' equations joined. Assumes nothing.
use Rattle.std.specs.Prelude.{◌≡◌, refl, Some, None, Option}
use Rattle.value.specs.declared.TableRef.{TableRef}
use Rattle.mark.specs.Ops.{Ops}
use Rattle.mark.specs.Marking.{mark_table_or}
use Rattle.mark.proofs.mark_table_or.Goals as goal

-- a table that is missing marks nothing
missing : {S : Type 0} (O : Ops S) (t : Option TableRef) (s : S) → ((r : TableRef) → t ≡ Some r → ⊥) → s ≡ mark_table_or O t s
unfolding mark_table_or
missing O (Some r) s d = absurd (d r refl)
missing O None s d = refl

pub returns-in-Some : goal.returns-in-Some
unfolding mark_table_or
returns-in-Some c = rw c.in-Some.is c.mark_table.ensures

pub returns-in_default : goal.returns-in_default
returns-in_default c = missing _ _ _ c.in_default.not-Some
