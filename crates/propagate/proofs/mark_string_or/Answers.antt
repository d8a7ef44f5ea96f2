-- `propagate::mark_string_or` meets its contract: the callees' equations joined. Assumes nothing.
use Rattle.std.specs.Prelude.{◌≡◌, refl, Some, None, Option}
use Rattle.value.specs.declared.StrRef.{StrRef}
use Rattle.mark.specs.Ops.{Ops}
use Rattle.propagate.specs.Roots.{mark_string_or}
use Rattle.propagate.proofs.mark_string_or.Goals as goal

-- a string that is missing marks nothing
missing : {S : Type 0} (O : Ops S) (x : Option StrRef) (s : S) → ((r : StrRef) → x ≡ Some r → ⊥) → s ≡ mark_string_or O x s
unfolding mark_string_or
missing O (Some r) s d = absurd (d r refl)
missing O None s d = refl

pub mark_string-requires : goal.mark_string-requires
mark_string-requires c = record { l_in_bounds = c.requires.l_in_bounds }

pub returns-in-Some : goal.returns-in-Some
unfolding mark_string_or
returns-in-Some c = rw c.in-Some.is c.mark_string.ensures

pub returns-in_default : goal.returns-in_default
returns-in_default c = missing _ _ _ c.in_default.not-Some
