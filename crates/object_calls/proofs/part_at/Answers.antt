-- `object_calls::part_at` meets its contract: each way by its test. Assumes nothing.
use Rattle.std.specs.Prelude.{cond, List, ℕ, Ok, Err, Option}
use mathlib.Core.Path.{◌≡◌, refl, ◌∙◌}
use native.Mathlib.Omega.{arith}
use Rattle.base.specs.declared.Refusal.TheVariants.{Stale}
use Rattle.value.specs.declared.TableRef.{TableRef}
use Rattle.value.specs.declared.UdRef.{UdRef}
use Rattle.layout.specs.declared.Lay.{Lay}
use Rattle.given.specs.Given.{is_table_or}
use Rattle.object_calls.specs.declared.Part.{Part}
use Rattle.object_calls.specs.declared.Part.TheVariants.{Meta, Env}
use Rattle.object_calls.specs.ObjectCalls.{forward_from, meta_at, env_at, stored, part_at}
use Rattle.object_calls.proofs.part_at.Goals as goal

-- either part, by whether the table given is one
by_part : (k : Part) (l : Lay) (d : UdRef) (t : Option TableRef) (p : ℕ) (w : List ℕ) → cond (is_table_or l t w) (Ok tt, forward_from l d t (stored k p t w)) (Err Stale, w) ≡ part_at k l d t p w
unfolding meta_at env_at
by_part Meta l d t p w = refl
by_part Env l d t p w = refl

pub returns-then-not-is_table_or : goal.returns-then-not-is_table_or
returns-then-not-is_table_or c = rw (← by_part, ← c.is_table_or.ensures, c.if-not-is_table_or.true)

pub forward_from-requires : goal.forward_from-requires
forward_from-requires c = record { l_in_bounds = omega (arith, c.requires.l_in_bounds, c.store.auto.w) }

pub shape_of-w : goal.shape_of-w
shape_of-w c = c.forward_from.auto.w ∙ c.store.auto.w

pub returns : goal.returns
returns c = rw (← by_part, ← c.is_table_or.ensures, c.if-not-is_table_or.false, ← c.store.ensures, ← c.forward_from.ensures)
