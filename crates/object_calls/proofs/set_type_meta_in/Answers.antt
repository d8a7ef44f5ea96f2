-- `object_calls::set_type_meta_in` meets its contract: each way by its test. Assumes nothing.
use mathlib.Core.Path.{◌∙◌, refl}
use native.Mathlib.Omega.{arith}
use Rattle.base.specs.Ways.{lt_no, lt_yes}
use Rattle.laid.specs.Laid.{laid_of}
use Rattle.run_walk.proofs.Laws.{parts_in}
use Rattle.object_calls.specs.ObjectCalls.{set_type_meta_in}
use Rattle.object_calls.proofs.set_type_meta_in.Goals as goal

pub returns-then-i-gt8 : goal.returns-then-i-gt8
unfolding set_type_meta_in
returns-then-i-gt8 c = lt_yes _ _ _ _ _ (omega (arith, c.wide-i.ensures.0, c.if-i-gt8.true)) refl

pub returns-then-not-is_table_or : goal.returns-then-not-is_table_or
unfolding set_type_meta_in
returns-then-not-is_table_or c = lt_no _ _ _ _ _ (omega (arith, c.wide-i.ensures.0, c.if-i-gt8.false)) (rw (← c.is_table_or.ensures, c.if-not-is_table_or.true))

pub set_type_meta-requires : goal.set_type_meta-requires
set_type_meta-requires c = record { in_bounds = (parts_in (laid_of _ c.args.l.fits) c.requires.l_in_bounds).header; k_bound = omega (arith, c.if-i-gt8.false) }

pub forward_table-requires : goal.forward_table-requires
forward_table-requires c = record { l_in_bounds = omega (arith, c.requires.l_in_bounds, c.set_type_meta.auto.w) }

pub shape_of-w : goal.shape_of-w
shape_of-w c = c.forward_table.auto.w ∙ c.set_type_meta.auto.w

pub returns : goal.returns
unfolding set_type_meta_in
returns c = lt_no _ _ _ _ _ (omega (arith, c.wide-i.ensures.0, c.if-i-gt8.false)) (rw (← c.is_table_or.ensures, c.if-not-is_table_or.false, ← (rw c.wide-i.ensures.0 at c.set_type_meta.ensures), ← c.forward_table.ensures))
