-- `propagate::mark_roots` meets its contract: the callees' equations joined. Assumes nothing.
use mathlib.Core.Path.{◌∙◌}
use native.Mathlib.Omega.{arith}
use Rattle.laid.specs.Laid.{gray_room_lem, laid_of}
use Rattle.run_walk.proofs.Laws.{parts_in}
use Rattle.propagate.specs.Roots.{mark_roots}
use Rattle.propagate.proofs.mark_roots.Goals as goal

pub push-requires : goal.push-requires
push-requires c = rw c.gray_of.ensures (gray_room_lem _ _ (laid_of _ c.args.l.fits) c.requires.l_in_bounds)

pub global-global-requires : goal.global-global-requires
global-global-requires c = omega (arith, (parts_in (laid_of _ c.args.l.fits) c.requires.l_in_bounds).header, c.push.auto.w)

pub mark_table_or-requires : goal.mark_table_or-requires
mark_table_or-requires c = record { l_in_bounds = omega (arith, c.requires.l_in_bounds, c.push.auto.w) }

pub registry-registry-requires : goal.registry-registry-requires
registry-registry-requires c = omega (arith, (parts_in (laid_of _ c.args.l.fits) c.requires.l_in_bounds).header, c.push.auto.w, c.mark_table_or.auto.w)

pub mark_table_or-requires-2 : goal.mark_table_or-requires-2
mark_table_or-requires-2 c = record { l_in_bounds = omega (arith, c.requires.l_in_bounds, c.push.auto.w, c.mark_table_or.auto.w) }

pub mark_gc_roots-requires : goal.mark_gc_roots-requires
mark_gc_roots-requires c = record { l_in_bounds = omega (arith, c.requires.l_in_bounds, c.push.auto.w, c.mark_table_or.auto.w, c.mark_table_or-2.auto.w) }

pub shape_of-w : goal.shape_of-w
shape_of-w c = c.mark_gc_roots.auto.w ∙ c.mark_table_or-2.auto.w ∙ c.mark_table_or.auto.w ∙ c.push.auto.w

pub returns : goal.returns
unfolding mark_roots
returns c = rw (← (rw c.gray_of.ensures at c.push.ensures), ← c.global-global.ensures, ← c.mark_table_or.ensures, ← c.registry-registry.ensures, ← c.mark_table_or-2.ensures) c.mark_gc_roots.ensures
