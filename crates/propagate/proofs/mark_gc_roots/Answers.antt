-- `propagate::mark_gc_roots` meets its contract: the callees' equations joined. Assumes nothing.
use mathlib.Core.Path.{◌∙◌}
use native.Mathlib.Omega.{arith}
use Rattle.laid.specs.Laid.{laid_of}
use Rattle.run_walk.proofs.Laws.{parts_in}
use Rattle.propagate.specs.Roots.{mark_gc_roots}
use Rattle.propagate.proofs.mark_gc_roots.Goals as goal

pub mark_types-requires : goal.mark_types-requires
mark_types-requires c = record { l_in_bounds = c.requires.l_in_bounds }

pub mode_name-mode-requires : goal.mode_name-mode-requires
mode_name-mode-requires c = omega (arith, (parts_in (laid_of _ c.args.l.fits) c.requires.l_in_bounds).header, c.mark_types.auto.w)

pub mark_string_or-requires : goal.mark_string_or-requires
mark_string_or-requires c = record { l_in_bounds = omega (arith, c.requires.l_in_bounds, c.mark_types.auto.w) }

pub gc_name-gc-requires : goal.gc_name-gc-requires
gc_name-gc-requires c = omega (arith, (parts_in (laid_of _ c.args.l.fits) c.requires.l_in_bounds).header, c.mark_types.auto.w, c.mark_string_or.auto.w)

pub mark_string_or-requires-2 : goal.mark_string_or-requires-2
mark_string_or-requires-2 c = record { l_in_bounds = omega (arith, c.requires.l_in_bounds, c.mark_types.auto.w, c.mark_string_or.auto.w) }

pub shape_of-w : goal.shape_of-w
shape_of-w c = c.mark_string_or-2.auto.w ∙ c.mark_string_or.auto.w ∙ c.mark_types.auto.w

pub returns : goal.returns
unfolding mark_gc_roots
returns c = rw (← c.mark_types.ensures, ← c.mode_name-mode.ensures, ← c.mark_string_or.ensures, ← c.gc_name-gc.ensures) c.mark_string_or-2.ensures
