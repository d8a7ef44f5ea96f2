-- `propagate::mark_type` meets its contract: the callees' equations joined. Assumes nothing.
use Rattle.laid.specs.Laid.{laid_of}
use Rattle.run_walk.proofs.Laws.{parts_in}
use Rattle.propagate.specs.Roots.{mark_type}
use Rattle.propagate.proofs.mark_type.Goals as goal

pub type_meta-t-requires : goal.type_meta-t-requires
type_meta-t-requires c = record { in_bounds = (parts_in (laid_of _ c.args.l.fits) c.requires.l_in_bounds).header; k_bound = c.requires.k_bound }

pub mark_table_or-requires : goal.mark_table_or-requires
mark_table_or-requires c = record { l_in_bounds = c.requires.l_in_bounds }

pub shape_of-w : goal.shape_of-w
shape_of-w c = c.mark_table_or.auto.w

pub returns : goal.returns
unfolding mark_type
returns c = rw (← c.type_meta-t.ensures) c.mark_table_or.ensures
