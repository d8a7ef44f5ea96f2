-- `run_walk::prototypes::mark_constants` meets its contract: the callees' equations joined. Assumes nothing.
use native.Mathlib.Omega.{arith}
use Rattle.laid.specs.Laid.{laid_of}
use Rattle.run_walk.proofs.Laws.{parts_in}
use Rattle.run_walk.specs.Prototypes.{mark_constants}
use Rattle.run_walk.proofs.prototypes.mark_constants.Goals as goal

pub proto_constants-k-requires : goal.proto_constants-k-requires
proto_constants-k-requires c = parts_in (laid_of _ c.args.l.fits) c.requires.l_in_bounds

pub overflow_mul-n : goal.overflow_mul-n
overflow_mul-n c = omega (arith, c.protos_at.ensures, (parts_in (laid_of _ c.args.l.fits) c.requires.l_in_bounds).protos, c.requires.n_bound)

pub overflow_add-protos_at : goal.overflow_add-protos_at
overflow_add-protos_at c = omega (arith, c.protos_at.ensures, (parts_in (laid_of _ c.args.l.fits) c.requires.l_in_bounds).protos, c.requires.n_bound)

pub overflow_add-protos_at-2 : goal.overflow_add-protos_at-2
overflow_add-protos_at-2 c = omega (arith, c.protos_at.ensures, (parts_in (laid_of _ c.args.l.fits) c.requires.l_in_bounds).protos, c.requires.n_bound)

pub mark_values-requires : goal.mark_values-requires
mark_values-requires c = record { l_in_bounds = c.requires.l_in_bounds; n_in_bounds = omega (arith, c.protos_at.ensures, (parts_in (laid_of _ c.args.l.fits) c.requires.l_in_bounds).protos, c.requires.n_bound, c.proto_constants-k.ensures.1) }

pub shape_of-w : goal.shape_of-w
shape_of-w c = c.mark_values.auto.w

pub returns : goal.returns
unfolding mark_constants
returns c = rw (← c.proto_constants-k.ensures.0) ((rw c.protos_at.ensures at c.mark_values.ensures))
