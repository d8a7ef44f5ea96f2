-- `owners::main_stack` meets its contract: the count as it is read, the rest by the layout. Assumes nothing.
use native.Mathlib.Omega.{arith}
use Rattle.layout.specs.Layout.{lay_of}
use Rattle.laid.specs.Laid.{header_room, parts_room, laid_of}
use Rattle.owners.specs.Owners.{main_stack}
use Rattle.owners.proofs.Laws.{stack_fits, stack_most}
use Rattle.owners.proofs.main_stack.Goals as goal

pub main_top-requires : goal.main_top-requires
unfolding lay_of
main_top-requires c = parts_room _ c.args.w.now (laid_of _ c.args.l.fits) c.requires.l_in_bounds

pub returns : goal.returns
unfolding main_stack lay_of
returns c = (rw (c.main_top.ensures.0, c.stack_at.ensures), record { word = omega (arith, c.stack_at.ensures, header_room _ c.args.w.now (laid_of _ c.args.l.fits) c.requires.l_in_bounds); room = omega (arith, c.stack_at.ensures, stack_most _ (laid_of _ c.args.l.fits)); fits = omega (arith, c.stack_at.ensures, stack_fits _ (laid_of _ c.args.l.fits), c.requires.l_in_bounds); count = c.main_top.ensures.1 })
