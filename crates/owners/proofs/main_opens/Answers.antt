-- `owners::main_opens` meets its contract: the count as it is read, the rest by the layout. Assumes nothing.
use native.Mathlib.Omega.{arith}
use Rattle.layout.specs.Layout.{lay_of}
use Rattle.laid.specs.Laid.{header_room, parts_room, laid_of}
use Rattle.owners.specs.Owners.{main_opens}
use Rattle.owners.proofs.Laws.{opens_fit, opens_most}
use Rattle.owners.proofs.main_opens.Goals as goal

pub main_open_count-requires : goal.main_open_count-requires
unfolding lay_of
main_open_count-requires c = parts_room _ c.args.w.now (laid_of _ c.args.l.fits) c.requires.l_in_bounds

pub returns : goal.returns
unfolding main_opens lay_of
returns c = (rw (c.main_open_count.ensures.0, c.opens_at.ensures), record { word = omega (arith, c.opens_at.ensures, header_room _ c.args.w.now (laid_of _ c.args.l.fits) c.requires.l_in_bounds); room = omega (arith, c.opens_at.ensures, opens_most _ (laid_of _ c.args.l.fits)); fits = omega (arith, c.opens_at.ensures, opens_fit _ (laid_of _ c.args.l.fits), c.requires.l_in_bounds); count = c.main_open_count.ensures.1 })
