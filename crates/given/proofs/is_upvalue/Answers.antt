-- `given::is_upvalue` meets its contract: one callee with another name. Assumes nothing.
use Rattle.laid.specs.Laid.{upvalues_room, laid_of}
use Rattle.given.proofs.is_upvalue.Goals as goal

pub is_named-requires : goal.is_named-requires
is_named-requires c = rw c.upvalues_of.ensures (upvalues_room _ _ (laid_of _ c.args.l.fits) c.requires.l_in_bounds)

pub returns : goal.returns
returns c = rw c.upvalues_of.ensures at c.is_named.ensures
