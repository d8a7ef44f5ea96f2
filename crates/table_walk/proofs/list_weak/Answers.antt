-- `table_walk::list_weak` meets its contract: each way by its test. Assumes nothing.
use Rattle.laid.specs.Laid.{weak_room_lem, laid_of}
use Rattle.table_walk.specs.Tables.{list_weak}
use Rattle.table_walk.proofs.list_weak.Goals as goal

pub push-requires : goal.push-requires
push-requires c = rw c.weak_of.ensures (weak_room_lem _ _ (laid_of _ c.args.l.fits) c.requires.l_in_bounds)

pub returns-then-is_weak : goal.returns-then-is_weak
unfolding list_weak
returns-then-is_weak c = rw (← c.is_weak.ensures, c.if-is_weak.true) ((rw c.weak_of.ensures at c.push.ensures))

pub returns-else-is_weak : goal.returns-else-is_weak
unfolding list_weak
returns-else-is_weak c = rw (← c.is_weak.ensures, c.if-is_weak.false)
