-- `audit::lists_within` meets its contract: the callees' equations joined. Assumes nothing.
use native.Mathlib.Omega.{arith}
use Rattle.laid.specs.Laid.{gray_room_lem, grayagain_room_lem, queue_room_lem, weak_room_lem, laid_of}
use Rattle.audit.specs.Audit.{lists_within}
use Rattle.audit.proofs.lists_within.Goals as goal

pub is_within-requires : goal.is_within-requires
is_within-requires c = rw c.gray_of.ensures (omega (arith, gray_room_lem _ c.args.w.now (laid_of _ c.args.l.fits) c.requires.l_in_bounds))

pub is_within-requires-2 : goal.is_within-requires-2
is_within-requires-2 c = rw c.grayagain_of.ensures (omega (arith, grayagain_room_lem _ c.args.w.now (laid_of _ c.args.l.fits) c.requires.l_in_bounds))

pub is_within-requires-3 : goal.is_within-requires-3
is_within-requires-3 c = rw c.weak_of.ensures (omega (arith, weak_room_lem _ c.args.w.now (laid_of _ c.args.l.fits) c.requires.l_in_bounds))

pub is_within-requires-4 : goal.is_within-requires-4
is_within-requires-4 c = rw c.queue_of.ensures (omega (arith, queue_room_lem _ c.args.w.now (laid_of _ c.args.l.fits) c.requires.l_in_bounds))

pub returns : goal.returns
unfolding lists_within
returns c = rw (← (rw c.gray_of.ensures at c.is_within.ensures), ← (rw c.grayagain_of.ensures at c.is_within-2.ensures), ← (rw c.weak_of.ensures at c.is_within-3.ensures), ← (rw c.queue_of.ensures at c.is_within-4.ensures))
