-- `sweep_step::sweep_other_step` meets its contract: the callees' equations joined. Assumes nothing.
use Rattle.laid.specs.Laid.{laid_of}
use Rattle.sweep_step.specs.Rooms.{swept_room, swept_wide, header_in}
use Rattle.sweep_step.specs.Sweeping.{sweep_others}
use Rattle.sweep_step.proofs.sweep_other_step.Goals as goal

pub read_cursor-c-requires : goal.read_cursor-c-requires
read_cursor-c-requires c = header_in _ _ (laid_of _ c.args.l.fits) c.requires.l_in_bounds

pub sweep_arena-s-requires : goal.sweep_arena-s-requires
sweep_arena-s-requires c = record { room = rw c.arena_at.ensures (swept_room _ _ (laid_of _ c.args.l.fits) _ c.requires.l_in_bounds); wide = rw c.arena_at.ensures (swept_wide _ _ (laid_of _ c.args.l.fits) _ c.requires.l_in_bounds_2); in_bounds = (header_in _ _ (laid_of _ c.args.l.fits) c.requires.l_in_bounds, c.size_at.ensures.1) }

pub move_others-requires : goal.move_others-requires
move_others-requires c = (rw c.sweep_arena-s.auto.w (header_in _ _ (laid_of _ c.args.l.fits) c.requires.l_in_bounds), c.sweep_arena-s.ensures.small)

pub returns : goal.returns
unfolding sweep_others
returns c = rw (← (rw (c.arena_at.ensures, c.size_at.ensures.0, c.read_cursor-c.ensures) at c.sweep_arena-s.ensures.does), ← (rw c.read_cursor-c.ensures at c.move_others.ensures))
