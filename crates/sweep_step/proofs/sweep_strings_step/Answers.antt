-- `sweep_step::sweep_strings_step` meets its contract: the callees' equations joined. Assumes nothing.
use native.Mathlib.Omega.{arith}
use Rattle.laid.specs.Laid.{strings_room, laid_of}
use Rattle.sweep_step.specs.Rooms.{strings_wide, header_in}
use Rattle.sweep_step.specs.Sweeping.{sweep_strings}
use Rattle.sweep_step.proofs.sweep_strings_step.Goals as goal

pub read_cursor-c-requires : goal.read_cursor-c-requires
read_cursor-c-requires c = header_in _ _ (laid_of _ c.args.l.fits) c.requires.l_in_bounds

pub sweep_arena-s-requires : goal.sweep_arena-s-requires
sweep_arena-s-requires c = record { room = rw c.strings_of.ensures (strings_room _ _ (laid_of _ c.args.l.fits) c.requires.l_in_bounds); wide = rw c.strings_of.ensures (strings_wide _ _ (laid_of _ c.args.l.fits) c.requires.l_in_bounds_2); in_bounds = (header_in _ _ (laid_of _ c.args.l.fits) c.requires.l_in_bounds, omega arith) }

pub move_strings-requires : goal.move_strings-requires
move_strings-requires c = (rw c.sweep_arena-s.auto.w (header_in _ _ (laid_of _ c.args.l.fits) c.requires.l_in_bounds), c.sweep_arena-s.ensures.small)

pub returns : goal.returns
unfolding sweep_strings
returns c = rw (← (rw c.read_cursor-c.ensures at (rw c.strings_of.ensures at c.sweep_arena-s.ensures.does)), ← (rw c.read_cursor-c.ensures at c.move_strings.ensures))
