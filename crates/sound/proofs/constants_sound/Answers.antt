-- `sound::constants_sound` meets its contract: the callees' equations joined. Assumes nothing.
use native.Mathlib.Omega.{arith}
use Rattle.laid.specs.Laid.{parts_room, laid_of}
use Rattle.sound.specs.Sound.{constants_sound}
use Rattle.sound.proofs.constants_sound.Goals as goal

pub proto_constants-k-requires : goal.proto_constants-k-requires
proto_constants-k-requires c = parts_room _ c.args.w.now (laid_of _ c.args.l.fits) c.requires.l_in_bounds

pub overflow_mul-n : goal.overflow_mul-n
overflow_mul-n c = omega (arith, c.protos_at.ensures, (parts_room _ c.args.w.now (laid_of _ c.args.l.fits) c.requires.l_in_bounds).protos, c.requires.n_bound)

pub overflow_add-protos_at : goal.overflow_add-protos_at
overflow_add-protos_at c = omega (arith, c.protos_at.ensures, (parts_room _ c.args.w.now (laid_of _ c.args.l.fits) c.requires.l_in_bounds).protos, c.requires.n_bound)

pub overflow_add-protos_at-2 : goal.overflow_add-protos_at-2
overflow_add-protos_at-2 c = omega (arith, c.protos_at.ensures, (parts_room _ c.args.w.now (laid_of _ c.args.l.fits) c.requires.l_in_bounds).protos, c.requires.n_bound)

pub are_sound-requires : goal.are_sound-requires
are_sound-requires c = record { l_in_bounds = c.requires.l_in_bounds; n_in_bounds = omega (arith, c.protos_at.ensures, (parts_room _ c.args.w.now (laid_of _ c.args.l.fits) c.requires.l_in_bounds).protos, c.requires.n_bound, c.proto_constants-k.ensures.1) }

pub returns : goal.returns
unfolding constants_sound
returns c = rw (← c.proto_constants-k.ensures.0) ((rw c.protos_at.ensures at c.are_sound.ensures))
