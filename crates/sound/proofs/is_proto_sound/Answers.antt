-- `sound::is_proto_sound` meets its contract: none is seen yet. Assumes nothing.
use Rattle.laid.specs.Laid.{protos_most, laid_of}
use Rattle.sound.proofs.Laws.{known_none}
use Rattle.sound.proofs.is_proto_sound.Goals as goal

pub sound_proto-requires : goal.sound_proto-requires
sound_proto-requires c = record { l_in_bounds = c.requires.l_in_bounds; n_bound = (c.requires.n_bound, protos_most _ (laid_of _ c.args.l.fits)); known = known_none _ _ 256 _ }
