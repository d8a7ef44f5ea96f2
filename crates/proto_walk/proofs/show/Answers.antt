-- `proto_walk::show` meets its contract: what was planned fits the words that it says. Assumes nothing.
use native.Mathlib.Omega.{arith}
use Rattle.proto_walk.proofs.show.Goals as goal

pub walk_in-requires : goal.walk_in-requires
walk_in-requires g c = record { l_bound = omega (arith, c.words_of.ensures, c.if-words_of-gt16472.false) }
