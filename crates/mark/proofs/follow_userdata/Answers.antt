-- `mark::follow_userdata` meets its contract: the callees' equations joined. Assumes nothing.
use native.Mathlib.Omega.{arith}
use Rattle.laid.specs.Laid.{userdata_room, userdata_words, laid_of}
use Rattle.mark.specs.Marking.{follow_userdata}
use Rattle.mark.proofs.follow_userdata.Goals as goal

pub body_of-p-requires : goal.body_of-p-requires
body_of-p-requires c = record { room = rw c.userdata_of-userdata.ensures (userdata_room _ _ (laid_of _ c.args.l.fits) c.requires.l_in_bounds); i_lt_slots = rw c.userdata_of-userdata.ensures (omega (arith, c.wide-i.ensures.0, c.requires.r_bound)) }

pub ud_meta-mt-requires : goal.ud_meta-mt-requires
ud_meta-mt-requires c = omega (arith, userdata_words _ (laid_of _ c.args.l.fits), (rw c.userdata_of-userdata.ensures at c.body_of-p.ensures).1)

pub ud_env-env-requires : goal.ud_env-env-requires
ud_env-env-requires c = omega (arith, userdata_words _ (laid_of _ c.args.l.fits), (rw c.userdata_of-userdata.ensures at c.body_of-p.ensures).1)

pub set_colour-requires : goal.set_colour-requires
set_colour-requires c = record { room = rw c.userdata_of-userdata.ensures (userdata_room _ _ (laid_of _ c.args.l.fits) c.requires.l_in_bounds); i_lt_slots = rw c.userdata_of-userdata.ensures (omega (arith, c.wide-i.ensures.0, c.requires.r_bound)) }

pub returns : goal.returns
unfolding follow_userdata
returns c = rw (← c.wide-i.ensures.0, ← (rw c.userdata_of-userdata.ensures at c.body_of-p.ensures).0, ← c.ud_meta-mt.ensures, ← c.ud_env-env.ensures, ← (rw c.userdata_of-userdata.ensures at c.set_colour.ensures), ← c.mark_table_or.ensures) c.mark_table_or-2.ensures
