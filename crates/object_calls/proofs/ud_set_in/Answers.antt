-- `object_calls::ud_set_in` meets its contract: the callees' equations joined. Assumes nothing.
use Rattle.std.specs.Prelude.{List, ℕ, Option}
use mathlib.Core.Path.{◌≡◌, refl}
use Rattle.value.specs.declared.TableRef.{TableRef}
use Rattle.value.specs.declared.UdRef.{UdRef}
use Rattle.layout.specs.declared.Lay.{Lay}
use Rattle.entered.specs.Entered.{none_refused}
use Rattle.given.specs.Answers.{on_named}
use Rattle.laid.specs.Laid.{userdata_room, userdata_words, laid_of}
use Rattle.object_calls.specs.declared.Part.{Part}
use Rattle.object_calls.specs.declared.Part.TheVariants.{Meta, Env}
use Rattle.object_calls.specs.ObjectCalls.{part_at, ud_set_meta_in, ud_set_env_in, ud_set_in}
use Rattle.object_calls.proofs.ud_set_in.Goals as goal

-- either part of the userdata that is named
by_part : (k : Part) (d : UdRef) (t : Option TableRef) (l : Lay) (w : List ℕ) → on_named l.userdata d.0 d.1 (part_at k l d t) w ≡ ud_set_in k d t l w
unfolding ud_set_meta_in ud_set_env_in
by_part Meta d t l w = refl
by_part Env d t l w = refl

pub name_of-requires : goal.name_of-requires
name_of-requires c = rw c.userdata_of-userdata.ensures (userdata_room _ _ (laid_of _ c.args.l.fits) c.requires.l_in_bounds)

pub body_of-p-requires : goal.body_of-p-requires
body_of-p-requires c = record { room = rw c.userdata_of-userdata.ensures (userdata_room _ _ (laid_of _ c.args.l.fits) c.requires.l_in_bounds); i_lt_slots = rw c.userdata_of-userdata.ensures (rw (rw c.in_ok-n.was at c.ok_or.ensures.ok_part) at (rw c.userdata_of-userdata.ensures at c.name_of.ensures).1) }

pub part_at-requires : goal.part_at-requires
part_at-requires c = record { l_in_bounds = c.requires.l_in_bounds; p_in_bounds = rw (userdata_words _ (laid_of _ c.args.l.fits)) at (rw c.userdata_of-userdata.ensures at c.body_of-p.ensures).1 }

pub returns : goal.returns
returns c = rw (← by_part, ← (rw c.userdata_of-userdata.ensures at c.name_of.ensures).0, rw c.in_ok-n.was at c.ok_or.ensures.ok_part, ← (rw c.userdata_of-userdata.ensures at c.body_of-p.ensures).0) c.part_at.ensures

pub returns-in_err-n : goal.returns-in_err-n
returns-in_err-n c = let (a, b) = none_refused _ _ c.ok_or.ensures.value c.in_err-n.was c.from_residual.ensures.1 in rw (← by_part, ← (rw c.userdata_of-userdata.ensures at c.name_of.ensures).0, a, b)
