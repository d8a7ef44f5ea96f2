-- `held::slots_name` meets its contract: the turns from here on answer what all do. Assumes nothing.
use mathlib.Core.Path.{◌∙◌, sym}
use native.Mathlib.Omega.{arith}
use Rattle.laid.specs.Laid.{laid_of}
use Rattle.making.specs.Turns.{each_again, each_stop, turns_end, turns_start}
use Rattle.held.specs.Held.{slots_name}
use Rattle.held.proofs.Laws.{kind_room}
use Rattle.held.proofs.slots_name.Goals as goal

pub used_of-n-requires : goal.used_of-n-requires
used_of-n-requires c = rw c.arena_of.ensures (kind_room _ c.args.k _ (laid_of _ c.args.l.fits) c.requires.l_in_bounds)

pub loop-i-init : goal.loop-i-init
loop-i-init c = turns_start _ _ _ _ (rw (← c.arena_of.ensures) c.used_of-n.ensures.0)

pub slot_names-requires : goal.slot_names-requires
slot_names-requires c = record { l_in_bounds = c.requires.l_in_bounds; i_bound = rw (← c.arena_of.ensures) (omega (arith, c.loop-i-test.true, c.used_of-n.ensures.1)) }

pub returns-then-not-slot_names : goal.returns-then-not-slot_names
unfolding slots_name
returns-then-not-slot_names c = each_stop _ _ _ c.loop-i.invariant c.loop-i-test.true (sym c.slot_names.ensures ∙ c.if-not-slot_names.true)

pub loop-i-preserved : goal.loop-i-preserved
loop-i-preserved c = each_again _ _ _ c.loop-i.invariant c.loop-i-test.true (sym c.slot_names.ensures ∙ c.if-not-slot_names.false)

pub returns : goal.returns
unfolding slots_name
returns c = turns_end _ _ _ _ c.loop-i.invariant c.loop-i-test.false
