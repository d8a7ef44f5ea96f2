-- `make_protos::are_nestable` meets its contract: the turns from here on answer what all do. Assumes nothing.
use mathlib.Core.Path.{◌∙◌, refl, sym}
use Rattle.making.specs.Turns.{each_again, each_stop, turns_end, turns_start}
use Rattle.make_protos.specs.Making.{are_nestable}
use Rattle.make_protos.proofs.are_nestable.Goals as goal

pub loop-k-init : goal.loop-k-init
loop-k-init c = turns_start _ _ _ _ refl

pub can_nest-requires : goal.can_nest-requires
can_nest-requires c = record { l_in_bounds = c.requires.l_in_bounds; k_in_bounds = c.loop-k-test.true }

pub returns-then-not-can_nest : goal.returns-then-not-can_nest
unfolding are_nestable
returns-then-not-can_nest c = each_stop _ _ _ c.loop-k.invariant c.loop-k-test.true (sym c.can_nest.ensures ∙ c.if-not-can_nest.true)

pub loop-k-preserved : goal.loop-k-preserved
loop-k-preserved c = each_again _ _ _ c.loop-k.invariant c.loop-k-test.true (sym c.can_nest.ensures ∙ c.if-not-can_nest.false)

pub returns : goal.returns
unfolding are_nestable
returns c = turns_end _ _ _ _ c.loop-k.invariant c.loop-k-test.false
