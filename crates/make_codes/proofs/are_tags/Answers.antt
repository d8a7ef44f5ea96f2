-- `make_codes::are_tags` meets its contract: the turns from here on answer what all do. Assumes nothing.
use borrow.Author.Tests.{le-leb, lt-leb}
use mathlib.Core.Path.{refl}
use native.Mathlib.Omega.{arith}
use Rattle.making.specs.Turns.{each_again, each_stop, turns_end, turns_start}
use Rattle.make_codes.specs.Codes.{are_tags, is_tag}
use Rattle.make_codes.proofs.are_tags.Goals as goal

pub loop-k-init : goal.loop-k-init
loop-k-init c = turns_start _ _ _ _ refl

pub get-requires : goal.get-requires
get-requires c = omega (arith, c.loop-k-test.true)

pub returns-then-get-gt8 : goal.returns-then-get-gt8
unfolding are_tags is_tag
returns-then-get-gt8 c = each_stop _ _ _ c.loop-k.invariant c.loop-k-test.true (rw (← c.get.ensures) (lt-leb _ _ c.if-get-gt8.true))

pub loop-k-preserved : goal.loop-k-preserved
unfolding is_tag
loop-k-preserved c = each_again _ _ _ c.loop-k.invariant c.loop-k-test.true (rw (← c.get.ensures) (le-leb _ _ c.if-get-gt8.false))

pub returns : goal.returns
unfolding are_tags is_tag
returns c = turns_end _ _ _ _ c.loop-k.invariant c.loop-k-test.false
