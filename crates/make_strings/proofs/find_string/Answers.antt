-- `make_strings::find_string` meets its contract: what is left of the loop gives the whole. Assumes nothing.
use mathlib.Core.Path.{◌∙◌, sym}
use native.Mathlib.Omega.{arith}
use Rattle.making.specs.Turns.{turns_start, turns_step, turns_end}
use Rattle.laid.specs.Laid.{strings_room, laid_of}
use Rattle.make_strings.proofs.find_string.Goals as goal

pub used_of-end-requires : goal.used_of-end-requires
used_of-end-requires c = rw c.strings_of.ensures (strings_room _ _ (laid_of _ c.args.l.fits) c.requires.l_in_bounds)

pub loop-i-init : goal.loop-i-init
loop-i-init c = turns_start _ _ _ _ (rw c.strings_of.ensures at c.used_of-end.ensures).0

pub holds-requires : goal.holds-requires
holds-requires c = record { l_in_bounds = c.requires.l_in_bounds; l_in_bounds_2 = c.requires.l_in_bounds_2; i_bound = omega (arith, c.loop-i-test.true, (rw c.strings_of.ensures at c.used_of-end.ensures).1) }

pub returns-then-holds : goal.returns-then-holds
returns-then-holds c = (rw (sym c.holds.ensures ∙ c.if-holds.true) at (turns_step _ _ _ _ c.loop-i.invariant c.loop-i-test.true), omega (arith, c.loop-i-test.true, (rw c.strings_of.ensures at c.used_of-end.ensures).1))

pub loop-i-preserved : goal.loop-i-preserved
loop-i-preserved c = rw (sym c.holds.ensures ∙ c.if-holds.false) at (turns_step _ _ _ _ c.loop-i.invariant c.loop-i-test.true)

pub returns : goal.returns
returns c = (turns_end _ _ _ _ c.loop-i.invariant c.loop-i-test.false, tt)
