-- `sound::are_sound` meets its contract: the turns from here on answer what all do. Assumes nothing.
use mathlib.Core.Path.{◌∙◌, refl, sym}
use native.Mathlib.Omega.{arith}
use Rattle.making.specs.Turns.{each_again, each_stop, turns_end, turns_start}
use Rattle.sound.specs.Sound.{are_sound, sound_at}
use Rattle.sound.proofs.are_sound.Goals as goal

pub loop-k-init : goal.loop-k-init
loop-k-init c = turns_start _ _ _ _ refl

pub overflow_mul-k : goal.overflow_mul-k
overflow_mul-k c = omega (arith, c.loop-k-test.true, c.requires.n_in_bounds)

pub overflow_add-p : goal.overflow_add-p
overflow_add-p c = omega (arith, c.loop-k-test.true, c.requires.n_in_bounds)

pub read_value-requires : goal.read_value-requires
read_value-requires c = omega (arith, c.loop-k-test.true, c.requires.n_in_bounds)

pub is_sound-requires : goal.is_sound-requires
is_sound-requires c = record { l_in_bounds = c.requires.l_in_bounds }

pub returns-then-not-is_sound : goal.returns-then-not-is_sound
unfolding are_sound sound_at
returns-then-not-is_sound c = each_stop _ _ _ c.loop-k.invariant c.loop-k-test.true (rw (← c.read_value.ensures) (sym c.is_sound.ensures ∙ c.if-not-is_sound.true))

pub loop-k-preserved : goal.loop-k-preserved
unfolding sound_at
loop-k-preserved c = each_again _ _ _ c.loop-k.invariant c.loop-k-test.true (rw (← c.read_value.ensures) (sym c.is_sound.ensures ∙ c.if-not-is_sound.false))

pub returns : goal.returns
unfolding are_sound sound_at
returns c = turns_end _ _ _ _ c.loop-k.invariant c.loop-k-test.false
