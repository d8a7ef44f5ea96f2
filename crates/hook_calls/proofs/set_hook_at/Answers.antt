-- `hook_calls::set_hook_at` meets its contract: each way by its test. Assumes nothing.
use native.Mathlib.Omega.{arith}
use Rattle.laid.specs.Laid.{threads_room, laid_of}
use Rattle.hook_calls.specs.HookCalls.{hook_at}
use Rattle.hook_calls.proofs.set_hook_at.Goals as goal

pub returns-then-not-is_sound : goal.returns-then-not-is_sound
unfolding hook_at
returns-then-not-is_sound c = rw (← c.is_sound.ensures, c.if-not-is_sound.true)

pub shade-colour-requires : goal.shade-colour-requires
shade-colour-requires c = rw c.threads_of.ensures (threads_room _ _ (laid_of _ c.args.l.fits) (omega (arith, c.set_thread_hook.auto.w, c.requires.l_in_bounds)))

pub returns : goal.returns
unfolding hook_at
returns c = rw (← c.is_sound.ensures, c.if-not-is_sound.false, ← c.set_thread_hook.ensures, ← (rw c.threads_of.ensures at c.shade-colour.ensures), ← c.barrier_forward.ensures)
