-- `frame_calls::set_frame_in` meets its contract: each way by its test. Assumes nothing.
use mathlib.Core.Path.{refl}
use native.Mathlib.Omega.{arith}
use Rattle.layout.specs.Layout.{lay_of}
use Rattle.base.specs.Ways.{le_no, le_yes, lt_no, lt_yes}
use Rattle.laid.specs.Laid.{parts_room, laid_of}
use Rattle.frame_calls.specs.FrameCalls.{set_frame_in}
use Rattle.frame_calls.proofs.set_frame_in.Goals as goal

pub returns-then-l-k : goal.returns-then-l-k
unfolding set_frame_in lay_of
returns-then-l-k c = rw (← c.wide-k.ensures.0) (le_yes _ _ _ _ _ c.if-l-k.true refl)

pub returns-then-f-gt256 : goal.returns-then-f-gt256
unfolding set_frame_in lay_of
returns-then-f-gt256 c = rw (← c.wide-k.ensures.0, ← c.wide-f.ensures.0) (le_no _ _ _ _ _ c.if-l-k.false (lt_yes _ _ _ _ _ c.if-f-gt256.true refl))

pub set_frame_function-requires : goal.set_frame_function-requires
unfolding lay_of
set_frame_function-requires c = record { parts = parts_room _ c.args.w.now (laid_of _ c.args.l.fits) c.requires.l_in_bounds; i_bound = omega (arith, c.if-l-k.false); n_bound = omega (arith, c.if-f-gt256.false) }

pub returns : goal.returns
unfolding set_frame_in lay_of
returns c = rw (← c.wide-k.ensures.0, ← c.wide-f.ensures.0) (le_no _ _ _ _ _ c.if-l-k.false (lt_no _ _ _ _ _ c.if-f-gt256.false (rw (← c.set_frame_function.ensures))))
