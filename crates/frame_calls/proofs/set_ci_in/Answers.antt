-- `frame_calls::set_ci_in` meets its contract: each way by its test. Assumes nothing.
use mathlib.Core.Path.{refl}
use native.Mathlib.Omega.{arith}
use Rattle.layout.specs.Layout.{lay_of}
use Rattle.base.specs.Ways.{le_no, le_yes}
use Rattle.laid.specs.Laid.{header_room, laid_of}
use Rattle.frame_calls.specs.FrameCalls.{set_ci_in}
use Rattle.frame_calls.proofs.Laws.{frames_most}
use Rattle.frame_calls.proofs.set_ci_in.Goals as goal

pub returns-then-l-k : goal.returns-then-l-k
unfolding set_ci_in lay_of
returns-then-l-k c = rw (← c.wide-k.ensures.0) (le_yes _ _ _ _ _ c.if-l-k.true refl)

pub set_main_ci-requires : goal.set_main_ci-requires
unfolding lay_of
set_main_ci-requires c = record { in_bounds = header_room _ c.args.w.now (laid_of _ c.args.l.fits) c.requires.l_in_bounds; n_bound = omega (arith, c.if-l-k.false, frames_most _ (laid_of _ c.args.l.fits)) }

pub returns : goal.returns
unfolding set_ci_in lay_of
returns c = rw (← c.wide-k.ensures.0) (le_no _ _ _ _ _ c.if-l-k.false (rw (← c.set_main_ci.ensures)))
