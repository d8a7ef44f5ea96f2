-- `steps::finish_in` meets its contract: each way by its test. Assumes nothing.
use mathlib.Core.Path.{refl}
use native.Mathlib.Omega.{arith}
use Rattle.run_walk.proofs.Laws.{parts_in}
use Rattle.base.specs.Ways.{eq_yes, eq_no}
use Rattle.laid.specs.Laid.{laid_of}
use Rattle.steps.specs.Steps.{finish_in}
use Rattle.steps.proofs.finish_in.Goals as goal

pub get-kind-requires : goal.get-kind-requires
get-kind-requires c = omega (arith, (parts_in (laid_of _ c.args.l.fits) c.requires.l_in_bounds).header)

pub returns-then-kind-eq0 : goal.returns-then-kind-eq0
unfolding finish_in
returns-then-kind-eq0 c = eq_yes _ _ _ _ _ (rw c.get-kind.ensures at c.if-kind-eq0.true) refl

pub get64-left-requires : goal.get64-left-requires
get64-left-requires c = omega (arith, (parts_in (laid_of _ c.args.l.fits) c.requires.l_in_bounds).header)

pub take_back-requires : goal.take_back-requires
take_back-requires c = omega (arith, (parts_in (laid_of _ c.args.l.fits) c.requires.l_in_bounds).header)

pub succeed-requires : goal.succeed-requires
succeed-requires c = omega (arith, (parts_in (laid_of _ c.args.l.fits) c.requires.l_in_bounds).header, c.take_back.auto.w)

pub returns-then-ok : goal.returns-then-ok
unfolding finish_in
returns-then-ok c = eq_no _ _ _ _ _ (rw c.get-kind.ensures at c.if-kind-eq0.false) (rw (c.if-ok.true, ← c.get-kind.ensures, ← c.get64-left.ensures, ← c.take_back.ensures, ← c.succeed.ensures) c.resume.ensures)

pub returns : goal.returns
unfolding finish_in
returns c = eq_no _ _ _ _ _ (rw c.get-kind.ensures at c.if-kind-eq0.false) (rw (c.if-ok.false, ← c.take_back.ensures))
