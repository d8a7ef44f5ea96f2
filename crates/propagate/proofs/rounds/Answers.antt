-- `propagate::rounds` meets its contract: by the most that each part of a layout has. Assumes nothing.
use native.Mathlib.Omega.{arith}
use Rattle.layout.specs.Layout.{lay_of}
use Rattle.propagate.proofs.rounds.Goals as goal

pub overflow_add-result : goal.overflow_add-result
overflow_add-result c = omega (arith, c.args.l.fits)

pub overflow_add-result-2 : goal.overflow_add-result-2
overflow_add-result-2 c = omega (arith, c.args.l.fits)

pub overflow_mul-result : goal.overflow_mul-result
overflow_mul-result c = omega (arith, c.args.l.fits)

pub overflow_add-result-3 : goal.overflow_add-result-3
overflow_add-result-3 c = omega (arith, c.args.l.fits)

pub returns : goal.returns
unfolding lay_of
returns c = (omega arith, omega (arith, c.args.l.fits))
