-- `pace::steps_most` meets its contract: from what its callees promise. Assumes nothing.
use native.Mathlib.Omega.{arith}
use Rattle.layout.specs.Layout.{lay_of}
use Rattle.pace.proofs.steps_most.Goals as goal

pub overflow_add-gray : goal.overflow_add-gray
overflow_add-gray c = omega (arith, c.args.l.fits)

pub overflow_add-gray-2 : goal.overflow_add-gray-2
overflow_add-gray-2 c = omega (arith, c.args.l.fits)

pub overflow_mul-gray : goal.overflow_mul-gray
overflow_mul-gray c = omega (arith, c.args.l.fits)

pub overflow_add-gray-3 : goal.overflow_add-gray-3
overflow_add-gray-3 c = omega (arith, c.args.l.fits)

pub overflow_add-first : goal.overflow_add-first
overflow_add-first c = omega (arith, c.args.l.fits)

pub overflow_add-first-2 : goal.overflow_add-first-2
overflow_add-first-2 c = omega (arith, c.args.l.fits)

pub overflow_add-second : goal.overflow_add-second
overflow_add-second c = omega (arith, c.args.l.fits)

pub overflow_add-second-2 : goal.overflow_add-second-2
overflow_add-second-2 c = omega (arith, c.args.l.fits)

pub overflow_add-result : goal.overflow_add-result
overflow_add-result c = omega (arith, c.args.l.fits)

pub overflow_add-result-2 : goal.overflow_add-result-2
overflow_add-result-2 c = omega (arith, c.args.l.fits)

pub overflow_add-result-3 : goal.overflow_add-result-3
overflow_add-result-3 c = omega (arith, c.args.l.fits)

pub overflow_add-result-4 : goal.overflow_add-result-4
overflow_add-result-4 c = omega (arith, c.args.l.fits)

pub returns : goal.returns
unfolding lay_of
returns c = (omega arith, omega (arith, c.args.l.fits))
