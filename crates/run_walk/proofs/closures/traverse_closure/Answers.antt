-- `run_walk::closures::traverse_closure` meets its contract: each way by its test. Assumes nothing.
use mathlib.Core.Path.{refl}
use native.Mathlib.Omega.{arith}
use Rattle.base.specs.Ways.{eq_yes, eq_no}
use Rattle.laid.specs.Laid.{functions_room, function_words, laid_of}
use Rattle.mark.specs.Shades.{named_in}
use Rattle.run_walk.specs.Closures.{traverse_closure}
use Rattle.run_walk.proofs.closures.traverse_closure.Goals as goal

pub shade-requires : goal.shade-requires
shade-requires c = rw c.functions_of-functions.ensures (functions_room _ _ (laid_of _ c.args.l.fits) c.requires.l_in_bounds)

pub shape_of-w-then-shade-eq0 : goal.shape_of-w-then-shade-eq0
shape_of-w-then-shade-eq0 c = refl

pub returns-then-shade-eq0 : goal.returns-then-shade-eq0
unfolding traverse_closure
returns-then-shade-eq0 c = (rw (← (rw c.functions_of-functions.ensures at c.shade.ensures)) (eq_yes _ _ _ _ _ c.if-shade-eq0.true refl), omega arith)

pub body_of-requires : goal.body_of-requires
body_of-requires c = record { room = rw c.functions_of-functions.ensures (functions_room _ _ (laid_of _ c.args.l.fits) c.requires.l_in_bounds); i_lt_slots = rw c.functions_of-functions.ensures (omega (arith, c.wide.ensures.0, named_in _ _ _ _ ((rw c.functions_of-functions.ensures at c.shade.ensures)) c.if-shade-eq0.false)) }

pub closure_cost-c-requires : goal.closure_cost-c-requires
closure_cost-c-requires c = omega (arith, function_words _ (laid_of _ c.args.l.fits), (rw c.functions_of-functions.ensures at c.body_of.ensures).1)

pub traverse_closure_at-requires : goal.traverse_closure_at-requires
traverse_closure_at-requires c = record { l_in_bounds = c.requires.l_in_bounds; r_bound = named_in _ _ _ _ ((rw c.functions_of-functions.ensures at c.shade.ensures)) c.if-shade-eq0.false }

pub shape_of-w : goal.shape_of-w
shape_of-w c = c.traverse_closure_at.auto.w

pub returns : goal.returns
unfolding traverse_closure
returns c = (rw (← (rw c.functions_of-functions.ensures at c.shade.ensures)) (eq_no _ _ _ _ _ c.if-shade-eq0.false (rw (← (rw c.wide.ensures.0 at (rw c.functions_of-functions.ensures at c.body_of.ensures).0), ← c.closure_cost-c.ensures.0, ← c.traverse_closure_at.ensures))), c.closure_cost-c.ensures.1)
