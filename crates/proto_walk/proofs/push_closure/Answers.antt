-- `proto_walk::push_closure` meets its contract: the closure lies within its slot. Assumes nothing.
use native.Mathlib.Omega.{arith}
use Rattle.layout.specs.Layout.{lay_of}
use Rattle.laid.specs.Laid.{function_words, functions_room, laid_of}
use Rattle.run_walk.proofs.Laws.{parts_in}
use Rattle.proto_walk.proofs.push_closure.Goals as goal

pub body_of-p-requires : goal.body_of-p-requires
unfolding lay_of
body_of-p-requires c = rw c.functions_of.ensures (record { room = functions_room _ _ (laid_of _ c.args.l.fits) (omega arith); i_lt_slots = c.requires.i_bound })

pub set_closure_proto-requires : goal.set_closure_proto-requires
unfolding lay_of
set_closure_proto-requires c = record { p_in_bounds = omega (arith, rw (function_words _ (laid_of _ c.args.l.fits)) at (rw c.functions_of.ensures at c.body_of-p.ensures).1); n_bound = omega arith }

pub set_main_value-requires : goal.set_main_value-requires
unfolding lay_of
set_main_value-requires c = record { parts = parts_in (laid_of _ c.args.l.fits) (omega arith); i_bound = omega arith }
