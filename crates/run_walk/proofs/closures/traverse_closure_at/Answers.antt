-- `run_walk::closures::traverse_closure_at` meets its contract: the callees' equations joined. Assumes nothing.
use mathlib.Core.Path.{◌∙◌}
use native.Mathlib.Omega.{arith}
use Rattle.laid.specs.Laid.{functions_room, function_words, laid_of}
use Rattle.run_walk.specs.Closures.{traverse_closure_at}
use Rattle.run_walk.proofs.closures.traverse_closure_at.Goals as goal

pub body_of-p-requires : goal.body_of-p-requires
body_of-p-requires c = record { room = rw c.functions_of-functions.ensures (functions_room _ _ (laid_of _ c.args.l.fits) c.requires.l_in_bounds); i_lt_slots = rw c.functions_of-functions.ensures (omega (arith, c.wide-i.ensures.0, c.requires.r_bound)) }

pub closure_env-env-requires : goal.closure_env-env-requires
closure_env-env-requires c = omega (arith, function_words _ (laid_of _ c.args.l.fits), (rw c.functions_of-functions.ensures at c.body_of-p.ensures).1)

pub set_colour-requires : goal.set_colour-requires
set_colour-requires c = record { room = rw c.functions_of-functions.ensures (functions_room _ _ (laid_of _ c.args.l.fits) c.requires.l_in_bounds); i_lt_slots = rw c.functions_of-functions.ensures (omega (arith, c.wide-i.ensures.0, c.requires.r_bound)) }

pub mark_table_or-requires : goal.mark_table_or-requires
mark_table_or-requires c = record { l_in_bounds = omega (arith, c.requires.l_in_bounds, c.set_colour.auto.w) }

pub is_rust-requires : goal.is_rust-requires
is_rust-requires c = omega (arith, function_words _ (laid_of _ c.args.l.fits), (rw c.functions_of-functions.ensures at c.body_of-p.ensures).1, c.set_colour.auto.w, c.mark_table_or.auto.w)

pub mark_rust-requires : goal.mark_rust-requires
mark_rust-requires c = record { l_in_bounds = omega (arith, c.requires.l_in_bounds, c.set_colour.auto.w, c.mark_table_or.auto.w); p_in_bounds = omega (arith, function_words _ (laid_of _ c.args.l.fits), (rw c.functions_of-functions.ensures at c.body_of-p.ensures).1, c.set_colour.auto.w, c.mark_table_or.auto.w) }

pub shape_of-w-then-is_rust : goal.shape_of-w-then-is_rust
shape_of-w-then-is_rust c = c.mark_rust.auto.w ∙ c.mark_table_or.auto.w ∙ c.set_colour.auto.w

pub returns-then-is_rust : goal.returns-then-is_rust
unfolding traverse_closure_at
returns-then-is_rust c = rw (← c.wide-i.ensures.0, ← (rw c.functions_of-functions.ensures at c.body_of-p.ensures).0, ← c.closure_env-env.ensures, ← (rw c.functions_of-functions.ensures at c.set_colour.ensures), ← c.mark_table_or.ensures, ← c.is_rust.ensures, c.if-is_rust.true) c.mark_rust.ensures

pub mark_lua-requires : goal.mark_lua-requires
mark_lua-requires c = record { l_in_bounds = omega (arith, c.requires.l_in_bounds, c.set_colour.auto.w, c.mark_table_or.auto.w); p_in_bounds = omega (arith, function_words _ (laid_of _ c.args.l.fits), (rw c.functions_of-functions.ensures at c.body_of-p.ensures).1, c.set_colour.auto.w, c.mark_table_or.auto.w) }

pub shape_of-w-else-is_rust : goal.shape_of-w-else-is_rust
shape_of-w-else-is_rust c = c.mark_lua.auto.w ∙ c.mark_table_or.auto.w ∙ c.set_colour.auto.w

pub returns-else-is_rust : goal.returns-else-is_rust
unfolding traverse_closure_at
returns-else-is_rust c = rw (← c.wide-i.ensures.0, ← (rw c.functions_of-functions.ensures at c.body_of-p.ensures).0, ← c.closure_env-env.ensures, ← (rw c.functions_of-functions.ensures at c.set_colour.ensures), ← c.mark_table_or.ensures, ← c.is_rust.ensures, c.if-is_rust.false) c.mark_lua.ensures
