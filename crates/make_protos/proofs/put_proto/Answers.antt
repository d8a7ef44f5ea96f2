-- `make_protos::put_proto` meets its contract: the callees' equations joined. Assumes nothing.
use native.Mathlib.Omega.{arith}
use Rattle.laid.specs.Laid.{parts_room, protos_most, laid_of}
use Rattle.make_protos.specs.Making.{put_proto}
use Rattle.make_protos.proofs.put_proto.Goals as goal

pub overflow_mul-p : goal.overflow_mul-p
overflow_mul-p c = omega (arith, c.protos_at.ensures, (parts_room _ c.args.w.now (laid_of _ c.args.l.fits) c.requires.l_in_bounds).protos, c.requires.n_bound.0)

pub overflow_add-p : goal.overflow_add-p
overflow_add-p c = omega (arith, c.protos_at.ensures, (parts_room _ c.args.w.now (laid_of _ c.args.l.fits) c.requires.l_in_bounds).protos, c.requires.n_bound.0)

pub clear_words-requires : goal.clear_words-requires
clear_words-requires c = omega (arith, c.protos_at.ensures, (parts_room _ c.args.w.now (laid_of _ c.args.l.fits) c.requires.l_in_bounds).protos, c.requires.n_bound.0)

pub set_proto_counts-requires : goal.set_proto_counts-requires
set_proto_counts-requires c = record { parts = rw c.clear_words.auto.w (parts_room _ c.args.w.now (laid_of _ c.args.l.fits) c.requires.l_in_bounds); n_bound = c.requires.n_bound.0; constants_bound = (omega (arith, c.protos_at.ensures, c.requires.n_bound.1), c.requires.n_bound.2) }

pub overflow_add-p-2 : goal.overflow_add-p-2
overflow_add-p-2 c = omega (arith, c.protos_at.ensures, (parts_room _ c.args.w.now (laid_of _ c.args.l.fits) c.requires.l_in_bounds).protos, c.requires.n_bound.0)

pub put_values-requires : goal.put_values-requires
put_values-requires c = (omega (arith, c.protos_at.ensures, (parts_room _ c.args.w.now (laid_of _ c.args.l.fits) c.requires.l_in_bounds).protos, c.requires.n_bound.0, c.requires.n_bound.1, c.clear_words.auto.w, c.set_proto_counts.auto.w), omega (arith, c.protos_at.ensures))

pub put_nested-requires : goal.put_nested-requires
put_nested-requires c = record { l_in_bounds = omega (arith, c.protos_at.ensures, c.requires.l_in_bounds, c.clear_words.auto.w, c.set_proto_counts.auto.w, c.put_values.auto.w); n_bound = (c.requires.n_bound.0, c.requires.n_bound.2); below = c.requires.below }

pub overflow_add-n : goal.overflow_add-n
overflow_add-n c = omega (arith, c.protos_at.ensures, protos_most _ (laid_of _ c.args.l.fits), c.requires.n_bound.0)

pub set_protos_used-requires : goal.set_protos_used-requires
set_protos_used-requires c = record { in_bounds = omega (arith, c.protos_at.ensures, (parts_room _ c.args.w.now (laid_of _ c.args.l.fits) c.requires.l_in_bounds).header, c.clear_words.auto.w, c.set_proto_counts.auto.w, c.put_values.auto.w, c.put_nested.auto.w); n_bound = omega (arith, c.protos_at.ensures, protos_most _ (laid_of _ c.args.l.fits), c.requires.n_bound.0) }

pub returns : goal.returns
unfolding put_proto
returns c = rw (← (rw c.protos_at.ensures at c.clear_words.ensures), ← c.set_proto_counts.ensures, ← (rw c.protos_at.ensures at c.put_values.ensures), ← c.put_nested.ensures) c.set_protos_used.ensures
