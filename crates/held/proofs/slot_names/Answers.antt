-- `held::slot_names` meets its contract: a free slot has no record. Assumes nothing.
use mathlib.Core.Path.{refl}
use native.Mathlib.Omega.{arith}
use Rattle.base.specs.Ways.{eq_no, eq_yes}
use Rattle.laid.specs.Laid.{laid_of}
use Rattle.held.specs.Held.{slot_names}
use Rattle.held.proofs.Laws.{kind_room, kind_words}
use Rattle.held.proofs.slot_names.Goals as goal

pub colour_of-requires : goal.colour_of-requires
colour_of-requires c = record { room = rw c.arena_of-a.ensures (kind_room _ c.args.k _ (laid_of _ c.args.l.fits) c.requires.l_in_bounds); i_lt_slots = rw c.arena_of-a.ensures (c.requires.i_bound) }

pub returns-then-colour_of-eq0 : goal.returns-then-colour_of-eq0
unfolding slot_names
returns-then-colour_of-eq0 c = rw (← c.arena_of-a.ensures) (eq_yes _ _ _ _ _ (omega (arith, c.if-colour_of-eq0.true, c.colour_of.ensures)) refl)

pub body_of-requires : goal.body_of-requires
body_of-requires c = record { room = rw c.arena_of-a.ensures (kind_room _ c.args.k _ (laid_of _ c.args.l.fits) c.requires.l_in_bounds); i_lt_slots = rw c.arena_of-a.ensures (c.requires.i_bound) }

pub record_names-requires : goal.record_names-requires
record_names-requires c = record { l_in_bounds = c.requires.l_in_bounds; k_in_bounds = rw (← kind_words _ c.args.k (laid_of _ c.args.l.fits), ← c.arena_of-a.ensures) c.body_of.ensures.1 }

pub returns : goal.returns
unfolding slot_names
returns c = rw (← c.arena_of-a.ensures) (eq_no _ _ _ _ _ (λ e. omega (arith, c.if-colour_of-eq0.false, c.colour_of.ensures)) (rw (← c.body_of.ensures.0) c.record_names.ensures))
