-- `step::method_of` meets its contract: each way by its test. Assumes nothing.
use mathlib.Core.Path.{refl, sym, ◌∙◌}
use native.Mathlib.Omega.{arith}
use Rattle.base.specs.Ways.{eq_yes, eq_no}
use Rattle.laid.specs.Laid.{userdata_room, userdata_words, laid_of}
use Rattle.mark.specs.Shades.{named_in}
use Rattle.step.specs.Step.{method_of}
use Rattle.step.proofs.method_of.Goals as goal

pub shade-requires : goal.shade-requires
shade-requires c = rw c.userdata_of-userdata.ensures (userdata_room _ _ (laid_of _ c.args.l.fits) c.requires.l_in_bounds)

pub returns-then-shade-eq0 : goal.returns-then-shade-eq0
unfolding method_of
returns-then-shade-eq0 c = eq_yes _ _ _ _ _ (sym ((rw c.userdata_of-userdata.ensures at c.shade.ensures)) ∙ c.if-shade-eq0.true) refl

pub body_of-p-requires : goal.body_of-p-requires
body_of-p-requires c = record { room = rw c.userdata_of-userdata.ensures (userdata_room _ _ (laid_of _ c.args.l.fits) c.requires.l_in_bounds); i_lt_slots = rw c.userdata_of-userdata.ensures (omega (arith, c.wide.ensures.0, named_in _ _ _ _ ((rw c.userdata_of-userdata.ensures at c.shade.ensures)) c.if-shade-eq0.false)) }

pub ud_meta-requires : goal.ud_meta-requires
ud_meta-requires c = omega (arith, (rw c.userdata_of-userdata.ensures at c.body_of-p.ensures).1, userdata_words _ (laid_of _ c.args.l.fits))

pub returns : goal.returns
unfolding method_of
returns c = eq_no _ _ _ _ _ (λ e. c.if-shade-eq0.false ((rw c.userdata_of-userdata.ensures at c.shade.ensures) ∙ e)) (rw (← (rw c.wide.ensures.0 at (rw c.userdata_of-userdata.ensures at c.body_of-p.ensures).0), ← c.ud_meta.ensures) c.gc_method.ensures)
