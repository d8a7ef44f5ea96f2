-- `audit::passes` meets its contract: each way by its test. Assumes nothing.
use mathlib.Core.Path.{◌∙◌, sym}
use native.Mathlib.Omega.{arith}
use borrow.Author.Tests.{eq-eqb, ne_eqb}
use Rattle.base.specs.Words.{at}
use Rattle.laid.specs.Laid.{header_room, laid_of}
use Rattle.audit.specs.Audit.{audit_of}
use Rattle.audit.proofs.passes.Goals as goal

pub bounds-w-53 : goal.bounds-w-53
bounds-w-53 c = omega (arith, header_room _ c.args.w.now (laid_of _ c.args.l.fits) c.requires.l_in_bounds)

pub returns-then-w-ne0 : goal.returns-then-w-ne0
unfolding audit_of
returns-then-w-ne0 c = rw (ne_eqb (at c.args.w.now 53) 0 (λ e. omega (arith, c.if-w-ne0.true)))

pub returns-then-not-lists_within : goal.returns-then-not-lists_within
unfolding audit_of
returns-then-not-lists_within c = rw (eq-eqb (at c.args.w.now 53) 0 (omega (arith, c.if-w-ne0.false)), sym c.lists_within.ensures ∙ c.if-not-lists_within.true)

pub returns-then-not-chains_hold : goal.returns-then-not-chains_hold
unfolding audit_of
returns-then-not-chains_hold c = rw (eq-eqb (at c.args.w.now 53) 0 (omega (arith, c.if-w-ne0.false)), sym c.lists_within.ensures ∙ c.if-not-lists_within.false, sym c.chains_hold.ensures ∙ c.if-not-chains_hold.true)

pub returns : goal.returns
unfolding audit_of
returns c = rw (eq-eqb (at c.args.w.now 53) 0 (omega (arith, c.if-w-ne0.false)), sym c.lists_within.ensures ∙ c.if-not-lists_within.false, sym c.chains_hold.ensures ∙ c.if-not-chains_hold.false) c.all_name.ensures
