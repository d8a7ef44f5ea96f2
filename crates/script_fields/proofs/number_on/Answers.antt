-- `script_fields::number_on` meets its contract: what is left of the loop gives the whole. Assumes nothing.
use native.Mathlib.Omega.{arith}
use mathlib.Core.Path.{◌≡◌, refl, ◌∙◌}
use Rattle.script_fields.specs.Laws.{number_part, number_low, number_high, number_past, number_again, number_end}
use Rattle.base.specs.Words.{at}
use Rattle.script_fields.proofs.number_on.Goals.{then-c-lt48-via-then-c-lt48, then-c-lt48-via-else-c-lt48+then-c-gt57}
use Rattle.script_fields.proofs.number_on.Goals as goal

pub loop-i-init : goal.loop-i-init
loop-i-init c = (refl, omega arith)

pub overflow_cast-result : goal.overflow_cast-result
overflow_cast-result c = omega (arith, c.loop-i.invariant.1)

pub returns-then-c-eq32 : goal.returns-then-c-eq32
returns-then-c-eq32 c = number_part _ _ _ c.loop-i.invariant.0 c.loop-i-test.true (omega (arith, c.from-c.ensures, c.if-c-eq32.true))

pub returns-then-c-lt48 : goal.returns-then-c-lt48
returns-then-c-lt48 c =
    let d : at c.args.line.now c.loop-i.i ≡ 32 → ⊥ = λ e. c.if-c-eq32.false (c.from-c.ensures ∙ e) in
    elim c.then-c-lt48.branch [
      | then-c-lt48-via-then-c-lt48 w ↦ number_low _ _ _ c.loop-i.invariant.0 c.loop-i-test.true d (omega (arith, c.from-c.ensures, w.if-c-lt48.true))
      | then-c-lt48-via-else-c-lt48+then-c-gt57 w ↦ number_high _ _ _ c.loop-i.invariant.0 c.loop-i-test.true d (omega (arith, c.from-c.ensures, w.if-c-lt48.false)) (omega (arith, c.from-c.ensures, w.if-c-gt57.true))
    ]

pub overflow_mul-v : goal.overflow_mul-v
overflow_mul-v c = omega (arith, c.loop-i.invariant.1)

pub overflow_add-v : goal.overflow_add-v
overflow_add-v c = omega (arith, c.loop-i.invariant.1, c.if-c-gt57.false)

pub returns-then-v-gt4294967295 : goal.returns-then-v-gt4294967295
returns-then-v-gt4294967295 c = number_past _ _ _ c.loop-i.invariant.0 c.loop-i-test.true (λ e. c.if-c-eq32.false (c.from-c.ensures ∙ e)) (omega (arith, c.from-c.ensures, c.if-c-lt48.false)) (omega (arith, c.from-c.ensures, c.if-c-gt57.false)) (omega (arith, c.from-c.ensures, c.if-v-gt4294967295.true))

pub loop-i-preserved : goal.loop-i-preserved
loop-i-preserved c = (rw c.from-c.ensures (number_again _ _ _ c.loop-i.invariant.0 c.loop-i-test.true (λ e. c.if-c-eq32.false (c.from-c.ensures ∙ e)) (omega (arith, c.from-c.ensures, c.if-c-lt48.false)) (omega (arith, c.from-c.ensures, c.if-c-gt57.false)) (omega (arith, c.from-c.ensures, c.if-v-gt4294967295.false))), omega (arith, c.if-v-gt4294967295.false))

pub overflow_cast-result-2 : goal.overflow_cast-result-2
overflow_cast-result-2 c = omega (arith, c.loop-i.invariant.1)

pub returns : goal.returns
returns c = number_end _ _ _ c.loop-i.invariant.0 c.loop-i-test.false
