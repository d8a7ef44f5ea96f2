-- Laws of the finalizers that a collection hands out.
--     handing_again, handing_end     one more finalizer is handed out; none is left to be
-- Assumes nothing.
use Rattle.std.specs.Prelude.{◌≡◌, true, List, ℕ, suc, ◌-◌, ◌≤◌, ◌<◌, Ok, Result}
use Rattle.std.proofs.Common.{sym, ap, ◌∙◌}
use native.Mathlib.Omega.{arith}
use Rattle.base.specs.Heap.{Heap}
use Rattle.base.specs.declared.Refusal.{Refusal}
use Rattle.value.specs.declared.UdRef.{UdRef}
use Rattle.value.specs.declared.Value.{Value}
use Rattle.accounts.specs.declared.Answer.{Answer}
use Rattle.accounts.specs.declared.Answer.TheVariants.{Handed}
use Rattle.steps.specs.Steps.{finish}
use Rattle.script_bytes.specs.Bytes.{said}
use Rattle.script_bytes.specs.Laws.{said_append}
use Rattle.script_print.specs.Texts.{final_line, final_lines}
use Rattle.script_collect.specs.Collects.{finals, handing}

-- one finalizer more
handing_turn : (n : ℕ) (r : UdRef) (v : Value) (h : Heap) (p : ℕ × List ℕ)
    → handing (suc n) (Ok (Handed r v)) h p ≡ handing n (finish true h).0 (finish true h).1 (said (final_line r) p)
unfolding handing finals final_lines
handing_turn n r v h p = rw said_append

module _ (n : ℕ) (a : Result Answer Refusal) (h : Heap) (p : ℕ × List ℕ) {x : (Result Answer Refusal × Heap) × (ℕ × List ℕ)} (rest : handing n a h p ≡ x) where
  pub handing_again : (r : UdRef) (v : Value) (a' : Result Answer Refusal) (h' : Heap) (p' : ℕ × List ℕ)
      → 0 < n → a ≡ Ok (Handed r v) → p' ≡ said (final_line r) p → (a', h') ≡ finish true h → handing (n - 1) a' h' p' ≡ x
  handing_again r v a' h' p' g e q f =
      let m : n ≡ suc (n - 1) = omega arith in
      let t : handing (suc (n - 1)) (Ok (Handed r v)) h p ≡ x = ap (λ (k : ℕ). handing k (Ok (Handed r v)) h p) (sym m) ∙ ((ap (λ (b : Result Answer Refusal). handing n b h p) (sym e)) ∙ rest) in
      rw (q, ap (λ (y : Result Answer Refusal × Heap). y.0) f, ap (λ (y : Result Answer Refusal × Heap). y.1) f) (sym (handing_turn (n - 1) r v h p) ∙ t)

  pub handing_end : n ≤ 0 → ((a, h), p) ≡ x
  unfolding handing finals said final_lines
  handing_end g =
      let m : n ≡ 0 = omega arith in
      rw m at rest
