-- `script_collect::finals` meets its contract: what is left of the loop gives the whole. Assumes nothing.
use Rattle.std.specs.Prelude.{Ok, Err, Result}
use Rattle.std.proofs.Common.{rules, ◌≡◌, refl, ◌∙◌, List, ℕ, zero, suc, ◌-◌, ◌+◌}
use native.Mathlib.Omega.{arith}
use Rattle.base.specs.Heap.{Heap}
use Rattle.base.specs.declared.Refusal.{Refusal}
use Rattle.value.specs.declared.UdRef.{UdRef}
use Rattle.value.specs.declared.Value.{Value}
use Rattle.accounts.specs.declared.Answer.{Answer}
use Rattle.accounts.specs.declared.Answer.TheVariants.{Stepped, Unfinished, Ended, Passed, Handed, Busy, Failed}
use Rattle.script_bytes.specs.Bytes.{said}
use Rattle.script_print.specs.Texts.{final_lines}
use Rattle.script_collect.specs.Collects.{finals, handing}
use Rattle.script_collect.specs.Laws.{handing_again, handing_end}
use Rattle.script_collect.proofs.finals.Goals as goal

-- an answer told by its parts
told : {a : Result Answer Refusal} {x y : Answer} → a ≡ Ok x → x ≡ y → a ≡ Ok y
told p q = rw (p, q)

-- an answer that hands nothing out
stopped : (n : ℕ) (a : Answer) (h : Heap) (p : ℕ × List ℕ) → ((x : UdRef) → (y : Value) → a ≡ Handed x y → ⊥) → ((Ok a, h), p) ≡ handing n (Ok a) h p
unfolding handing finals said final_lines
stopped zero a h p _ = refl
stopped (suc n) (Stepped c) h p _ = refl
stopped (suc n) Unfinished h p _ = refl
stopped (suc n) Ended h p _ = refl
stopped (suc n) Passed h p _ = refl
stopped (suc n) (Handed r v) h p k0 = absurd (k0 r v refl)
stopped (suc n) Busy h p _ = refl
stopped (suc n) Failed h p _ = refl

-- an answer that refuses
refused : (n : ℕ) (x : Refusal) (h : Heap) (p : ℕ × List ℕ) → ((Err x, h), p) ≡ handing n (Err x) h p
unfolding handing finals said final_lines
refused zero x h p = refl
refused (suc n) x h p = refl

pub returns-in_default : goal.returns-in_default
returns-in_default c = rw c.in_default.is (stopped _ c.in_default.field-0 _ _ (λ x y e. search (rules, e))) ∙ c.loop.invariant

pub returns-in_default-2 : goal.returns-in_default-2
returns-in_default-2 c = rw c.in_default.is (refused _ _ _ _) ∙ c.loop.invariant

pub loop-preserved : goal.loop-preserved
loop-preserved c =
    let e : c.args.most - (c.loop.counter + 1) ≡ c.args.most - c.loop.counter - 1 = omega arith in
    rw e (handing_again _ _ _ _ c.loop.invariant _ _ _ _ _ (omega arith) (told c.in-Ok-Handed.is (rw c.in-Ok-Handed.is at c.in-Ok-Handed.field-0-is)) c.final_line-next.ensures c.finish-a.ensures)

pub returns : goal.returns
returns c = handing_end _ _ _ _ c.loop.invariant (omega arith)
