-- One turn of each loop of steps, and its end. Assumes nothing.
--     most                                         the ends of a layout's sizes
--     Budgeting, turn_first, turn_on, turn_over, turn_none     the budgeted loop
--     Driving, drive_first, drive_through, drive_on, drive_out, drive_none     the loop of a full collection
use Rattle.std.specs.Prelude.{Ok, Result, Some, None}
use mathlib.Core.Path.{◌≡◌, refl, sym, ap, ◌∙◌}
use mathlib.Core.List.{List}
use Prim.Native.Nat.{ℕ, zero, suc, ◌+◌, ◌-◌, ◌≤◌, ◌<◌}
use native.Mathlib.Omega.{arith}
use lib.ListN.{length}
use Rattle.base.specs.Ways.{le_yes, le_no}
use Rattle.base.specs.Words.{at}
use Rattle.base.specs.Heap.{Heap, heap}
use Rattle.base.specs.declared.Refusal.{Refusal}
use Rattle.std.specs.declared.ops.ControlFlow.TheVariants.{Continue, Break}
use Rattle.std.specs.declared.ops.ControlFlow.{ControlFlow}
use Rattle.value.specs.declared.UdRef.{UdRef}
use Rattle.value.specs.declared.Value.{Value}
use Rattle.layout.specs.declared.Lay.{Lay}
use Rattle.layout.specs.Places.{PHASE}
use Rattle.laid.specs.Laid.{Laid}
use Rattle.accounts.specs.declared.Answer.{Answer}
use Rattle.accounts.specs.declared.Answer.TheVariants.{Unfinished}
use Rattle.accounts.specs.Accounts.{handed}
use Rattle.step.specs.declared.Single.{Single}
use Rattle.step.specs.declared.Single.TheVariants.{Cost, Out}
use Rattle.step.specs.Step.{single_step}
use Rattle.pace.specs.Pace.{turn, on_turn, budgeted_for, on_step, driven_for}

pub record Most (l : Lay) : Type 0 where
  pub gray : l.gray.room ≤ 12289
  pub queue : l.queue.room ≤ 12289
  pub strings : l.strings.slots ≤ 4096
  pub tables : l.tables.slots ≤ 4096
  pub functions : l.functions.slots ≤ 4096
  pub upvalues : l.upvalues.slots ≤ 4096
  pub userdata : l.userdata.slots ≤ 4096
  pub threads : l.threads.slots ≤ 4096

pub most : (l : Lay) → Laid l → Most l
unfolding Laid
most l ok = record {
  gray = ok.gray.room;
  queue = ok.queue.room;
  strings = ok.strings.slots;
  tables = ok.tables.slots;
  functions = ok.functions.slots;
  upvalues = ok.upvalues.slots;
  userdata = ok.userdata.slots;
  threads = ok.threads.slots;
}

-- what is left of the budgeted loop gives the whole
pub record Budgeting (l : Lay) (kind n budget : ℕ) (w₀ b₀ w b : List ℕ) (left i : ℕ) : Type 0 where
  pub rest : budgeted_for (n - i) l kind left (heap w b) ≡ budgeted_for n l kind budget (heap w₀ b₀)
  pub long : length w ≡ length w₀
  pub wide : length b ≡ length b₀

-- at step i of n
module _ (n i : ℕ) (l : Lay) (kind left : ℕ) (h : Heap) where
  pub turn_first : budgeted_for (n - 0) l kind left h ≡ budgeted_for n l kind left h
  turn_first =
      let q : n - 0 ≡ n = omega arith in
      ap (λ (m : ℕ). budgeted_for m l kind left h) q

  pub turn_on : {k : ℕ} {g : Heap} → i < n → (Continue k, g) ≡ turn l kind left h → budgeted_for (n - i) l kind left h ≡ budgeted_for (n - (i + 1)) l kind k g
  unfolding budgeted_for
  turn_on p e =
      let q : n - i ≡ suc (n - (i + 1)) = omega arith in
      ap (λ (m : ℕ). budgeted_for m l kind left h) q
      ∙ ap (λ (x : ControlFlow (Result Answer Refusal) ℕ × Heap). on_turn x (λ k g. budgeted_for (n - (i + 1)) l kind k g)) (sym e)

  pub turn_over : {a : Result Answer Refusal} {g : Heap} → i < n → (Break a, g) ≡ turn l kind left h → budgeted_for (n - i) l kind left h ≡ (a, g)
  unfolding budgeted_for
  turn_over p e =
      let q : n - i ≡ suc (n - (i + 1)) = omega arith in
      ap (λ (m : ℕ). budgeted_for m l kind left h) q
      ∙ ap (λ (x : ControlFlow (Result Answer Refusal) ℕ × Heap). on_turn x (λ k g. budgeted_for (n - (i + 1)) l kind k g)) (sym e)

  pub turn_none : n ≤ i → budgeted_for (n - i) l kind left h ≡ (Ok Unfinished, h)
  unfolding budgeted_for
  turn_none p =
      let q : n - i ≡ zero = omega arith in
      ap (λ (m : ℕ). budgeted_for m l kind left h) q

-- the same of the loop of a full collection
pub record Driving (l : Lay) (kind n end : ℕ) (w₀ b₀ w b : List ℕ) (i : ℕ) : Type 0 where
  pub rest : driven_for (n - i) l kind end (heap w b) ≡ driven_for n l kind end (heap w₀ b₀)
  pub long : length w ≡ length w₀
  pub wide : length b ≡ length b₀

module _ (n i : ℕ) (l : Lay) (kind end : ℕ) (h : Heap) where
  pub drive_first : driven_for (n - 0) l kind end h ≡ driven_for n l kind end h
  drive_first =
      let q : n - 0 ≡ n = omega arith in
      ap (λ (m : ℕ). driven_for m l kind end h) q

  pub drive_through : i < n → at h.words PHASE ≤ end → driven_for (n - i) l kind end h ≡ (None, h)
  unfolding driven_for
  drive_through p f =
      let q : n - i ≡ suc (n - (i + 1)) = omega arith in
      ap (λ (m : ℕ). driven_for m l kind end h) q ∙ sym (le_yes _ _ _ _ _ f refl)

  pub drive_on : {c : ℕ} {g : Heap} → i < n → end < at h.words PHASE → (Cost c, g) ≡ single_step l h → driven_for (n - i) l kind end h ≡ driven_for (n - (i + 1)) l kind end g
  unfolding driven_for
  drive_on p f e =
      let q : n - i ≡ suc (n - (i + 1)) = omega arith in
      ap (λ (m : ℕ). driven_for m l kind end h) q
      ∙ sym (le_no _ _ _ _ _ f (ap (λ (x : Single × Heap). on_step kind x (λ g. driven_for (n - (i + 1)) l kind end g)) e))

  pub drive_out : {r : UdRef} {v : Value} {g : Heap} → i < n → end < at h.words PHASE → (Out r v, g) ≡ single_step l h → driven_for (n - i) l kind end h ≡ (Some (r, v), heap (handed kind r 0 g.words) g.bytes)
  unfolding driven_for
  drive_out p f e =
      let q : n - i ≡ suc (n - (i + 1)) = omega arith in
      ap (λ (m : ℕ). driven_for m l kind end h) q
      ∙ sym (le_no _ _ _ _ _ f (ap (λ (x : Single × Heap). on_step kind x (λ g. driven_for (n - (i + 1)) l kind end g)) e))

  pub drive_none : n ≤ i → driven_for (n - i) l kind end h ≡ (None, h)
  unfolding driven_for
  drive_none p =
      let q : n - i ≡ zero = omega arith in
      ap (λ (m : ℕ). driven_for m l kind end h) q
