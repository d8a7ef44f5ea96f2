-- The calls that change the main record or a setting keep the state. Assumes nothing.
use mathlib.Core.List.{List}
use Rattle.std.specs.Prelude.{ℕ, ◌+◌, ◌≤◌, Err, Result}
use Rattle.std.proofs.Common.{arith}
use Rattle.base.specs.Words.{put}
use Rattle.base.specs.Heap.{Heap, heap}
use Rattle.base.specs.declared.Refusal.{Refusal}
use Rattle.value.specs.declared.UpvalRef.{UpvalRef}
use Rattle.value.specs.declared.Value.{Value}
use Rattle.layout.specs.declared.Lay.{Lay}
use Rattle.layout.specs.Places.{ERROR, HOOK, LIMIT, PAUSE, STEPMUL, THRESHOLD}
use Rattle.test1.specs.Calls.{in_words}
use Rattle.laid.specs.Laid.{Laid}
use Rattle.owners.specs.Owners.{main_stack, main_opens}
use Rattle.stack_calls.specs.StackCalls.{push_in, push, pop_in, pop, stack_set_in, stack_set, set_top_in, set_top}
use Rattle.main_calls.specs.MainCalls.{open_push_in, open_push, open_cut_in, open_cut, set_error_in, set_error, set_hook_in, set_hook}
use Rattle.frame_calls.specs.FrameCalls.{set_frame_in, set_frame, set_ci_in, set_ci}
use Rattle.settings.specs.Settings.{set_pause_in, set_pause, set_stepmul_in, set_stepmul, lowered, set_limit_in, set_limit}
use Rattle.mark_laws.specs.Apart.{Apart}
use Rattle.sweep_laws.specs.Places.{Rows}
use Rattle.state_laws.specs.State.{State, state_parted, call_state}
use Rattle.state_laws.specs.Plains.{le_both, lt_both, fields, pacing, Plainly, plainly_none, plainly_put, plainly_two, past_put, plain_state, top_state, opens_state, frame_state}
use Rattle.state_call_laws.specs.Places.{store_plain, push_both, pop_both, set_both, height_both, pushed_both, cut_both}

module _ (l : Lay) (ok : Laid l) (a : Apart l) (r : Rows l) (h : Heap) (s : State l h) where
  abbrev w : List ℕ
  w = h.words

  abbrev S : List ℕ → Type 0
  S u = State l (heap u h.bytes)

  plain : (u : List ℕ) → Plainly l w u → S u
  plain u p = plain_state l ok a r p s

  -- The main stack.
  store_top : (n : ℕ) (u : List ℕ) → ((main_stack l w).count ≤ (main_stack l w).room → n ≤ (main_stack l w).room) → Plainly l w u → S (put (main_stack l w).word n u)
  unfolding main_stack
  store_top n u f p = top_state l ok a r n (plain u p) (f (omega arith))

  store_opens : (n : ℕ) (u : List ℕ) → ((main_opens l w).count ≤ (main_opens l w).room → n ≤ (main_opens l w).room) → Plainly l w u → S (put (main_opens l w).word n u)
  unfolding main_opens
  store_opens n u f p = opens_state l ok a r n (plain u p) (f (omega arith))

  pub push_keeps : (v : Value) → State l (push v h).1
  unfolding push main_stack
  push_keeps v = call_state Err (in_words (push_in v)) l h s (push_both l ok a (main_stack l w) (omega arith) w S plain store_top v)

  pub pop_keeps : State l (pop h).1
  unfolding pop main_stack
  pop_keeps = call_state Err (in_words pop_in) l h s (pop_both l ok a (main_stack l w) (omega arith) w S plain store_top)

  pub stack_set_keeps : (i : ℕ) (v : Value) → State l (stack_set i v h).1
  unfolding stack_set main_stack
  stack_set_keeps i v = call_state Err (in_words (stack_set_in i v)) l h s (set_both l ok a (main_stack l w) (omega arith) w S plain store_top i v)

  pub set_top_keeps : (n : ℕ) → State l (set_top n h).1
  unfolding set_top main_stack
  set_top_keeps n = call_state Err (in_words (set_top_in n)) l h s (height_both l ok a (main_stack l w) (omega arith) w S plain store_top n)

  -- The main open list.
  pub open_push_keeps : (u : UpvalRef) → State l (open_push u h).1
  unfolding open_push main_opens
  open_push_keeps u = call_state Err (in_words (open_push_in u)) l h s (pushed_both l ok a (main_opens l w) (state_parted s).opens w S plain store_opens u)

  pub open_cut_keeps : (n : ℕ) → State l (open_cut n h).1
  unfolding open_cut main_opens
  open_cut_keeps n = call_state Err (in_words (open_cut_in n)) l h s (cut_both l ok a (main_opens l w) (state_parted s).opens w S plain store_opens n)

  -- Error value and hook function.
  pub set_error_keeps : (v : Value) → State l (set_error v h).1
  unfolding set_error
  set_error_keeps v =
      call_state Err (in_words (set_error_in v)) l h s
      (plain_state l ok a r (store_plain l ok a ERROR v w (fields (omega arith) (omega arith)) (fields (omega arith) (omega arith)) (fields (omega arith) (omega arith))) s)

  pub set_hook_keeps : (v : Value) → State l (set_hook v h).1
  unfolding set_hook
  set_hook_keeps v =
      call_state Err (in_words (set_hook_in v)) l h s
      (plain_state l ok a r (store_plain l ok a HOOK v w (fields (omega arith) (omega arith)) (fields (omega arith) (omega arith)) (fields (omega arith) (omega arith))) s)

  -- The frames.
  pub set_frame_keeps : (i n : ℕ) → State l (set_frame i n h).1
  unfolding set_frame set_frame_in
  set_frame_keeps i n =
      call_state Err (in_words (set_frame_in i n)) l h s
      (le_both (λ (x : Result Unit Refusal × List ℕ). State l (heap x.1 h.bytes)) _ _ _ _ (λ e. s)
      (λ e. lt_both (λ (x : Result Unit Refusal × List ℕ). State l (heap x.1 h.bytes)) _ _ _ _ (λ z. s)
      (λ z. plain_state l ok a r (past_put l ok a (l.frames.base + i) n (omega (arith, (state_parted s).frames)) plainly_none) s)))

  pub set_ci_keeps : (i : ℕ) → State l (set_ci i h).1
  unfolding set_ci set_ci_in
  set_ci_keeps i =
      call_state Err (in_words (set_ci_in i)) l h s
      (le_both (λ (x : Result Unit Refusal × List ℕ). State l (heap x.1 h.bytes)) _ _ _ _ (λ e. s)
      (λ e. frame_state l ok a r i s e))

  -- The settings.
  pub set_pause_keeps : (n : ℕ) → State l (set_pause n h).1
  unfolding set_pause
  set_pause_keeps n = call_state Err (in_words (set_pause_in n)) l h s (plain_state l ok a r (plainly_put l ok a PAUSE n (fields (omega arith) (omega arith)) plainly_none) s)

  pub set_stepmul_keeps : (n : ℕ) → State l (set_stepmul n h).1
  unfolding set_stepmul
  set_stepmul_keeps n = call_state Err (in_words (set_stepmul_in n)) l h s (plain_state l ok a r (plainly_put l ok a STEPMUL n (fields (omega arith) (omega arith)) plainly_none) s)

  lowered_plain : (n : ℕ) {u v : List ℕ} → Plainly l u v → Plainly l u (lowered n v)
  unfolding lowered
  lowered_plain n {u} {v} p =
      le_both (λ (x : List ℕ). Plainly l u x) _ _ _ _ (λ e. p)
      (λ e. plainly_two l ok a THRESHOLD _ _ (pacing (omega arith) (omega arith)) (pacing (omega arith) (omega arith)) p)

  pub set_limit_keeps : (n : ℕ) → State l (set_limit n h).1
  unfolding set_limit set_limit_in
  set_limit_keeps n =
      call_state Err (in_words (λ l w. set_limit_in n w)) l h s
      (plain_state l ok a r (lowered_plain n (plainly_two l ok a LIMIT _ _ (fields (omega arith) (omega arith)) (fields (omega arith) (omega arith)) plainly_none)) s)
