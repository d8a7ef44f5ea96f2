-- The calls that change a thread keep the state. Assumes nothing.
use mathlib.Core.List.{List}
use Rattle.std.specs.Prelude.{ℕ, ◌+◌, Err, Result}
use Rattle.std.proofs.Common.{arith}
use Rattle.base.specs.Words.{put}
use Rattle.base.specs.Heap.{Heap, heap}
use Rattle.base.specs.declared.Refusal.{Refusal}
use Rattle.value.specs.declared.TableRef.{TableRef}
use Rattle.value.specs.declared.UpvalRef.{UpvalRef}
use Rattle.value.specs.declared.ThreadRef.{ThreadRef}
use Rattle.value.specs.declared.Value.{Value}
use Rattle.layout.specs.declared.Lay.{Lay}
use Rattle.test1.specs.Calls.{in_words}
use Rattle.laid.specs.Laid.{Laid}
use Rattle.given.specs.Given.{is_table, is_sound}
use Rattle.owners.specs.Owners.{thread_stack, thread_opens, thread_suspended}
use Rattle.thread_stack_calls.specs.ThreadStacks.{thread_push_in, thread_push, thread_pop_in, thread_pop}
use Rattle.thread_set_calls.specs.ThreadSets.{thread_set_in, thread_set, thread_set_top_in, thread_set_top}
use Rattle.thread_open_calls.specs.ThreadOpens.{thread_open_push_in, thread_open_push, thread_open_cut_in, thread_open_cut}
use Rattle.thread_suspended_calls.specs.ThreadSuspended.{thread_suspended_push_in, thread_suspended_push, thread_suspended_cut_in, thread_suspended_cut}
use Rattle.thread_calls.specs.ThreadCalls.{global_at, thread_set_global_in, thread_set_global, thread_set_error_in, thread_set_error}
use Rattle.hook_calls.specs.HookCalls.{hook_at, thread_set_hook_in, thread_set_hook}
use Rattle.mark_laws.specs.Apart.{Apart}
use Rattle.room_laws.specs.Tallies.{Ample}
use Rattle.sweep_laws.specs.Places.{Rows}
use Rattle.state_laws.specs.State.{State, state_parted, call_state, marked_state}
use Rattle.state_laws.specs.Plains.{cond_both, Plain, past, Plainly, plainly_none, plainly_put, past_handle, past_value, plain_state}
use Rattle.state_laws.specs.Barriers.{forward_state}
use Rattle.state_call_laws.specs.Places.{store_plain, push_both, pop_both, set_both, height_both, pushed_both, cut_both, thread_both}

module _ (l : Lay) (ok : Laid l) (a : Apart l) (r : Rows l) (h : Heap) (s : State l h) where
  abbrev w : List ℕ
  w = h.words

  abbrev S : List ℕ → Type 0
  S u = State l (heap u h.bytes)

  plain : (u : List ℕ) → Plainly l w u → S u
  plain u p = plain_state l ok a r p s

  store : (p n : ℕ) (u : List ℕ) → Plain l p → Plainly l w u → S (put p n u)
  store p n u f q = plain_state l ok a r (plainly_put l ok a p n f q) s

  -- The stack.
  pub thread_push_keeps : (t : ThreadRef) (v : Value) → State l (thread_push t v h).1
  unfolding thread_push thread_stack
  thread_push_keeps t v =
      call_state Err (in_words (thread_push_in t v)) l h s
      (thread_both l ok a (state_parted s) S Err _ t w s (λ p g. push_both l ok a (thread_stack p w) (omega (arith, g)) w S plain (λ n u f q. store (thread_stack p w).word n u (past (omega (arith, g))) q) v))

  pub thread_pop_keeps : (t : ThreadRef) → State l (thread_pop t h).1
  unfolding thread_pop thread_stack
  thread_pop_keeps t =
      call_state Err (in_words (thread_pop_in t)) l h s
      (thread_both l ok a (state_parted s) S Err _ t w s (λ p g. pop_both l ok a (thread_stack p w) (omega (arith, g)) w S plain (λ n u f q. store (thread_stack p w).word n u (past (omega (arith, g))) q)))

  pub thread_set_keeps : (t : ThreadRef) (i : ℕ) (v : Value) → State l (thread_set t i v h).1
  unfolding thread_set thread_stack
  thread_set_keeps t i v =
      call_state Err (in_words (thread_set_in t i v)) l h s
      (thread_both l ok a (state_parted s) S Err _ t w s (λ p g. set_both l ok a (thread_stack p w) (omega (arith, g)) w S plain (λ n u f q. store (thread_stack p w).word n u (past (omega (arith, g))) q) i v))

  pub thread_set_top_keeps : (t : ThreadRef) (n : ℕ) → State l (thread_set_top t n h).1
  unfolding thread_set_top thread_stack
  thread_set_top_keeps t n =
      call_state Err (in_words (thread_set_top_in t n)) l h s
      (thread_both l ok a (state_parted s) S Err _ t w s (λ p g. height_both l ok a (thread_stack p w) (omega (arith, g)) w S plain (λ n u f q. store (thread_stack p w).word n u (past (omega (arith, g))) q) n))

  -- Open and suspended upvalues.
  pub thread_open_push_keeps : (t : ThreadRef) (u : UpvalRef) → State l (thread_open_push t u h).1
  unfolding thread_open_push thread_opens
  thread_open_push_keeps t u =
      call_state Err (in_words (thread_open_push_in t u)) l h s
      (thread_both l ok a (state_parted s) S Err _ t w s (λ p g. pushed_both l ok a (thread_opens p w) (omega (arith, g)) w S plain (λ n u f q. store (thread_opens p w).word n u (past (omega (arith, g))) q) u))

  pub thread_open_cut_keeps : (t : ThreadRef) (n : ℕ) → State l (thread_open_cut t n h).1
  unfolding thread_open_cut thread_opens
  thread_open_cut_keeps t n =
      call_state Err (in_words (thread_open_cut_in t n)) l h s
      (thread_both l ok a (state_parted s) S Err _ t w s (λ p g. cut_both l ok a (thread_opens p w) (omega (arith, g)) w S plain (λ n u f q. store (thread_opens p w).word n u (past (omega (arith, g))) q) n))

  pub thread_suspended_push_keeps : (t : ThreadRef) (u : UpvalRef) → State l (thread_suspended_push t u h).1
  unfolding thread_suspended_push thread_suspended
  thread_suspended_push_keeps t u =
      call_state Err (in_words (thread_suspended_push_in t u)) l h s
      (thread_both l ok a (state_parted s) S Err _ t w s (λ p g. pushed_both l ok a (thread_suspended p w) (omega (arith, g)) w S plain (λ n u f q. store (thread_suspended p w).word n u (past (omega (arith, g))) q) u))

  pub thread_suspended_cut_keeps : (t : ThreadRef) (n : ℕ) → State l (thread_suspended_cut t n h).1
  unfolding thread_suspended_cut thread_suspended
  thread_suspended_cut_keeps t n =
      call_state Err (in_words (thread_suspended_cut_in t n)) l h s
      (thread_both l ok a (state_parted s) S Err _ t w s (λ p g. cut_both l ok a (thread_suspended p w) (omega (arith, g)) w S plain (λ n u f q. store (thread_suspended p w).word n u (past (omega (arith, g))) q) n))

  -- Global table, error value.
  pub thread_set_global_keeps : (t : ThreadRef) (x : TableRef) → State l (thread_set_global t x h).1
  unfolding thread_set_global global_at
  thread_set_global_keeps t x =
      call_state Err (in_words (thread_set_global_in t x)) l h s
      (thread_both l ok a (state_parted s) S Err _ t w s
      (λ p g. cond_both (λ (y : Result Unit Refusal × List ℕ). S y.1) (is_table l x w) _ _ (λ e. plain_state l ok a r (past_handle l ok a p _ g plainly_none) s) (λ e. s)))

  pub thread_set_error_keeps : (t : ThreadRef) (v : Value) → State l (thread_set_error t v h).1
  unfolding thread_set_error
  thread_set_error_keeps t v =
      call_state Err (in_words (thread_set_error_in t v)) l h s
      (thread_both l ok a (state_parted s) S Err _ t w s (λ p g. plain_state l ok a r (store_plain l ok a (p + 5) v w (past (omega (arith, g))) (past (omega (arith, g))) (past (omega (arith, g)))) s))

  -- The hook function: the forward barrier follows.
  pub thread_set_hook_keeps : Ample l → (t : ThreadRef) (v : Value) → State l (thread_set_hook t v h).1
  unfolding thread_set_hook hook_at
  thread_set_hook_keeps am t v =
      marked_state Err (in_words (thread_set_hook_in t v)) l h s
      (thread_both l ok a (state_parted s) S Err _ t w s
      (λ p g. cond_both (λ (y : Result Unit Refusal × List ℕ). S y.1) (is_sound l v w) _ _
      (λ e. forward_state l ok a r am _ v (plain_state l ok a r (past_value l ok a (p + 2) v (omega (arith, g)) plainly_none) s))
      (λ e. s)))
