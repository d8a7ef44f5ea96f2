-- What the calls that change a record share: each writes plain words alone. Assumes nothing.
--     store_plain       a value at a place
--     push_both, pop_both, set_both, height_both, pushed_both, cut_both     a stack of values, a list of upvalues, with their counts
--     thread_both, named_both      the record of what a handle names lies past the prototypes
use Rattle.std.proofs.Common.{sym, arith}
use Rattle.std.proofs.Math.Path.{subst}
use mathlib.Core.List.{List}
use Rattle.std.specs.Prelude.{ℕ, ◌+◌, ◌-◌, ◌*◌, ◌≤◌, ◌<◌, Some, None, Option, Result}
use Rattle.std.proofs.Math.Decide.{dec_lt}
use Rattle.base.specs.Loop.{run_keeps, run_over}
use Rattle.base.specs.Words.{put}
use Rattle.base.specs.declared.Refusal.{Refusal}
use Rattle.arena.specs.Slots.{named}
use Rattle.value.specs.declared.UpvalRef.{UpvalRef}
use Rattle.value.specs.declared.ThreadRef.{ThreadRef}
use Rattle.value.specs.declared.Value.{Value}
use Rattle.value.specs.declared.Value.TheVariants.{Nil}
use Rattle.layout.specs.declared.Lay.{Lay}
use Rattle.laid.specs.Laid.{Laid}
use Rattle.record.specs.Fields.{body_at}
use Rattle.given.specs.Answers.{at_named, on_named}
use Rattle.given.specs.Given.{is_upvalue, is_sound}
use Rattle.stacks.specs.declared.Counted.{Counted}
use Rattle.stacks.specs.Places.{store_value}
use Rattle.stacks.specs.Values.{value_place, push_value, pop_value, set_value, nil_at, raised, set_height}
use Rattle.upvalue_lists.specs.Lists.{upval_place, push_upvalue, cut_upvalues}
use Rattle.owners.specs.Owners.{body_in, on_body, thread_body, on_thread}
use Rattle.mark.specs.Words.{arena_of}
use Rattle.mark_laws.specs.Apart.{Apart}
use Rattle.state_laws.specs.State.{Parted}
use Rattle.state_laws.specs.Plains.{lt_both, le_both, eq_both, cond_both, Plain, Plainly, plainly_none, plainly_value, past_two, past_value, past_clear}

module _ (l : Lay) (ok : Laid l) (a : Apart l) where
  -- A value stored at a place.
  pub store_plain : (p : ℕ) (v : Value) (w : List ℕ) → Plain l p → Plain l (p + 1) → Plain l (p + 2) → Plainly l w (store_value l p v w).1
  unfolding store_value
  store_plain p v w f g h = cond_both (λ (x : Result Unit Refusal × List ℕ). Plainly l w x.1) (is_sound l v w) _ _ (λ e. plainly_value l ok a p v f g h plainly_none) (λ e. plainly_none)

  -- A stack whose values stand past the prototypes. `plain` says what plain changes keep, `store` what a new count keeps.
  module _ (s : Counted) (g : l.stack.base ≤ s.base) (w : List ℕ) (Q : List ℕ → Type 0) (plain : (u : List ℕ) → Plainly l w u → Q u)
      (store : (n : ℕ) (u : List ℕ) → (s.count ≤ s.room → n ≤ s.room) → Plainly l w u → Q (put s.word n u)) where
    abbrev T : Result Unit Refusal × List ℕ → Type 0
    T x = Q x.1

    none : Q w
    none = plain w plainly_none

    pub push_both : (v : Value) → Q (push_value l s v w).1
    unfolding push_value
    push_both v =
        le_both T _ _ _ _ (λ e. none)
        (λ e. cond_both T (is_sound l v w) _ _ (λ z. store (s.count + 1) _ (λ h. omega (arith, e)) (past_value l ok a (value_place s s.count) v (omega (arith, g)) plainly_none)) (λ z. none))

    pub pop_both : Q (pop_value s w).1
    unfolding pop_value
    pop_both = eq_both (λ (x : Result Value Refusal × List ℕ). Q x.1) _ _ _ _ (λ e. none) (λ e. store (s.count - 1) w (λ h. omega (arith, h)) plainly_none)

    pub set_both : (i : ℕ) (v : Value) → Q (set_value l s i v w).1
    unfolding set_value store_value
    set_both i v =
        le_both T _ _ _ _ (λ e. none) (λ e. cond_both T (is_sound l v w) _ _ (λ z. plain _ (past_value l ok a (value_place s i) v (omega (arith, g)) plainly_none)) (λ z. none))

    raised_plain : (n : ℕ) → Plainly l w (raised s n w)
    unfolding raised
    raised_plain n = go (dec_lt n s.count)
      where
        go : Dec (n < s.count) → Plainly l w (raised s n w)
        go (yes h) = subst (λ (u : List ℕ). Plainly l w u) (sym (run_over (nil_at s) s.count n w (omega (arith, h)))) plainly_none
        go (no h) =
            run_keeps (nil_at s) (λ (u : List ℕ). Plainly l w u) s.count n w (omega (arith, h)) (λ j u k t. past_value l ok a (value_place s j) Nil (omega (arith, g)) t) plainly_none

    pub height_both : (n : ℕ) → Q (set_height s n w).1
    unfolding set_height
    height_both n = lt_both T _ _ _ _ (λ e. none) (λ e. store n (raised s n w) (λ h. e) (raised_plain n))

    -- A list of upvalues.
    pub pushed_both : (u : UpvalRef) → Q (push_upvalue l s u w).1
    unfolding push_upvalue
    pushed_both u =
        le_both T _ _ _ _ (λ e. none)
        (λ e. cond_both T (is_upvalue l u w) _ _ (λ z. store (s.count + 1) _ (λ h. omega (arith, e)) (past_two l ok a (upval_place s s.count) _ _ (omega (arith, g)) plainly_none)) (λ z. none))

    pub cut_both : (n : ℕ) → Q (cut_upvalues s n w).1
    unfolding cut_upvalues
    cut_both n =
        lt_both T _ _ _ _ (λ e. none)
        (λ e. store n _ (λ h. omega (arith, h, e)) (past_clear l ok a (upval_place s n) (2 * (s.count - n)) (omega (arith, g)) plainly_none))

  module _ (r : Parted l) where
    -- A record lies past the prototypes.
    pub body_place : (k i : ℕ) → k ≤ 5 → l.stack.base ≤ body_at (arena_of l k) i
    body_place k i g = more l.stack.base (arena_of l k).bodies (i * (arena_of l k).stride) (r.bodies k g)
      where
        more : (x y z : ℕ) → x ≤ y → x ≤ y + z
        more x y z f = omega (arith, f)

    -- Work on the record of what a handle names: a thread's,
    pub thread_both : {A : Type 0} (Q : List ℕ → Type 0) (refuse : Refusal → A) (f : ℕ → List ℕ → A × List ℕ) (t : ThreadRef) (w : List ℕ) → Q w
        → ((p : ℕ) → l.stack.base ≤ p → Q (f p w).1) → Q (on_thread refuse f l t w).1
    unfolding on_thread thread_body
    thread_both {A} Q refuse f t w q work = go (named l.threads t.0 t.1 w)
      where
        go : (n : Option ℕ) → Q (on_body refuse f w (body_in l.threads n)).1
        go (Some i) = work (body_at l.threads i) (body_place 5 i (omega arith))
        go None = q

    -- or one of any kind.
    pub named_both : (Q : List ℕ → Type 0) (k : ℕ) → k ≤ 5 → (i g : ℕ) (f : ℕ → List ℕ → Result Unit Refusal × List ℕ) (w : List ℕ) → Q w
        → ((p : ℕ) → l.stack.base ≤ p → Q (f p w).1) → Q (on_named (arena_of l k) i g f w).1
    named_both Q k h i g f w q work = go (named (arena_of l k) i g w)
      where
        go : (n : Option ℕ) → Q (at_named (arena_of l k) n f w).1
        go (Some j) = work (body_at (arena_of l k) j) (body_place k j h)
        go None = q
