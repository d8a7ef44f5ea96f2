-- What the calls that store share: a value or a handle stored at a place, a stack, a list of upvalues, the object or the thread
-- that a handle names. Assumes nothing.
use Rattle.std.specs.Prelude.{List, ℕ, Some, None, Err, Option, Result}
use Rattle.base.specs.declared.Refusal.{Refusal}
use Rattle.arena.specs.declared.Arena.{Arena}
use Rattle.arena.specs.Slots.{named}
use Rattle.value.specs.declared.UpvalRef.{UpvalRef}
use Rattle.value.specs.declared.ThreadRef.{ThreadRef}
use Rattle.value.specs.declared.Value.{Value}
use Rattle.layout.specs.declared.Lay.{Lay}
use Rattle.stacks.specs.declared.Counted.{Counted}
use Rattle.stacks.specs.Places.{store_value}
use Rattle.stacks.specs.Values.{push_value, pop_value, set_value, set_height}
use Rattle.upvalue_lists.specs.Lists.{push_upvalue, cut_upvalues}
use Rattle.given.specs.Given.{is_sound, is_upvalue}
use Rattle.given.specs.Answers.{unmarked, at_named, on_named}
use Rattle.owners.specs.Owners.{thread_body, on_body, on_thread}
use Rattle.state_laws.specs.Plains.{lt_both, le_both, eq_both, cond_both}
use Rattle.refusal_laws.specs.Known.{Answered}
use Rattle.refusal_laws.specs.Begins.{Answers}

pub store_value_known : (l : Lay) (p : ℕ) (v : Value) (w : List ℕ) → Answers (store_value l p v w)
unfolding store_value
store_value_known l p v w = cond_both Answers (is_sound l v w) _ _ (λ e. tt) (λ e. tt)

-- A stack of values.
pub push_value_known : (l : Lay) (s : Counted) (v : Value) (w : List ℕ) → Answers (push_value l s v w)
unfolding push_value
push_value_known l s v w = le_both Answers _ _ _ _ (λ e. tt) (λ e. cond_both Answers (is_sound l v w) _ _ (λ z. tt) (λ z. tt))

pub pop_value_known : (s : Counted) (w : List ℕ) → Answers (pop_value s w)
unfolding pop_value
pop_value_known s w = eq_both Answers _ _ _ _ (λ e. tt) (λ e. tt)

pub set_value_known : (l : Lay) (s : Counted) (i : ℕ) (v : Value) (w : List ℕ) → Answers (set_value l s i v w)
unfolding set_value
set_value_known l s i v w = le_both Answers _ _ _ _ (λ e. tt) (λ e. store_value_known l _ v w)

pub set_height_known : (s : Counted) (n : ℕ) (w : List ℕ) → Answers (set_height s n w)
unfolding set_height
set_height_known s n w = lt_both Answers _ _ _ _ (λ e. tt) (λ e. tt)

-- A list of upvalues.
pub push_upvalue_known : (l : Lay) (s : Counted) (u : UpvalRef) (w : List ℕ) → Answers (push_upvalue l s u w)
unfolding push_upvalue
push_upvalue_known l s u w = le_both Answers _ _ _ _ (λ e. tt) (λ e. cond_both Answers (is_upvalue l u w) _ _ (λ z. tt) (λ z. tt))

pub cut_upvalues_known : (s : Counted) (n : ℕ) (w : List ℕ) → Answers (cut_upvalues s n w)
unfolding cut_upvalues
cut_upvalues_known s n w = lt_both Answers _ _ _ _ (λ e. tt) (λ e. tt)

-- An answer that is handed on unless the damage mark is set.
pub unmarked_known : (w : List ℕ) (a : Result Unit Refusal) → Answered a → Answered (unmarked w a)
unmarked_known w a h = eq_both Answered _ _ _ _ (λ e. h) (λ e. tt)

-- Work on what a handle names.
pub on_named_known : (a : Arena) (i g : ℕ) (f : ℕ → List ℕ → Result Unit Refusal × List ℕ) (w : List ℕ) → ((p : ℕ) → Answers (f p w)) → Answers (on_named a i g f w)
on_named_known a i g f w p = go (named a i g w)
  where
    go : (o : Option ℕ) → Answers (at_named a o f w)
    go (Some j) = p _
    go None = tt

pub on_thread_known : {A : Type 0} (f : ℕ → List ℕ → Result A Refusal × List ℕ) (l : Lay) (t : ThreadRef) (w : List ℕ) → ((p : ℕ) → Answers (f p w)) → Answers (on_thread Err f l t w)
unfolding on_thread
on_thread_known f l t w p = go (thread_body l t w)
  where
    go : (o : Option ℕ) → Answers (on_body Err f w o)
    go (Some j) = p j
    go None = tt
