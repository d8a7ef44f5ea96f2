-- A stack of values. What a call refuses is tested before any change: 5, then 4, then 2. Assumes nothing.
use Rattle.std.specs.Prelude.{cond, List, ℕ, ◌+◌, ◌*◌, ◌-◌, Ok, Err, Result}
use Rattle.base.specs.Ways.{if_lt, if_le, if_eq}
use Rattle.base.specs.Loop.{run}
use Rattle.base.specs.Words.{put}
use Rattle.base.specs.declared.Refusal.TheVariants.{Stale, OutOfRange, WrongState}
use Rattle.base.specs.declared.Refusal.{Refusal}
use Rattle.value.specs.declared.Value.{Value}
use Rattle.value.specs.declared.Value.TheVariants.{Nil}
use Rattle.value.specs.Values.{value_at, put_value}
use Rattle.layout.specs.declared.Lay.{Lay}
use Rattle.given.specs.Given.{is_sound}
use Rattle.stacks.specs.declared.Counted.{Counted}
use Rattle.stacks.specs.Places.{store_value}

-- place i of a stack
abbrev pub value_place : Counted → ℕ → ℕ
value_place s i = s.base + 3 * i

-- A push onto a full stack is 4; then 2. Else the value stands at the top, and the top is one more.
unfoldable pub push_value : Lay → Counted → Value → List ℕ → Result Unit Refusal × List ℕ
push_value l s v w =
    if_le s.room s.count (Err OutOfRange, w)
    (cond (is_sound l v w)
    (Ok tt, put s.word (s.count + 1) (put_value (value_place s s.count) v w))
    (Err Stale, w))

-- Pop of an empty stack is 5. A pop leaves its value there.
unfoldable pub pop_value : Counted → List ℕ → Result Value Refusal × List ℕ
pop_value s w =
    if_eq s.count 0 (Err WrongState, w)
    (Ok (value_at w (value_place s (s.count - 1))), put s.word (s.count - 1) w)

-- An index outside its range is 4; then 2. Every place of the stack can be set, also at or above the top.
unfoldable pub set_value : Lay → Counted → ℕ → Value → List ℕ → Result Unit Refusal × List ℕ
set_value l s i v w = if_le s.room i (Err OutOfRange, w) (store_value l (value_place s i) v w)

-- Raising a stack fills with nil.
abbrev pub nil_at : Counted → ℕ → List ℕ → List ℕ
nil_at s i w = put_value (value_place s i) Nil w

unfoldable pub raised : Counted → ℕ → List ℕ → List ℕ
raised s n w = run (nil_at s) s.count n w

-- A top past the stack's size is 4. Lowering a stack changes its top alone.
unfoldable pub set_height : Counted → ℕ → List ℕ → Result Unit Refusal × List ℕ
set_height s n w = if_lt s.room n (Err OutOfRange, w) (Ok tt, put s.word n (raised s n w))
