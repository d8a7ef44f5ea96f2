-- A list of upvalues' handles. What a call refuses is tested before any change: 4, then 2. Assumes nothing.
use Rattle.std.specs.Prelude.{cond, List, ℕ, ◌+◌, ◌*◌, ◌-◌, Ok, Err, Result}
use Rattle.base.specs.Ways.{if_lt, if_le}
use Rattle.base.specs.Words.{put, clear}
use Rattle.base.specs.declared.Refusal.TheVariants.{Stale, OutOfRange}
use Rattle.base.specs.declared.Refusal.{Refusal}
use Rattle.value.specs.declared.UpvalRef.{UpvalRef}
use Rattle.layout.specs.declared.Lay.{Lay}
use Rattle.record.specs.Fields.{put_upval}
use Rattle.given.specs.Given.{is_upvalue}
use Rattle.stacks.specs.declared.Counted.{Counted}

-- place i of a list
abbrev pub upval_place : Counted → ℕ → ℕ
upval_place s i = s.base + 2 * i

-- A push onto a full list is 4; then 2. Else the upvalue stands at the end, and the count is one more.
unfoldable pub push_upvalue : Lay → Counted → UpvalRef → List ℕ → Result Unit Refusal × List ℕ
push_upvalue l s u w =
    if_le s.room s.count (Err OutOfRange, w)
    (cond (is_upvalue l u w)
    (Ok tt, put s.word (s.count + 1) (put_upval (upval_place s s.count) u w))
    (Err Stale, w))

-- A length past the list's is 4. The first n stay, and the words of the others become 0, so that equal heaps are equal words.
unfoldable pub cut_upvalues : Counted → ℕ → List ℕ → Result Unit Refusal × List ℕ
cut_upvalues s n w =
    if_lt s.count n (Err OutOfRange, w)
    (Ok tt, put s.word n (clear (upval_place s n) (2 * (s.count - n)) w))
