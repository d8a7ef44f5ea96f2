-- Making a prototype: document 01, 'Sizes' and 'Refusal numbers'. Up to 16 constants, 3 words each, and 8 nested; each nested
-- one is made, has no parent and is named once: else 4. A constant names an occupied slot of its kind: else 2. Every number
-- used: 3. It takes the next number, which is above those of all nested ones. Assumes nothing.
use Rattle.std.specs.Prelude.{◌≡◌, refl, Bool, true, false, cond, not, ◌&&◌, List, ℕ, ◌+◌, ◌/◌, ◌%◌, ◌≤◌, ◌<◌, eqb, leb, length, Ok, Err, Result}
use Rattle.std.proofs.Common.{sym, ◌∙◌, true≢false, arith, leb-true}
use Rattle.std.proofs.Math.Decide.{dec_lt}
use Rattle.base.specs.Ways.{if_lt, if_le, le_yes}
use Rattle.base.specs.Loop.{run}
use Rattle.base.specs.Words.{at, clear}
use Rattle.base.specs.Heap.{Heap}
use Rattle.base.specs.declared.Refusal.TheVariants.{Stale, Full, OutOfRange}
use Rattle.base.specs.declared.Refusal.{Refusal}
use Rattle.layout.specs.declared.Lay.{Lay}
use Rattle.layout.specs.Places.{PROTO_WORDS}
use Rattle.test1.specs.Calls.{call, in_words}
use Rattle.main_record.specs.Prototypes.{protos_used, set_protos_used, proto_at, set_proto_counts, proto_parent, set_proto_parent, set_proto_child}
use Rattle.sound.specs.Sound.{are_sound}
use Rattle.making.specs.declared.Made.{Made}
use Rattle.making.specs.declared.Made.TheVariants.{Proto}
use Rattle.making.specs.Making.{put_values}
use Rattle.making.specs.Turns.{each, each_holds}

abbrev pub lengths_fit : ℕ → ℕ → Bool
lengths_fit c n = eqb (c % 3) 0 && leb c 48 && leb n 8

pub lengths_most : (c n : ℕ) → lengths_fit c n ≡ true → (c ≤ 48) × (n ≤ 8)
lengths_most c n p =
    let q = both (eqb (c % 3) 0 && leb c 48) (leb n 8) p in
    (leb-true c 48 (both (eqb (c % 3) 0) (leb c 48) q.0).1, leb-true n 8 q.1)
  where
    both : (a b : Bool) → a && b ≡ true → (a ≡ true) × (b ≡ true)
    both true b q = (refl, q)
    both false b q = absurd (true≢false (sym q))

-- the k-th number is none of those before it
unfoldable pub differs : List ℕ → ℕ → ℕ → Bool
differs s k j = not (eqb (at s j) (at s k))

unfoldable pub is_first : List ℕ → ℕ → Bool
is_first s k = each (differs s k) k

-- It is made, has no parent and is named once.
unfoldable pub can_nest : Lay → List ℕ → List ℕ → ℕ → Bool
can_nest l w s k =
    if_le (protos_used l w) (at s k) false
    (if_lt 0 (proto_parent l (at s k) w) false
    (is_first s k))

unfoldable pub are_nestable : Lay → List ℕ → List ℕ → Bool
are_nestable l w s = each (can_nest l w s) (length s)

-- The k-th number of s is nested in n, which is its parent.
unfoldable pub nest_one : Lay → ℕ → List ℕ → ℕ → List ℕ → List ℕ
nest_one l n s k w = set_proto_parent l (at s k) (n + 1) (set_proto_child l n k (at s k) w)

unfoldable pub put_nested : Lay → ℕ → List ℕ → List ℕ → List ℕ
put_nested l n s w = run (nest_one l n s) 0 (length s) w

-- Every word of the record is written: counts, constants, nested numbers, else 0.
unfoldable pub put_proto : Lay → ℕ → List ℕ → List ℕ → List ℕ → List ℕ
put_proto l n constants nested w =
    let k = length constants / 3 in
    let w₁ = clear (proto_at l n) PROTO_WORDS w in
    let w₂ = set_proto_counts l n k (length nested) w₁ in
    let w₃ = put_values (proto_at l n + 3) constants k w₂ in
    let w₄ = put_nested l n nested w₃ in
    set_protos_used (n + 1) w₄

unfoldable pub proto_in : List ℕ → List ℕ → Lay → List ℕ → Result Made Refusal × List ℕ
proto_in constants nested l w =
    let n = protos_used l w in
    cond (lengths_fit (length constants) (length nested))
    (cond (are_nestable l w nested)
    (cond (are_sound l constants 0 (length constants / 3) w)
    (if_le l.protos.room n (Err Full, w)
    (Ok (Proto n), put_proto l n constants nested w))
    (Err Stale, w))
    (Err OutOfRange, w))
    (Err OutOfRange, w)

unfoldable pub make_proto : List ℕ → List ℕ → Heap → Result Made Refusal × Heap
make_proto constants nested h = call Err (in_words (proto_in constants nested)) h

-- every number of s is below m; so it is where all may be nested
unfoldable pub Below : ℕ → List ℕ → Type 0
Below m s = (k : ℕ) → k < length s → at s k < m

pub nestable_below : (l : Lay) (w s : List ℕ) → are_nestable l w s ≡ true → Below l.protos.room s
unfolding are_nestable can_nest Below
nestable_below l w s p k h = go (dec_lt (at s k) (protos_used l w))
  where
    go : Dec (at s k < protos_used l w) → at s k < l.protos.room
    go (yes x) = omega arith
    go (no x) = absurd (true≢false (sym (each_holds (can_nest l w s) (length s) p k h) ∙ sym (le_yes (protos_used l w) (at s k) false (if_lt 0 (proto_parent l (at s k) w) false (is_first s k)) false (omega arith) refl)))
