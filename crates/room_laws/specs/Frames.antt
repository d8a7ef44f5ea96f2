-- Which words a tally is read from, and so what leaves it. Assumes nothing.
--     OnList, list_same         the words of a list; where they stay, its length and its items do
--     Other, OnlyList           two lists that are not the same; words that differ only in one list and in the damage mark
--     other_words, other_same, colours_same     the other lists, and all colours, are then as they were
--     push_only, pop_only, cleared_only     push, pop and clearing are such
--     Quiet, quiet_paid         words that differ in nothing that a tally is read from; what was paid for is
use Rattle.std.specs.Prelude.{◌≡◌, refl, List as Words, ◌⊎◌, ◌≢◌, ℕ, min, ◌+◌, ◌*◌, ◌≤◌, ◌<◌, length}
use Rattle.std.proofs.Common.{ap, ◌∙◌, inl, inr, arith}
use Rattle.base.specs.Words.{at}
use Rattle.value.specs.Laws.{Outside, outer}
use Rattle.layout.specs.declared.List.{List}
use Rattle.layout.specs.declared.Lay.{Lay}
use Rattle.lists.specs.declared.Item.{Item}
use Rattle.lists.specs.Lists.{damage, length_of, push, pop, cleared}
use Rattle.lists.proofs.Laws.{push_kept, pop_kept, cleared_kept}
use Rattle.lists.specs.Laws as lists
use Rattle.laid.specs.Laid.{Laid}
use Rattle.mark.specs.Ops.{Work, gray, grayagain, weak}
use Rattle.mark.specs.Words.{arena_of, list_of}
use Rattle.mark_laws.specs.Apart.{Apart, Order, order}
use Rattle.mark_laws.specs.Changes.{colour_in, work_room}
use Rattle.mark_laws.specs.Whites.{Listed}
use Rattle.mark_laws.specs.Items.{items_of, items_stay}
use Rattle.room_laws.specs.Counts.{is_gray, is_dark, count_alike}
use Rattle.room_laws.specs.Tallies.{tally, Paid, paid_less}

-- A list's words: its count and its items' places.
abbrev pub OnList : List → ℕ → Type 0
OnList b q = (q ≡ b.count) ⊎ ((b.base ≤ q) × (q < b.base + 3 * b.room))

-- Where they stay, the list is as long, and has as many items of each kind.
pub list_same : (b : List) (u v : Words ℕ) → ((q : ℕ) → OnList b q → at v q ≡ at u q) → (length_of b v ≡ length_of b u) × ((c : ℕ) → items_of b c v ≡ items_of b c u)
list_same b u v h = (
  ap (λ (n : ℕ). min n b.room) (h b.count (inl refl)),
  λ c. items_stay b c u v (h b.count (inl refl)) (λ q f g. h q (inr (f, g))),
)

-- The three lists of marking are not the same.
abbrev pub Other : Work → Work → Type 0
Other gray gray = ⊥
Other gray grayagain = Unit {0}
Other gray weak = Unit {0}
Other grayagain gray = Unit {0}
Other grayagain grayagain = ⊥
Other grayagain weak = Unit {0}
Other weak gray = Unit {0}
Other weak grayagain = Unit {0}
Other weak weak = ⊥

-- Words that differ only in the list k and in the damage mark.
abbrev pub OnlyList : Lay → Work → Words ℕ → Words ℕ → Type 0
OnlyList l k u v = (q : ℕ) → q ≢ (list_of l k).count → q ≢ damage → Outside (list_of l k).base (3 * (list_of l k).room) q → at v q ≡ at u q

-- Words that differ in nothing that a tally is read from; of a table's, closure's or thread's colour only whether it is dark,
-- and whether it is gray, counts.
pub record Quiet (l : Lay) (u v : Words ℕ) : Type 0 where
  pub long : length v ≡ length u
  pub mark : at v damage ≡ at u damage
  pub lists : (k : Work) (q : ℕ) → OnList (list_of l k) q → at v q ≡ at u q
  pub dark : (k : ℕ) → Listed k → (i : ℕ) → i < (arena_of l k).slots → is_dark (at v ((arena_of l k).base + i)) ≡ is_dark (at u ((arena_of l k).base + i))
  pub grays : (i : ℕ) → i < l.tables.slots → is_gray (at v (l.tables.base + i)) ≡ is_gray (at u (l.tables.base + i))

le_of : {x y : ℕ} → x ≡ y → x ≤ y
le_of e = omega (arith, e)

ge_of : {x y : ℕ} → x ≡ y → y ≤ x
ge_of e = omega (arith, e)

-- What was paid for is.
pub quiet_paid : {l : Lay} {u v : Words ℕ} {p t q : ℕ} → Quiet l u v → Paid (tally l u) p t q → Paid (tally l v) p t q
quiet_paid {l} {u} {v} s h =
    paid_less (tally l u) (tally l v) h
    (le_of (list_same l.gray u v (s.lists gray)).0) (le_of (list_same l.weak u v (s.lists weak)).0) (le_of (list_same l.grayagain u v (s.lists grayagain)).0)
    (le_of ((list_same l.gray u v (s.lists gray)).1 5)) (le_of ((list_same l.gray u v (s.lists gray)).1 8)) (le_of ((list_same l.gray u v (s.lists gray)).1 9))
    (le_of ((list_same l.grayagain u v (s.lists grayagain)).1 5))
    (ge_of (count_alike is_dark l.tables.base l.tables.slots u v (s.dark 1 tt)))
    (ge_of (count_alike is_dark l.functions.base l.functions.slots u v (s.dark 2 tt)))
    (ge_of (count_alike is_dark l.threads.base l.threads.slots u v (s.dark 5 tt)))
    (ge_of (count_alike is_gray l.tables.base l.tables.slots u v s.grays))

-- One change after the other.
pub quiet_then : {l : Lay} {u v t : Words ℕ} → Quiet l u v → Quiet l v t → Quiet l u t
quiet_then f g = record {
  long = g.long ∙ f.long;
  mark = g.mark ∙ f.mark;
  lists = λ k q h. g.lists k q h ∙ f.lists k q h;
  dark = λ k d i h. g.dark k d i h ∙ f.dark k d i h;
  grays = λ i h. g.grays i h ∙ f.grays i h;
}

pub quiet_none : {l : Lay} {u : Words ℕ} → Quiet l u u
quiet_none = record { long = refl; mark = refl; lists = λ k q h. refl; dark = λ k d i h. refl; grays = λ i h. refl }

module _ (l : Lay) (ok : Laid l) (a : Apart l) where
  abbrev o : Order l
  o = order l ok a

  -- the words of another list lie apart, and are not the damage mark
  lists_apart : (k j : Work) → Other k j → (q : ℕ) → OnList (list_of l j) q → (q ≢ (list_of l k).count) × (q ≢ damage) × Outside (list_of l k).base (3 * (list_of l k).room) q
  lists_apart gray grayagain d q (inl e) = (omega (arith, e, o.gray, o.grayagain), omega (arith, e, o.grayagain), inl (omega (arith, e, o.grayagain, o.header, a)))
  lists_apart gray grayagain d q (inr h) = (omega (arith, h.0, o.gray, o.header, a), omega (arith, h.0, o.header, a), inr (omega (arith, h.0, a)))
  lists_apart gray weak d q (inl e) = (omega (arith, e, o.gray, o.weak), omega (arith, e, o.weak), inl (omega (arith, e, o.weak, o.header, a)))
  lists_apart gray weak d q (inr h) = (omega (arith, h.0, o.gray, o.header, a), omega (arith, h.0, o.header, a), inr (omega (arith, h.0, a)))
  lists_apart grayagain gray d q (inl e) = (omega (arith, e, o.gray, o.grayagain), omega (arith, e, o.gray), inl (omega (arith, e, o.gray, o.header, a)))
  lists_apart grayagain gray d q (inr h) = (omega (arith, h.0, o.grayagain, o.header, a), omega (arith, h.0, o.header, a), inl (omega (arith, h.1, a)))
  lists_apart grayagain weak d q (inl e) = (omega (arith, e, o.grayagain, o.weak), omega (arith, e, o.weak), inl (omega (arith, e, o.weak, o.header, a)))
  lists_apart grayagain weak d q (inr h) = (omega (arith, h.0, o.grayagain, o.header, a), omega (arith, h.0, o.header, a), inr (omega (arith, h.0, a)))
  lists_apart weak gray d q (inl e) = (omega (arith, e, o.gray, o.weak), omega (arith, e, o.gray), inl (omega (arith, e, o.gray, o.header, a)))
  lists_apart weak gray d q (inr h) = (omega (arith, h.0, o.weak, o.header, a), omega (arith, h.0, o.header, a), inl (omega (arith, h.1, a)))
  lists_apart weak grayagain d q (inl e) = (omega (arith, e, o.grayagain, o.weak), omega (arith, e, o.grayagain), inl (omega (arith, e, o.grayagain, o.header, a)))
  lists_apart weak grayagain d q (inr h) = (omega (arith, h.0, o.weak, o.header, a), omega (arith, h.0, o.header, a), inl (omega (arith, h.1, a)))
  lists_apart gray gray d q h = absurd d
  lists_apart grayagain grayagain d q h = absurd d
  lists_apart weak weak d q h = absurd d

  -- The words of another list are as they were,
  pub other_words : (k j : Work) → Other k j → (u v : Words ℕ) → OnlyList l k u v → (q : ℕ) → OnList (list_of l j) q → at v q ≡ at u q
  other_words k j d u v s q h = s q (lists_apart k j d q h).0 (lists_apart k j d q h).1 (lists_apart k j d q h).2

  -- so is its length, and the number of its items of each kind,
  pub other_same : (k j : Work) → Other k j → (u v : Words ℕ) → OnlyList l k u v → (length_of (list_of l j) v ≡ length_of (list_of l j) u) × ((c : ℕ) → items_of (list_of l j) c v ≡ items_of (list_of l j) c u)
  other_same k j d u v s = list_same (list_of l j) u v (other_words k j d u v s)

  -- each list's count and items lie apart from every colour
  pub colour_off : (k : Work) (d i : ℕ) → i < (arena_of l d).slots → ((arena_of l d).base + i ≢ (list_of l k).count) × ((arena_of l d).base + i ≢ damage)
      × Outside (list_of l k).base (3 * (list_of l k).room) ((arena_of l d).base + i)
  colour_off gray d i h =
      let x = colour_in l ok a d i h in
      (omega (arith, x.0, o.gray), omega (arith, x.0), inl x.1)
  colour_off grayagain d i h =
      let x = colour_in l ok a d i h in
      (omega (arith, x.0, o.grayagain), omega (arith, x.0), inl (omega (arith, x.1, a)))
  colour_off weak d i h =
      let x = colour_in l ok a d i h in
      (omega (arith, x.0, o.weak), omega (arith, x.0), inl (omega (arith, x.1, a)))

  -- and so are all colours.
  pub colours_same : (k : Work) (u v : Words ℕ) → OnlyList l k u v → (d i : ℕ) → i < (arena_of l d).slots → at v ((arena_of l d).base + i) ≡ at u ((arena_of l d).base + i)
  colours_same k u v s d i h = s ((arena_of l d).base + i) (colour_off k d i h).0 (colour_off k d i h).1 (colour_off k d i h).2

  -- The damage mark lies apart from each list.
  pub mark_apart : (k : Work) → lists.Apart (list_of l k)
  mark_apart gray = record { below = omega (arith, o.header, a); other = λ e. omega (arith, e, o.gray) }
  mark_apart grayagain = record { below = omega (arith, o.header, a); other = λ e. omega (arith, e, o.grayagain) }
  mark_apart weak = record { below = omega (arith, o.header, a); other = λ e. omega (arith, e, o.weak) }

  -- Push, pop and clearing write one list, and the damage mark.
  pub push_only : (k : Work) (x : Item) (u : Words ℕ) → l.words ≤ length u → OnlyList l k u (push (list_of l k) x u)
  push_only k x u long q d e h = push_kept (list_of l k) x u (work_room l ok a k u long) q d e h

  pub pop_only : (k : Work) (u : Words ℕ) → l.words ≤ length u → OnlyList l k u (pop (list_of l k) u).1
  pop_only k u long q d e h = pop_kept (list_of l k) u (work_room l ok a k u long) q d h

  pub cleared_only : (k : Work) (u : Words ℕ) → l.words ≤ length u → OnlyList l k u (cleared (list_of l k) u)
  cleared_only k u long q d e h =
      cleared_kept (list_of l k) u (work_room l ok a k u long) q d
      (outer (list_of l k).base (3 * (list_of l k).room) q h (list_of l k).base (3 * length_of (list_of l k) u) (omega arith) (omega arith))
