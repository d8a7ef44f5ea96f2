-- A collection starts within the rooms, whatever the words hold: the lists are emptied and the roots marked, which leaves the
-- damage mark as it was, and room in grayagain for the main thread. Assumes nothing.
--     Rooms, rooms        the rooms that the lists have beside the slots; the layout of any sizes has them
--     cleared_empty       after the clearing the three lists are empty, and the damage mark is as it was
--     start_roomy         after the roots the lists are within their rooms, and the damage mark is as it was
--     main_roomy          the main thread's traversal keeps that
use Rattle.std.specs.Prelude.{◌≡◌, refl, List, ◌≢◌, ℕ, min, ◌+◌, ◌≤◌, ◌<◌, length}
use Rattle.std.proofs.Common.{sym, subst, ◌∙◌, inl, arith}
use Rattle.std.proofs.Math.Path.{ap}
use Rattle.base.specs.Words.{at}
use Rattle.layout.specs.declared.Sizes.{Sizes}
use Rattle.layout.specs.declared.Lay.{Lay}
use Rattle.layout.specs.Layout.{lay_of}
use Rattle.lists.specs.declared.Item.TheVariants.{Main}
use Rattle.lists.specs.Lists.{damage, length_of, push, cleared}
use Rattle.lists.proofs.Laws.{push_kept, push_length, push_unmarked, cleared_length, cleared_kept}
use Rattle.lists.specs.Laws as lists
use Rattle.laid.specs.Laid.{Laid, gray_room_lem}
use Rattle.mark.specs.Ops.{Work, gray, grayagain, weak}
use Rattle.mark.specs.Words.{list_of, ops}
use Rattle.run_walk.specs.MainThread.{traverse_main_thread}
use Rattle.propagate.specs.Roots.{clear_lists, mark_roots}
use Rattle.links.specs.Links.{root_links}
use Rattle.mark_laws.specs.Apart.{Apart, Order, order}
use Rattle.mark_laws.specs.Moves.{still, pushed, emptied}
use Rattle.mark_laws.specs.Changes.{Marked, marked_none, moves_marked, work_room}
use Rattle.mark_laws.specs.Marks.{marks}
use Rattle.mark_laws.specs.RootLinks.{roots_links, cleared_moves}
use Rattle.mark_laws.specs.Whites.{whites_in, whites_of, whites_most, whites_room}
use Rattle.mark_laws.specs.Items.{items_to, items_of, push_counts}
use Rattle.mark_laws.specs.Weights.{weight, Clean, marks_clean}
use Rattle.mark_laws.specs.Stocks.{stock_weak, stock_again, le_le, main_spends}
use Rattle.mark_laws.specs.Rooms.{Roomy}

-- Gray has room for every table, closure and thread and for the main thread, weak for every table, grayagain for every thread
-- and the main thread. (The layout has more in weak and grayagain, for what the atomic phase and the barrier list.)
pub record Rooms (l : Lay) : Type 0 where
  pub gray : l.tables.slots + l.functions.slots + l.threads.slots + 1 ≤ l.gray.room
  pub weak : l.tables.slots ≤ l.weak.room
  pub again : l.threads.slots + 1 ≤ l.grayagain.room

-- The layout of any sizes has them.
pub rooms : (s : Sizes) → Rooms (lay_of s)
unfolding lay_of
rooms s = record { gray = omega arith; weak = omega arith; again = omega arith }

module _ (l : Lay) (ok : Laid l) (a : Apart l) where
  abbrev o : Order l
  o = order l ok a

  -- each list's items lie past the header
  lists_high : (k : Work) → 91 ≤ (list_of l k).base
  lists_high gray = omega (arith, o.header, a)
  lists_high grayagain = omega (arith, o.header, a)
  lists_high weak = omega (arith, o.header, a)

  -- clearing a list leaves the header but for its count
  clear_word : (k : Work) (w : List ℕ) → l.words ≤ length w → (q : ℕ) → q < 91 → q ≢ (list_of l k).count → at (cleared (list_of l k) w) q ≡ at w q
  clear_word k w long q h d = cleared_kept (list_of l k) w (work_room l ok a k w long) q d (inl (omega (arith, h, lists_high k)))

  module _ (w : List ℕ) (long : l.words ≤ length w) where
    abbrev w₁ : List ℕ
    w₁ = cleared l.gray w

    abbrev w₂ : List ℕ
    w₂ = cleared l.grayagain w₁

    abbrev w₃ : List ℕ
    w₃ = cleared l.weak w₂

    long₁ : l.words ≤ length w₁
    long₁ = let m : Marked l w w₁ = moves_marked l ok a (emptied (still refl) gray refl) long in omega (arith, m.long)

    long₂ : l.words ≤ length w₂
    long₂ = let m : Marked l w₁ w₂ = moves_marked l ok a (emptied (still refl) grayagain refl) long₁ in omega (arith, m.long, long₁)

    long₃ : l.words ≤ length w₃
    long₃ = let m : Marked l w₂ w₃ = moves_marked l ok a (emptied (still refl) weak refl) long₂ in omega (arith, m.long, long₂)

    none_gray : length_of l.gray w₃ ≡ 0
    none_gray =
        ap (λ (n : ℕ). min n l.gray.room)
        (clear_word weak w₂ long₂ l.gray.count (omega (arith, o.gray)) (λ e. omega (arith, e, o.gray, o.weak))
        ∙ clear_word grayagain w₁ long₁ l.gray.count (omega (arith, o.gray)) (λ e. omega (arith, e, o.gray, o.grayagain)))
        ∙ cleared_length l.gray w (work_room l ok a gray w long)

    none_again : length_of l.grayagain w₃ ≡ 0
    none_again =
        ap (λ (n : ℕ). min n l.grayagain.room) (clear_word weak w₂ long₂ l.grayagain.count (omega (arith, o.grayagain)) (λ e. omega (arith, e, o.grayagain, o.weak)))
        ∙ cleared_length l.grayagain w₁ (work_room l ok a grayagain w₁ long₁)

    none_weak : length_of l.weak w₃ ≡ 0
    none_weak = cleared_length l.weak w₂ (work_room l ok a weak w₂ long₂)

    mark_kept : at w₃ damage ≡ at w damage
    mark_kept =
        clear_word weak w₂ long₂ damage (omega arith) (λ e. omega (arith, e, o.weak))
        ∙ clear_word grayagain w₁ long₁ damage (omega arith) (λ e. omega (arith, e, o.grayagain))
        ∙ clear_word gray w long damage (omega arith) (λ e. omega (arith, e, o.gray))

    -- After the clearing the three lists are empty, and the damage mark is as it was.
    pub cleared_empty : (length_of l.gray (clear_lists (ops l) w) ≡ 0) × (length_of l.grayagain (clear_lists (ops l) w) ≡ 0) × (length_of l.weak (clear_lists (ops l) w) ≡ 0)
        × (at (clear_lists (ops l) w) damage ≡ at w damage)
    unfolding clear_lists
    cleared_empty = (none_gray, none_again, none_weak, mark_kept)

  -- The main thread is listed on the empty gray list.
  module _ (rs : Rooms l) (u : List ℕ) (long : l.words ≤ length u) (eg : length_of l.gray u ≡ 0) (ea : length_of l.grayagain u ≡ 0) (ew : length_of l.weak u ≡ 0) where
    abbrev v : List ℕ
    v = push l.gray Main u

    fits : length_of l.gray u < l.gray.room
    fits = small (length_of l.gray u) l.gray.room (l.tables.slots + l.functions.slots + l.threads.slots) eg rs.gray
      where
        small : (x y z : ℕ) → x ≡ 0 → z + 1 ≤ y → x < y
        small x y z e h = omega (arith, e, h)

    apart_mark : lists.Apart l.gray
    apart_mark = record { below = omega (arith, o.header, a); other = λ e. omega (arith, e, o.gray) }

    one_gray : length_of l.gray v ≡ 1
    one_gray = push_length l.gray Main u (gray_room_lem l u ok long) fits ∙ ap (λ (n : ℕ). n + 1) eg

    word : (q : ℕ) → q < 91 → q ≢ 69 → q ≢ 52 → at v q ≡ at u q
    word q h d e = push_kept l.gray Main u (gray_room_lem l u ok long) q (λ z. omega (arith, z, d, o.gray)) e (inl (omega (arith, h, o.header, a)))

    no_items : (c : ℕ) → items_of l.gray c u ≡ 0
    unfolding items_to
    no_items c = ap (λ (n : ℕ). items_to l.gray c n u) eg

    no_tables : items_of l.gray 5 v ≤ 0
    no_tables = subst (λ n. items_of l.gray 5 v ≤ n) (no_items 5) (plain (items_of l.gray 5 v) (items_of l.gray 5 u) (push_counts l.gray 5 u (gray_room_lem l u ok long) Main apart_mark))
      where
        plain : (x y : ℕ) → x ≤ y + 0 → x ≤ y
        plain x y h = omega (arith, h)

    no_threads : items_of l.gray 8 v ≤ 0
    no_threads = subst (λ n. items_of l.gray 8 v ≤ n) (no_items 8) (plain (items_of l.gray 8 v) (items_of l.gray 8 u) (push_counts l.gray 8 u (gray_room_lem l u ok long) Main apart_mark))
      where
        plain : (x y : ℕ) → x ≤ y + 0 → x ≤ y
        plain x y h = omega (arith, h)

    start_gray : weight l v ≤ l.gray.room
    start_gray = sums (whites_of l v) (length_of l.gray v) (l.tables.slots + l.functions.slots + l.threads.slots) l.gray.room (whites_room l v) one_gray rs.gray
      where
        sums : (x y z r : ℕ) → x ≤ z → y ≡ 1 → z + 1 ≤ r → x + y ≤ r
        sums x y z r f e h = omega (arith, f, e, h)

    start_weak : stock_weak l v ≤ l.weak.room
    start_weak =
        sums (whites_in l 1 v) (items_of l.gray 5 v) (length_of l.weak v) l.tables.slots l.weak.room (whites_most l.tables.base l.tables.slots v) no_tables
        (ap (λ (n : ℕ). min n l.weak.room) (word l.weak.count (omega (arith, o.weak)) (λ e. omega (arith, e, o.weak)) (λ e. omega (arith, e, o.weak))) ∙ ew) rs.weak
      where
        sums : (x y z s r : ℕ) → x ≤ s → y ≤ 0 → z ≡ 0 → s ≤ r → x + y + z ≤ r
        sums x y z s r f g e h = omega (arith, f, g, e, h)

    start_again : stock_again l v + 1 ≤ l.grayagain.room
    start_again =
        sums (whites_in l 5 v) (items_of l.gray 8 v) (length_of l.grayagain v) l.threads.slots l.grayagain.room (whites_most l.threads.base l.threads.slots v) no_threads
        (ap (λ (n : ℕ). min n l.grayagain.room) (word l.grayagain.count (omega (arith, o.grayagain)) (λ e. omega (arith, e, o.grayagain)) (λ e. omega (arith, e, o.grayagain))) ∙ ea) rs.again
      where
        sums : (x y z s r : ℕ) → x ≤ s → y ≤ 0 → z ≡ 0 → s + 1 ≤ r → x + y + z + 1 ≤ r
        sums x y z s r f g e h = omega (arith, f, g, e, h)

    -- After the roots: within the rooms, one place more in grayagain, and the damage mark as it was.
    pub roots_roomy : Roomy l (mark_roots (ops l) u) × (stock_again l (mark_roots (ops l) u) + 1 ≤ l.grayagain.room) × (at (mark_roots (ops l) u) damage ≡ at u damage)
    roots_roomy =
        let m : Marked l u v = moves_marked l ok a (pushed (still refl) gray Main refl) long in
        let c : Clean l v (marks l (root_links u l) v) = marks_clean l ok a (root_links u l) v (omega (arith, m.long)) in
        subst (λ x. Roomy l x × (stock_again l x + 1 ≤ l.grayagain.room) × (at x damage ≡ at u damage)) (sym (roots_links l ok a u long u marked_none)) (
          record {
            gray = le_le (weight l (marks l (root_links u l) v)) (weight l v) l.gray.room c.light.less start_gray;
            weak = le_le (stock_weak l (marks l (root_links u l) v)) (stock_weak l v) l.weak.room (sum_le _ _ _ _ c.tables c.weak) start_weak;
            again = less_one (stock_again l (marks l (root_links u l) v)) (stock_again l v) l.grayagain.room (sum_le _ _ _ _ c.threads c.again) start_again;
          },
          keep_one (stock_again l (marks l (root_links u l) v)) (stock_again l v) l.grayagain.room (sum_le _ _ _ _ c.threads c.again) start_again,
          c.whole start_gray ∙ push_unmarked l.gray Main u (gray_room_lem l u ok long) apart_mark fits,
        )
      where
        sum_le : (x y p q : ℕ) → x ≤ y → p ≡ q → x + p ≤ y + q
        sum_le x y p q f e = omega (arith, f, e)

        less_one : (x y z : ℕ) → x ≤ y → y + 1 ≤ z → x ≤ z
        less_one x y z f g = omega (arith, f, g)

        keep_one : (x y z : ℕ) → x ≤ y → y + 1 ≤ z → x + 1 ≤ z
        keep_one x y z f g = omega (arith, f, g)

  -- So a collection starts within the rooms, from any words.
  pub start_roomy : Rooms l → (w : List ℕ) → l.words ≤ length w
      → Roomy l (mark_roots (ops l) (clear_lists (ops l) w)) × (stock_again l (mark_roots (ops l) (clear_lists (ops l) w)) + 1 ≤ l.grayagain.room)
      × (at (mark_roots (ops l) (clear_lists (ops l) w)) damage ≡ at w damage)
  start_roomy rs w long =
      let m : Marked l w (clear_lists (ops l) w) = moves_marked l ok a (cleared_moves l (still refl)) long in
      let e = cleared_empty w long in
      let r = roots_roomy rs (clear_lists (ops l) w) (omega (arith, m.long)) e.0 e.1 e.2 in
      (r.0, r.1, r.2 ∙ e.3)

  -- The main thread's traversal, where grayagain has a place for it, keeps the rooms and leaves the damage mark.
  pub main_roomy : (u : List ℕ) → l.words ≤ length u → Roomy l u → stock_again l u + 1 ≤ l.grayagain.room
      → Roomy l (traverse_main_thread (ops l) l u).1 × (at (traverse_main_thread (ops l) l u).1 damage ≡ at u damage)
  main_roomy u long r h =
      let s = main_spends l ok a u long in (
        record {
          gray = le_le (weight l (traverse_main_thread (ops l) l u).1) (weight l u) l.gray.room s.light.less r.gray;
          weak = le_none (stock_weak l (traverse_main_thread (ops l) l u).1) (stock_weak l u) l.weak.room s.weak r.weak;
          again = le_le (stock_again l (traverse_main_thread (ops l) l u).1) (stock_again l u + 1) l.grayagain.room s.again h;
        },
        s.whole r.gray (none (stock_weak l u) l.weak.room r.weak) h,
      )
    where
      le_none : (x y z : ℕ) → x ≤ y + 0 → y ≤ z → x ≤ z
      le_none x y z f g = omega (arith, f, g)

      none : (x y : ℕ) → x ≤ y → x + 0 ≤ y
      none x y h = omega (arith, h)
