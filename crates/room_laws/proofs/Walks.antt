-- The first part of the atomic phase: the main thread, grayagain in order, then all gray. A table on grayagain may be listed
-- weak a second time, for which weak has room. Assumes nothing.
--     run_along               what holds at each turn of a loop, by its number
--     paid_roomy              lists that are paid for are within their rooms, with one place of weak more for each table on grayagain
--     marks_list              marking writes no list but gray
--     again_spends, again-list      an item of grayagain; the whole list
--     marked_roomy            the first part of the atomic phase stays within the rooms, and leaves the damage mark and the queue
use Rattle.std.specs.Prelude.{◌≡◌, Bool, cond, eqb, length}
use Rattle.std.proofs.Math.Path.{refl, ap, subst}
use Rattle.std.proofs.Common.{sym, ◌∙◌, inl, inr}
use Rattle.std.proofs.Math.Bool.{true, false}
use mathlib.Core.List.{List, ◌++◌}
use Prim.Native.Nat.{ℕ, zero, suc, ◌+◌, ◌-◌, ◌*◌, ◌≤◌, ◌<◌}
use native.Mathlib.Omega.{arith}
use Rattle.base.specs.Loop.{rounds, run}
use Rattle.base.specs.Words.{at}
use Rattle.value.specs.declared.TableRef.{TableRef}
use Rattle.layout.specs.declared.Lay.{Lay}
use Rattle.lists.specs.declared.Item.{Item}
use Rattle.lists.specs.declared.Item.TheVariants.{Table, Function, Userdata, Thread, Main, Unknown}
use Rattle.lists.specs.Lists.{damage, kind_of, item_in, length_of, place, item_at, push, cleared}
use Rattle.lists.proofs.Laws.{item_found, item_three, cleared_kept, cleared_length}
use Rattle.record.specs.Fields.{body_at}
use Rattle.record.specs.Tables.{table_meta}
use Rattle.run_record.specs.Threads.{thread_global}
use Rattle.laid.specs.Laid.{Laid, grayagain_room_lem}
use Rattle.mark.specs.Ops.{Ref, tab, fun, thread, Work, gray, grayagain, weak, is_white}
use Rattle.mark.specs.Words.{list_of, colour_w, paint_w, ops}
use Rattle.modes.specs.declared.Mode.{Mode}
use Rattle.modes.specs.Modes.{is_weak, weak_mode}
use Rattle.table_walk.specs.Tables.{table_cost, list_weak, traverse_table_at, traverse_table}
use Rattle.run_walk.specs.Closures.{closure_cost, traverse_closure_at, traverse_closure}
use Rattle.run_walk.specs.Threads.{retraverse_thread_at, retraverse_thread}
use Rattle.run_walk.specs.MainThread.{mark_main}
use Rattle.links.specs.Links.{table_link, entry_links, closure_links, stack_links, main_links}
use Rattle.atomic.specs.Atomic.{again_item, again_listed, again_all, marked}
use Rattle.mark_laws.specs.Apart.{Apart, Order, order}
use Rattle.mark_laws.specs.Colours.{white_true}
use Rattle.mark_laws.specs.Moves.{Rising, still, emptied, raised, paint_moves}
use Rattle.mark_laws.specs.Changes.{Marked, marked_none, marked_then, moves_marked}
use Rattle.mark_laws.specs.Marks.{marks, marks_marked}
use Rattle.mark_laws.specs.TableLinks.{table_links_lem, list_weak_moves}
use Rattle.mark_laws.specs.RunLinks.{closure_links_lem, again_links}
use Rattle.mark_laws.specs.MainLinks.{main_links_lem}
use Rattle.mark_laws.specs.Propagates.{choice, all_moves}
use Rattle.mark_laws.specs.Whites.{whites_in, whites_of, fall, whites_fall}
use Rattle.mark_laws.specs.Items.{one, items_to, items_of}
use Rattle.mark_laws.specs.Weights.{weight, clean_none, clean_then, black_clean, marks_clean}
use Rattle.mark_laws.specs.Stocks.{stock_weak, stock_again, Spends, clean_spends, spends_then, spends_one, table_spends, closure_spends}
use Rattle.mark_laws.specs.Rooms.{Roomy, all_roomy}
use Rattle.room_laws.specs.Pends.{marks_keep, item_for}
use Rattle.room_laws.specs.Counts.{is_gray, count_most, white_and_dark}
use Rattle.room_laws.specs.Tallies.{Tally, tally, Paid, Ample}
use Rattle.room_laws.specs.Frames.{OnList, Other, list_same, other_words, other_same, push_only, cleared_only}
use Rattle.room_laws.specs.Paints.{paint_list}
use Rattle.room_laws.specs.Payments.{Whole}
use Rattle.room_laws.proofs.Payments.{marks_whole}
use Rattle.room_laws.proofs.Steps.{kind_read}

-- What holds before turn i, and after each turn of its number, holds at the end.
module _ {S : Type 0} (step : ℕ → S → S) (P : ℕ → S → Type 0) where
  rounds_along : (n k e : ℕ) (s : S) → e ≡ k + n → ((j : ℕ) (t : S) → j < e → P j t → P (j + 1) (step j t)) → P k s → P e (rounds step n k s)
  unfolding rounds
  rounds_along zero k e s h keep p =
      let q : k ≡ e = omega arith in
      subst (λ i. P i s) q p
  rounds_along (suc n) k e s h keep p = rounds_along n (k + 1) e (step k s) (omega arith) keep (keep k s (omega arith) p)

  pub run_along : (i e : ℕ) (s : S) → i ≤ e → ((j : ℕ) (t : S) → j < e → P j t → P (j + 1) (step j t)) → P i s → P e (run step i e s)
  unfolding run
  run_along i e s h keep p = rounds_along (e - i) i e s (omega arith) keep p

-- Lists that are paid for are within their rooms, and weak has a place more for each table on grayagain.
pub paid_roomy : {l : Lay} → Ample l → (w : List ℕ) → Paid (tally l w) 0 0 0 → Roomy l w × (stock_weak l w + items_of l.grayagain 5 w ≤ l.weak.room)
paid_roomy {l} am w h = (
  record { gray = s.0; weak = s.1; again = s.2 },
  s.3,
)
  where
    sums : (x : Tally) (a b c d e f g i j : ℕ) → Paid x 0 0 0 → a + x.dark_tables ≤ d → b + x.dark_closures ≤ e → c + x.dark_threads ≤ f → x.gray_tables ≤ d
        → d + e + f + 1 ≤ g → 2 * d ≤ i → d + f + 1 ≤ j → (a + b + c + x.gray ≤ g) × (a + x.tables + x.weak ≤ i) × (c + x.threads + x.again ≤ j) × (a + x.tables + x.weak + x.later ≤ i)
    sums x a b c d e f g i j h p q r s t u v = (omega (arith, h.gray, p, q, r, t), omega (arith, h.weak, p, u), omega (arith, h.again, r, s, v), omega (arith, h.weak, h.tables, p, s, u))

    s : (weight l w ≤ l.gray.room) × (stock_weak l w ≤ l.weak.room) × (stock_again l w ≤ l.grayagain.room) × (stock_weak l w + items_of l.grayagain 5 w ≤ l.weak.room)
    s =
        sums (tally l w) (whites_in l 1 w) (whites_in l 2 w) (whites_in l 5 w) l.tables.slots l.functions.slots l.threads.slots l.gray.room l.weak.room l.grayagain.room h
        (white_and_dark l.tables.base l.tables.slots w) (white_and_dark l.functions.base l.functions.slots w) (white_and_dark l.threads.base l.threads.slots w)
        (count_most is_gray l.tables.base l.tables.slots w) am.gray am.weak am.again

-- what takes n places takes more at most
spends_more : {l : Lay} {p p' q : ℕ} {w u : List ℕ} → Spends l p q w u → p ≤ p' → Spends l p' q w u
spends_more {l} {p} {p'} {q} {w} {u} c h = record {
  light = c.light;
  weak = up (stock_weak l u) (stock_weak l w) c.weak;
  again = c.again;
  whole = λ f s t. c.whole f (down (stock_weak l w) l.weak.room s) t;
}
  where
    up : (x y : ℕ) → x ≤ y + p → x ≤ y + p'
    up x y g = omega (arith, g, h)

    down : (x y : ℕ) → x + p' ≤ y → x + p ≤ y
    down x y g = omega (arith, g, h)

module _ (l : Lay) (ok : Laid l) (a : Apart l) where
  abbrev o : Order l
  o = order l ok a

  -- Marking writes no list but gray.
  pub marks_list : (k : Work) → Other gray k → (rs : List Ref) (u : List ℕ) → l.words ≤ length u → (q : ℕ) → OnList (list_of l k) q → at (marks l rs u) q ≡ at u q
  marks_list k d rs u long q h =
      marks_keep l ok a (λ v. at v q ≡ at u q)
      (λ r v n e c p. paint_list l ok a r 4 v n (white_true (colour_w l r v) e).0 k q h ∙ p)
      (λ r v n e c p. other_words l ok a gray k d (paint_w l r 3 v) (push l.gray (item_for r) (paint_w l r 3 v)) (push_only l ok a gray (item_for r) (paint_w l r 3 v) (longer r v n e)) q h
      ∙ paint_list l ok a r 3 v n (white_true (colour_w l r v) e).0 k q h ∙ p)
      rs u long refl
    where
      longer : (r : Ref) (v : List ℕ) → l.words ≤ length v → is_white (colour_w l r v) ≡ true → l.words ≤ length (paint_w l r 3 v)
      longer r v n e =
          let c = white_true (colour_w l r v) e in
          let s : Rising (colour_w l r v) 3 = (c.0, omega (arith, c.1), omega arith, omega arith) in
          let m : Marked l v (paint_w l r 3 v) = moves_marked l ok a (raised (still refl) r 3 s refl) n in
          omega (arith, m.long, n)

  module _ (b u : List ℕ) (long : l.words ≤ length u) where
    -- the words of grayagain are as they were
    abbrev Kept : List ℕ → Type 0
    Kept v = (q : ℕ) → OnList l.grayagain q → at v q ≡ at u q

    painted_long : (r : Ref) → 1 ≤ colour_w l r u → l.words ≤ length (paint_w l r 4 u)
    painted_long r h =
        let m : Marked l u (paint_w l r 4 u) = moves_marked l ok a (paint_moves l r h (still refl)) long in
        omega (arith, m.long, long)

    after_paint : (r : Ref) (rs : List Ref) → 1 ≤ colour_w l r u → Kept (marks l rs (paint_w l r 4 u))
    after_paint r rs h q g = marks_list grayagain tt rs (paint_w l r 4 u) (painted_long r h) q g ∙ paint_list l ok a r 4 u long h grayagain q g

    list_weak_kept : (m : Mode) (r : TableRef) (v : List ℕ) → l.words ≤ length v → Kept v → Kept (list_weak (ops l) m r v)
    unfolding list_weak
    list_weak_kept m r v n k = go (is_weak m)
      where
        go : (c : Bool) → Kept (cond c (push l.weak (Table r) v) v)
        go true = λ q g. other_words l ok a weak grayagain tt v (push l.weak (Table r) v) (push_only l ok a weak (Table r) v n) q g ∙ k q g
        go false = k

    table_kept : (r : TableRef) → 1 ≤ colour_w l (tab r) u → Kept (traverse_table_at (ops l) l b r u)
    table_kept r h =
        let p = body_at l.tables r.0 in
        let m = weak_mode l (table_meta p u) u b in
        let v = marks l (table_link (table_meta p u)) (paint_w l (tab r) 4 u) in
        let n : Marked l (paint_w l (tab r) 4 u) v = marks_marked l ok a (table_link (table_meta p u)) (painted_long (tab r) h) marked_none in
        let s : Marked l v (list_weak (ops l) m r v) = moves_marked l ok a (list_weak_moves l m r (still refl)) (omega (arith, n.long, painted_long (tab r) h)) in
        subst (λ x. Kept x) (sym (table_links_lem l ok a u long b r u marked_none h))
        (λ q g. marks_list grayagain tt (entry_links u m p) (list_weak (ops l) m r v) (omega (arith, s.long, n.long, painted_long (tab r) h)) q g
        ∙ list_weak_kept m r v (omega (arith, n.long, painted_long (tab r) h)) (after_paint (tab r) (table_link (table_meta p u)) h) q g)

    -- An item of grayagain: a table lists at most one weak, others none;
    again_spends : (x : Item) → Spends l (one (eqb (kind_of x) 5)) 0 u (again_item l b x u)
    unfolding again_item traverse_table traverse_closure retraverse_thread
    again_spends (Table r) =
        choice (λ (x : ℕ × List ℕ). Spends l 1 0 u x.1) (colour_w l (tab r) u) (64, u) (table_cost (body_at l.tables r.0) u, traverse_table_at (ops l) l b r u)
        (spends_one l ok a u u (clean_spends clean_none)) (λ h. table_spends l ok a u long b r h)
    again_spends (Function r) =
        choice (λ (x : ℕ × List ℕ). Spends l 0 0 u x.1) (colour_w l (fun r) u) (48, u) (closure_cost (body_at l.functions r.0) u, traverse_closure_at (ops l) l r u)
        (clean_spends clean_none) (λ h. closure_spends l ok a u long r h)
    again_spends (Thread r) =
        choice (λ (x : List ℕ). Spends l 0 0 u x) (colour_w l (thread r) u) u (retraverse_thread_at (ops l) l r u)
        (clean_spends clean_none)
        (λ h. subst (λ x. Spends l 0 0 u x) (sym (again_links l ok a u long r u marked_none h))
        (clean_spends (clean_then (black_clean l ok a (thread r) u long h) (marks_clean l ok a (table_link (thread_global (body_at l.threads r.0) u) ++ stack_links u (body_at l.threads r.0)) (paint_w l (thread r) 4 u) (painted_long (thread r) h)))))
    again_spends (Userdata r) = clean_spends clean_none
    again_spends Main = clean_spends clean_none
    again_spends Unknown = clean_spends clean_none

    -- and the list stays.
    again_kept : (x : Item) → Kept (again_item l b x u)
    unfolding again_item traverse_table traverse_closure retraverse_thread
    again_kept (Table r) =
        choice (λ (x : ℕ × List ℕ). Kept x.1) (colour_w l (tab r) u) (64, u) (table_cost (body_at l.tables r.0) u, traverse_table_at (ops l) l b r u)
        (λ q g. refl) (λ h. table_kept r h)
    again_kept (Function r) =
        choice (λ (x : ℕ × List ℕ). Kept x.1) (colour_w l (fun r) u) (48, u) (closure_cost (body_at l.functions r.0) u, traverse_closure_at (ops l) l r u)
        (λ q g. refl) (λ h. subst (λ x. Kept x) (sym (closure_links_lem l ok a u long r u marked_none h)) (after_paint (fun r) (closure_links u l (body_at l.functions r.0)) h))
    again_kept (Thread r) =
        choice (λ (x : List ℕ). Kept x) (colour_w l (thread r) u) u (retraverse_thread_at (ops l) l r u)
        (λ q g. refl)
        (λ h. subst (λ x. Kept x) (sym (again_links l ok a u long r u marked_none h))
        (after_paint (thread r) (table_link (thread_global (body_at l.threads r.0) u) ++ stack_links u (body_at l.threads r.0)) h))
    again_kept (Userdata r) = λ q g. refl
    again_kept Main = λ q g. refl
    again_kept Unknown = λ q g. refl

  -- The whole list: as many listed weak as tables are on it.
  module _ (b w : List ℕ) (long : l.words ≤ length w) where
    pub record Walked (k : ℕ) (u : List ℕ) : Type 0 where
      pub spends : Spends l (items_to l.grayagain 5 k w) 0 w u
      pub kept : (q : ℕ) → OnList l.grayagain q → at u q ≡ at w q

    -- the item of each turn is the one that was there before the first
    item_then : (k : ℕ) (u : List ℕ) → Walked k u → k < length_of l.grayagain w → item_at l.grayagain k u ≡ item_in w (place l.grayagain k)
    item_then k u s h =
        let n : length_of l.grayagain u ≡ length_of l.grayagain w = (list_same l.grayagain w u s.kept).0 in
        item_found l.grayagain k u (subst (λ m. k < m) (sym n) h)
        ∙ item_three (place l.grayagain k) u w (s.kept (place l.grayagain k) (inr (omega arith, omega arith))) (s.kept (place l.grayagain k + 1) (inr (omega arith, omega arith)))
        (s.kept (place l.grayagain k + 2) (inr (omega arith, omega arith)))

    next_items : (k : ℕ) → items_to l.grayagain 5 (k + 1) w ≡ one (eqb (at w (place l.grayagain k)) 5) + items_to l.grayagain 5 k w
    unfolding items_to
    next_items k =
        let q : k + 1 ≡ suc k = omega arith in
        ap (λ (n : ℕ). items_to l.grayagain 5 n w) q

    walk : (k : ℕ) (u : List ℕ) → k < length_of l.grayagain w → Walked k u → Walked (k + 1) (again_listed l b k u)
    unfolding again_listed
    walk k u h s = subst (λ x. Walked (k + 1) (again_item l b x u)) (sym (item_then k u s h)) (record {
      spends = spends_more (spends_then l (items_to l.grayagain 5 k w) 0 (one (eqb (kind_of x) 5)) 0 s.spends (again_spends b u u_long x))
          (sums (items_to l.grayagain 5 (k + 1) w) (items_to l.grayagain 5 k w) (one (eqb (kind_of x) 5)) (one (eqb (at w (place l.grayagain k)) 5)) (next_items k) (kind_read w (place l.grayagain k) 5 (omega arith)));
      kept = λ q g. again_kept b u u_long x q g ∙ s.kept q g;
    })
      where
        x : Item
        x = item_in w (place l.grayagain k)

        u_long : l.words ≤ length u
        u_long = omega (arith, long, s.spends.light.marked.long)

        sums : (x y p q : ℕ) → x ≡ q + y → p ≤ q → y + p ≤ x
        sums x y p q e f = omega (arith, e, f)

    pub walked_all : Walked (length_of l.grayagain w) (again_all l b w)
    unfolding again_all items_to
    walked_all =
        run_along (again_listed l b) Walked 0 (length_of l.grayagain w) w (omega arith) (λ k u h s. walk k u h s)
        (record { spends = clean_spends clean_none; kept = λ q g. refl })

  -- The first part of the atomic phase, from lists that are paid for: within the rooms, the damage mark as it was.
  module _ (am : Ample l) (b w : List ℕ) (long : l.words ≤ length w) (h : Paid (tally l w) 0 0 0) where
    abbrev w₁ : List ℕ
    w₁ = mark_main (ops l) l w

    abbrev w₂ : List ℕ
    w₂ = again_all l b w₁

    abbrev w₃ : List ℕ
    w₃ = cleared l.grayagain w₂

    main_is : w₁ ≡ marks l (main_links w l) w
    main_is = main_links_lem l ok a w long w marked_none

    main_marked : Marked l w w₁
    main_marked = subst (λ x. Marked l w x) (sym main_is) (marks_marked l ok a (main_links w l) long marked_none)

    long₁ : l.words ≤ length w₁
    long₁ = omega (arith, long, main_marked.long)

    main_paid : Whole l 0 0 0 w w₁
    main_paid = subst (λ x. Whole l 0 0 0 w x) (sym main_is) (marks_whole l ok a am w long (main_links w l) (record { long = refl; mark = refl; paid = h }))

    rooms₁ : Roomy l w₁ × (stock_weak l w₁ + items_of l.grayagain 5 w₁ ≤ l.weak.room)
    rooms₁ = paid_roomy am w₁ main_paid.paid

    again_walked : Spends l (items_of l.grayagain 5 w₁) 0 w₁ w₂
    again_walked = (walked_all b w₁ long₁).spends

    long₂ : l.words ≤ length w₂
    long₂ = omega (arith, long₁, again_walked.light.marked.long)

    again_mark : at w₂ damage ≡ at w₁ damage
    again_mark = again_walked.whole rooms₁.0.gray rooms₁.1 (plain (stock_again l w₁) l.grayagain.room rooms₁.0.again)
      where
        plain : (x y : ℕ) → x ≤ y → x + 0 ≤ y
        plain x y g = omega (arith, g)

    -- grayagain is emptied
    empty_marked : Marked l w₂ w₃
    empty_marked = moves_marked l ok a (emptied (still refl) grayagain refl) long₂

    long₃ : l.words ≤ length w₃
    long₃ = omega (arith, long₂, empty_marked.long)

    empty_gray : (length_of l.gray w₃ ≡ length_of l.gray w₂) × ((c : ℕ) → items_of l.gray c w₃ ≡ items_of l.gray c w₂)
    empty_gray = other_same l ok a grayagain gray tt w₂ w₃ (cleared_only l ok a grayagain w₂ long₂)

    empty_roomy : Roomy l w₃
    empty_roomy = record {
      gray = sums (whites_of l w₃) (length_of l.gray w₃) (whites_of l w₂) (length_of l.gray w₂) (weight l w₁) l.gray.room (whites_fall empty_marked) empty_gray.0 again_walked.light.less rooms₁.0.gray;
      weak = three (whites_in l 1 w₃) (items_of l.gray 5 w₃) (length_of l.weak w₃) (whites_in l 1 w₂) (items_of l.gray 5 w₂) (length_of l.weak w₂) (stock_weak l w₁) (items_of l.grayagain 5 w₁) l.weak.room
          (fall empty_marked 1) (empty_gray.1 5) (other_same l ok a grayagain weak tt w₂ w₃ (cleared_only l ok a grayagain w₂ long₂)).0 again_walked.weak rooms₁.1;
      again = none (whites_in l 5 w₃) (items_of l.gray 8 w₃) (length_of l.grayagain w₃) (whites_in l 5 w₂) (items_of l.gray 8 w₂) (length_of l.grayagain w₂) (stock_again l w₁) l.grayagain.room
          (fall empty_marked 5) (empty_gray.1 8) (cleared_length l.grayagain w₂ (grayagain_room_lem l w₂ ok long₂)) again_walked.again rooms₁.0.again;
    }
      where
        sums : (x y p q s r : ℕ) → x ≤ p → y ≡ q → p + q ≤ s → s ≤ r → x + y ≤ r
        sums x y p q s r f e g i = omega (arith, f, e, g, i)

        three : (x y z p q s t n r : ℕ) → x ≤ p → y ≡ q → z ≡ s → p + q + s ≤ t + n → t + n ≤ r → x + y + z ≤ r
        three x y z p q s t n r f e d g i = omega (arith, f, e, d, g, i)

        none : (x y z p q s t r : ℕ) → x ≤ p → y ≡ q → z ≡ 0 → p + q + s ≤ t + 0 → t ≤ r → x + y + z ≤ r
        none x y z p q s t r f e d g i = omega (arith, f, e, d, g, i)

    empty_mark : at w₃ damage ≡ at w₂ damage
    empty_mark = cleared_kept l.grayagain w₂ (grayagain_room_lem l w₂ ok long₂) damage (λ e. omega (arith, e, o.grayagain)) (inl (omega (arith, o.header, a)))

    -- It is marking, stays within the rooms, and leaves the damage mark.
    pub marked_roomy : Marked l w (marked l b w) × Roomy l (marked l b w) × (at (marked l b w) damage ≡ at w damage)
    unfolding marked
    marked_roomy =
        let r = all_roomy l ok a b w₃ long₃ empty_roomy in (
          marked_then main_marked (marked_then again_walked.light.marked (marked_then empty_marked (moves_marked l ok a (all_moves l ok a b w₃ long₃) long₃))),
          r.0,
          r.1 ∙ empty_mark ∙ again_mark ∙ main_paid.mark,
        )
