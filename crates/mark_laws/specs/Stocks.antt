-- What marking takes of the rooms of weak and grayagain. A table is listed weak when it is traversed, which takes a gray item
-- of a table, and that took a white table: so white tables, gray items of tables and weak items are counted together;
-- threads and grayagain likewise. Assumes nothing.
--     stock_weak, stock_again      the sums
--     Spends, spends_then        a part of marking lists at most p weak and q again, and marks no damage within the rooms
--     weak_spends, again_spends  a push onto weak, and one onto grayagain
--     table_spends, closure_spends, thread_spends, main_spends     the traversals
use Rattle.std.specs.Prelude.{◌≡◌, refl, Bool, cond, List, ◌≢◌, ℕ, min, ◌+◌, ◌*◌, ◌≤◌, ◌<◌, length}
use Rattle.std.proofs.Common.{sym, ap, subst, ◌∙◌, inl, arith}
use Rattle.std.proofs.Math.Bool.{true, false}
use Rattle.std.proofs.Math.Decide.{dec_lt}
use Rattle.base.specs.Words.{at}
use Rattle.value.specs.declared.TableRef.{TableRef}
use Rattle.value.specs.declared.FuncRef.{FuncRef}
use Rattle.value.specs.declared.ThreadRef.{ThreadRef}
use Rattle.layout.specs.declared.Lay.{Lay}
use Rattle.lists.specs.declared.Item.{Item}
use Rattle.lists.specs.declared.Item.TheVariants.{Table, Thread, Main}
use Rattle.lists.specs.Lists.{damage, RoomFor, length_of, push}
use Rattle.lists.proofs.Laws.{push_kept, push_length, push_full_length, push_unmarked}
use Rattle.lists.specs.Laws as lists
use Rattle.record.specs.Fields.{body_at}
use Rattle.record.specs.Tables.{table_meta}
use Rattle.laid.specs.Laid.{Laid}
use Rattle.mark.specs.Ops.{tab, fun, thread, Work, gray, grayagain, weak}
use Rattle.mark.specs.Words.{list_of, colour_w, paint_w, ops}
use Rattle.modes.specs.declared.Mode.{Mode}
use Rattle.modes.specs.Modes.{is_weak, weak_mode}
use Rattle.table_walk.specs.Tables.{list_weak, traverse_table_at}
use Rattle.run_walk.specs.Closures.{traverse_closure_at}
use Rattle.run_walk.specs.Threads.{traverse_thread_at}
use Rattle.run_walk.specs.MainThread.{traverse_main_thread}
use Rattle.links.specs.Links.{table_link, entry_links, closure_links, thread_links, main_links}
use Rattle.mark_laws.specs.Apart.{Apart, Order, order}
use Rattle.mark_laws.specs.Moves.{still, pushed}
use Rattle.mark_laws.specs.Changes.{Marked, marked_none, moves_marked, work_room}
use Rattle.mark_laws.specs.Marks.{marks}
use Rattle.mark_laws.specs.TableLinks.{table_links_lem}
use Rattle.mark_laws.specs.RunLinks.{closure_links_lem, thread_links_lem}
use Rattle.mark_laws.specs.MainLinks.{main_traversed}
use Rattle.mark_laws.specs.Whites.{whites_in, fall}
use Rattle.mark_laws.specs.Items.{items_of, items_stay}
use Rattle.mark_laws.specs.Weights.{weight, supply, Lighter, lighter_then, Clean, clean_none, clean_then, black_clean, marks_clean}
use Rattle.mark_laws.specs.Ends.{weak_lighter, again_lighter}

-- White tables, gray items of tables, and weak items; white threads, gray items of threads, and items of grayagain.
abbrev pub stock_weak : Lay → List ℕ → ℕ
stock_weak l w = supply l 1 5 w + length_of l.weak w

-- the same of threads
abbrev pub stock_again : Lay → List ℕ → ℕ
stock_again l w = supply l 5 8 w + length_of l.grayagain w

-- Marking that lists at most p items weak and q items again; with room for those it leaves the damage mark.
pub record Spends (l : Lay) (p q : ℕ) (w u : List ℕ) : Type 0 where
  pub light : Lighter l w u
  pub weak : stock_weak l u ≤ stock_weak l w + p
  pub again : stock_again l u ≤ stock_again l w + q
  pub whole : weight l w ≤ l.gray.room → stock_weak l w + p ≤ l.weak.room → stock_again l w + q ≤ l.grayagain.room → at u damage ≡ at w damage

-- sums, over any numbers
sum_none : (x y p q : ℕ) → x ≤ y → p ≡ q → x + p ≤ y + q + 0
sum_none x y p q f e = omega (arith, f, e)

sum_more : (x y p q : ℕ) → x ≤ y → p ≤ q + 1 → x + p ≤ y + q + 1
sum_more x y p q f e = omega (arith, f, e)

sum_then : (x y z p q : ℕ) → x ≤ y + q → y ≤ z + p → x ≤ z + (p + q)
sum_then x y z p q f g = omega (arith, f, g)

sum_first : (z p q r : ℕ) → z + (p + q) ≤ r → z + p ≤ r
sum_first z p q r h = omega (arith, h)

sum_second : (y z p q r : ℕ) → y ≤ z + p → z + (p + q) ≤ r → y + q ≤ r
sum_second y z p q r g h = omega (arith, g, h)

-- one order after the other
pub le_le : (x y z : ℕ) → x ≤ y → y ≤ z → x ≤ z
le_le x y z f g = omega (arith, f, g)

-- What is clean spends nothing.
pub clean_spends : {l : Lay} {w u : List ℕ} → Clean l w u → Spends l 0 0 w u
clean_spends {l} {w} {u} c = record {
  light = c.light;
  weak = sum_none (supply l 1 5 u) (supply l 1 5 w) (length_of l.weak u) (length_of l.weak w) c.tables c.weak;
  again = sum_none (supply l 5 8 u) (supply l 5 8 w) (length_of l.grayagain u) (length_of l.grayagain w) c.threads c.again;
  whole = λ h f g. c.whole h;
}

-- One part after the other spends both.
pub spends_then : (l : Lay) (p q p' q' : ℕ) {w u v : List ℕ} → Spends l p q w u → Spends l p' q' u v → Spends l (p + p') (q + q') w v
spends_then l p q p' q' {w} {u} {v} f g = record {
  light = lighter_then f.light g.light;
  weak = sum_then (stock_weak l v) (stock_weak l u) (stock_weak l w) p p' g.weak f.weak;
  again = sum_then (stock_again l v) (stock_again l u) (stock_again l w) q q' g.again f.again;
  whole = λ h s t.
      g.whole (le_le (weight l u) (weight l w) l.gray.room f.light.less h)
      (sum_second (stock_weak l u) (stock_weak l w) p p' l.weak.room f.weak s)
      (sum_second (stock_again l u) (stock_again l w) q q' l.grayagain.room f.again t)
      ∙ f.whole h (sum_first (stock_weak l w) p p' l.weak.room s) (sum_first (stock_again l w) q q' l.grayagain.room t);
}

module _ (l : Lay) (ok : Laid l) (a : Apart l) where
  abbrev o : Order l
  o = order l ok a

  -- A push onto a list other than gray.
  module _ (k : Work) (x : Item) (w : List ℕ) (long : l.words ≤ length w) (d : l.gray.count ≢ (list_of l k).count) (low : (list_of l k).count < 91) (high : 91 ≤ (list_of l k).base)
      (past : l.gray.base + 3 * l.gray.room ≤ (list_of l k).base) where
    abbrev after : List ℕ
    after = push (list_of l k) x w

    rm : RoomFor (list_of l k) w
    rm = work_room l ok a k w long

    word_kept : (q : ℕ) → q < 91 → q ≢ (list_of l k).count → q ≢ 52 → at after q ≡ at w q
    word_kept q h n e = push_kept (list_of l k) x w rm q n e (inl (omega (arith, h, high)))

    gray_items : (c : ℕ) → items_of l.gray c after ≡ items_of l.gray c w
    gray_items c =
        items_stay l.gray c w after (word_kept l.gray.count (omega (arith, o.gray)) d (λ e. omega (arith, e, o.gray)))
        (λ q f g. push_kept (list_of l k) x w rm q (λ e. omega (arith, e, f, low, o.header, a)) (λ e. omega (arith, e, f, o.header, a)) (inl (omega (arith, g, past))))

    push_marks : Marked l w after
    push_marks = moves_marked l ok a (pushed (still refl) k x refl) long

    supply_kept : (j c : ℕ) → supply l j c after ≤ supply l j c w
    supply_kept j c = sums (whites_in l j after) (whites_in l j w) (items_of l.gray c after) (items_of l.gray c w) (fall push_marks j) (gray_items c)
      where
        sums : (x y p q : ℕ) → x ≤ y → p ≡ q → x + p ≤ y + q
        sums x y p q f e = omega (arith, f, e)

    mark_apart : (list_of l k).count ≢ damage → lists.Apart (list_of l k)
    mark_apart n = record { below = omega (arith, high); other = n }

    longer : (list_of l k).count ≢ damage → length_of (list_of l k) after ≤ length_of (list_of l k) w + 1
    longer n = go (dec_lt (length_of (list_of l k) w) (list_of l k).room)
      where
        one_up : (x y : ℕ) → x ≡ y + 1 → x ≤ y + 1
        one_up x y e = omega (arith, e)

        none_up : (x y : ℕ) → x ≡ y → x ≤ y + 1
        none_up x y e = omega (arith, e)

        go : Dec (length_of (list_of l k) w < (list_of l k).room) → length_of (list_of l k) (push (list_of l k) x w) ≤ length_of (list_of l k) w + 1
        go (yes h) = one_up (length_of (list_of l k) (push (list_of l k) x w)) (length_of (list_of l k) w) (push_length (list_of l k) x w rm h)
        go (no h) =
            let g : (list_of l k).room ≤ length_of (list_of l k) w = omega (arith, h) in
            none_up (length_of (list_of l k) (push (list_of l k) x w)) (length_of (list_of l k) w) (push_full_length (list_of l k) x w rm (mark_apart n) g)

    undamaged : (list_of l k).count ≢ damage → (s : ℕ) → s + length_of (list_of l k) w + 1 ≤ (list_of l k).room → at after damage ≡ at w damage
    undamaged n s h = push_unmarked (list_of l k) x w rm (mark_apart n) (below s (length_of (list_of l k) w) (list_of l k).room h)
      where
        below : (s x r : ℕ) → s + x + 1 ≤ r → x < r
        below s x r h = omega (arith, h)

  -- A push onto weak, and one onto grayagain.
  pub weak_spends : (x : Item) (w : List ℕ) → l.words ≤ length w → Spends l 1 0 w (push l.weak x w)
  weak_spends x w long = record {
    light = weak_lighter l ok a x w long;
    weak = sum_more (supply l 1 5 (push l.weak x w)) (supply l 1 5 w) (length_of l.weak (push l.weak x w)) (length_of l.weak w) (supply_kept weak x w long d low high past 1 5) (longer weak x w long d low high past n);
    again = sum_none (supply l 5 8 (push l.weak x w)) (supply l 5 8 w) (length_of l.grayagain (push l.weak x w)) (length_of l.grayagain w) (supply_kept weak x w long d low high past 5 8)
        (ap (λ (k : ℕ). min k l.grayagain.room) (word_kept weak x w long d low high past l.grayagain.count (omega (arith, o.grayagain)) (λ e. omega (arith, e, o.grayagain, o.weak)) (λ e. omega (arith, e, o.grayagain))));
    whole = λ h s t. undamaged weak x w long d low high past n (supply l 1 5 w) s;
  }
    where
      d : l.gray.count ≢ l.weak.count
      d e = omega (arith, e, o.gray, o.weak)

      n : l.weak.count ≢ damage
      n e = omega (arith, e, o.weak)

      low : l.weak.count < 91
      low = omega (arith, o.weak)

      high : 91 ≤ l.weak.base
      high = omega (arith, o.header, a)

      past : l.gray.base + 3 * l.gray.room ≤ l.weak.base
      past = omega (arith, a)

  -- A push onto grayagain takes one place there.
  pub again_spends : (x : Item) (w : List ℕ) → l.words ≤ length w → Spends l 0 1 w (push l.grayagain x w)
  again_spends x w long = record {
    light = again_lighter l ok a x w long;
    weak = sum_none (supply l 1 5 (push l.grayagain x w)) (supply l 1 5 w) (length_of l.weak (push l.grayagain x w)) (length_of l.weak w) (supply_kept grayagain x w long d low high past 1 5)
        (ap (λ (k : ℕ). min k l.weak.room) (word_kept grayagain x w long d low high past l.weak.count (omega (arith, o.weak)) (λ e. omega (arith, e, o.grayagain, o.weak)) (λ e. omega (arith, e, o.weak))));
    again = sum_more (supply l 5 8 (push l.grayagain x w)) (supply l 5 8 w) (length_of l.grayagain (push l.grayagain x w)) (length_of l.grayagain w) (supply_kept grayagain x w long d low high past 5 8) (longer grayagain x w long d low high past n);
    whole = λ h s t. undamaged grayagain x w long d low high past n (supply l 5 8 w) t;
  }
    where
      d : l.gray.count ≢ l.grayagain.count
      d e = omega (arith, e, o.gray, o.grayagain)

      n : l.grayagain.count ≢ damage
      n e = omega (arith, e, o.grayagain)

      low : l.grayagain.count < 91
      low = omega (arith, o.grayagain)

      high : 91 ≤ l.grayagain.base
      high = omega (arith, o.header, a)

      past : l.gray.base + 3 * l.gray.room ≤ l.grayagain.base
      past = a.gray

  -- what spends nothing spends one at most
  pub spends_one : (w u : List ℕ) → Spends l 0 0 w u → Spends l 1 0 w u
  spends_one w u c = record {
    light = c.light;
    weak = up (stock_weak l u) (stock_weak l w) c.weak;
    again = c.again;
    whole = λ h s t. c.whole h (down (stock_weak l w) l.weak.room s) t;
  }
    where
      up : (x y : ℕ) → x ≤ y + 0 → x ≤ y + 1
      up x y h = omega (arith, h)

      down : (x y : ℕ) → x + 1 ≤ y → x + 0 ≤ y
      down x y h = omega (arith, h)

  -- and so for grayagain
  pub spends_again : (w u : List ℕ) → Spends l 0 0 w u → Spends l 0 1 w u
  spends_again w u c = record {
    light = c.light;
    weak = c.weak;
    again = up (stock_again l u) (stock_again l w) c.again;
    whole = λ h s t. c.whole h s (down (stock_again l w) l.grayagain.room t);
  }
    where
      up : (x y : ℕ) → x ≤ y + 0 → x ≤ y + 1
      up x y h = omega (arith, h)

      down : (x y : ℕ) → x + 1 ≤ y → x + 0 ≤ y
      down x y h = omega (arith, h)

  list_weak_spends : (d : Mode) (r : TableRef) (w : List ℕ) → l.words ≤ length w → Spends l 1 0 w (list_weak (ops l) d r w)
  unfolding list_weak
  list_weak_spends d r w long = go (is_weak d)
    where
      go : (b : Bool) → Spends l 1 0 w (cond b (push l.weak (Table r) w) w)
      go true = weak_spends (Table r) w long
      go false = spends_one w w (clean_spends clean_none)

  module _ (u : List ℕ) (long : l.words ≤ length u) where
    -- Traversing a table lists at most one weak, a thread one again, a closure none.
    pub table_spends : (b : List ℕ) (r : TableRef) → 1 ≤ colour_w l (tab r) u → Spends l 1 0 u (traverse_table_at (ops l) l b r u)
    table_spends b r h =
        let p = body_at l.tables r.0 in
        let d = weak_mode l (table_meta p u) u b in
        let f = clean_then (black_clean l ok a (tab r) u long h) (marks_clean l ok a (table_link (table_meta p u)) (paint_w l (tab r) 4 u) (omega (arith, (black_clean l ok a (tab r) u long h).light.marked.long))) in
        let v = marks l (table_link (table_meta p u)) (paint_w l (tab r) 4 u) in
        let g = spends_then l 0 0 1 0 (clean_spends f) (list_weak_spends d r v (omega (arith, f.light.marked.long))) in
        subst (λ x. Spends l 1 0 u x) (sym (table_links_lem l ok a u long b r u marked_none h))
        (spends_then l 1 0 0 0 g (clean_spends (marks_clean l ok a (entry_links u d p) (list_weak (ops l) d r v) (omega (arith, g.light.marked.long)))))

    -- A closure takes none.
    pub closure_spends : (r : FuncRef) → 1 ≤ colour_w l (fun r) u → Spends l 0 0 u (traverse_closure_at (ops l) l r u)
    closure_spends r h =
        let f = black_clean l ok a (fun r) u long h in
        subst (λ x. Spends l 0 0 u x) (sym (closure_links_lem l ok a u long r u marked_none h))
        (clean_spends (clean_then f (marks_clean l ok a (closure_links u l (body_at l.functions r.0)) (paint_w l (fun r) 4 u) (omega (arith, f.light.marked.long)))))

    -- A thread takes one place in grayagain at most.
    pub thread_spends : (r : ThreadRef) → 1 ≤ colour_w l (thread r) u → Spends l 0 1 u (traverse_thread_at (ops l) l r u)
    thread_spends r h =
        let f = black_clean l ok a (thread r) u long h in
        let t = thread_links u (body_at l.threads r.0) in
        let g = clean_then f (marks_clean l ok a t (paint_w l (thread r) 4 u) (omega (arith, f.light.marked.long))) in
        subst (λ x. Spends l 0 1 u x) (sym (thread_links_lem l ok a u long r u marked_none h))
        (spends_then l 0 0 0 1 (clean_spends g) (again_spends (Thread r) (marks l t (paint_w l (thread r) 4 u)) (omega (arith, g.light.marked.long))))

    -- The main thread lists itself again.
    pub main_spends : Spends l 0 1 u (traverse_main_thread (ops l) l u).1
    main_spends =
        let g = marks_clean l ok a (main_links u l) u long in
        subst (λ x. Spends l 0 1 u x) (sym (ap (λ (x : ℕ × List ℕ). x.1) (main_traversed l ok a u long u marked_none)))
        (spends_then l 0 0 0 1 (clean_spends g) (again_spends Main (marks l (main_links u l) u) (omega (arith, g.light.marked.long))))
