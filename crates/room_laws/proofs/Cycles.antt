-- From marked roots any propagation, with both barriers and whatever else is done meanwhile, stays within the rooms: the
-- damage mark is as it was. Assumes nothing.
--     roots_whole             the lists are emptied and the roots marked, from any words
--     back_whole, forward_whole     both barriers
--     propagating_whole, propagating_rooms     all of it keeps the lists paid for and leaves the damage mark; and so no list passes its room
use Rattle.std.specs.Prelude.{◌≡◌, refl, ℕ, ◌+◌, ◌≤◌, ◌<◌, length}
use Rattle.std.proofs.Common.{sym, ◌∙◌, arith, length-set, ne_eqb}
use Rattle.std.proofs.Math.Path.{ap, subst}
use mathlib.Core.List.{List}
use Rattle.std.proofs.Math.Decide.{ℕ_discrete}
use Rattle.base.specs.Ways.{if_eq, eq_yes, eq_no, eq_either}
use Rattle.base.specs.Words.{at}
use Rattle.value.specs.declared.TableRef.{TableRef}
use Rattle.value.specs.declared.Value.{Value}
use Rattle.layout.specs.declared.Lay.{Lay}
use Rattle.layout.specs.Places.{PHASE, WHITE}
use Rattle.lists.specs.declared.Item.TheVariants.{Table, Main}
use Rattle.lists.specs.Lists.{damage, length_of, push}
use Rattle.lists.proofs.Laws.{push_long, push_length, push_unmarked}
use Rattle.laid.specs.Laid.{Laid, gray_room_lem, grayagain_room_lem}
use Rattle.mark.specs.Ops.{tab, gray, grayagain, weak}
use Rattle.mark.specs.Words.{colour_w, paint_w, ops}
use Rattle.mark.specs.Marking.{value_colour}
use Rattle.propagate.specs.Propagation.{propagate_one}
use Rattle.propagate.specs.Roots.{clear_lists, mark_roots}
use Rattle.propagate.specs.Barriers.{barrier_back, barrier_forward}
use Rattle.links.specs.Links.{value_links, root_links}
use Rattle.mark_laws.specs.Apart.{Apart, Order, order}
use Rattle.mark_laws.specs.Moves.{still}
use Rattle.mark_laws.specs.Changes.{Marked, marked_none, moves_marked}
use Rattle.mark_laws.specs.Follows.{value_links_lem}
use Rattle.mark_laws.specs.RootLinks.{roots_links, cleared_moves}
use Rattle.mark_laws.specs.Items.{items_to, items_of, push_counts}
use Rattle.mark_laws.specs.Starts.{cleared_empty}
use Rattle.room_laws.specs.Counts.{is_gray, is_dark, count_most, count_same}
use Rattle.room_laws.specs.Tallies.{Tally, tally, Paid, Ample}
use Rattle.room_laws.specs.Frames.{mark_apart, push_only, other_same, colours_same}
use Rattle.room_laws.specs.Paints.{paint_more, paint_mark}
use Rattle.room_laws.specs.Payments.{Whole, Painted, Grown}
use Rattle.room_laws.proofs.Payments.{quiet_whole, painted, grown, whole_long, marks_whole}
use Rattle.room_laws.specs.Steps.{mains_due}
use Rattle.room_laws.proofs.Steps.{one_whole, main_whole}
use Rattle.room_laws.specs.Cycles.{Propagating, started, stepped, walked, back, forward, meanwhile}

module _ (l : Lay) (ok : Laid l) (a : Apart l) (am : Ample l) (w : List ℕ) (long : l.words ≤ length w) where
  abbrev o : Order l
  o = order l ok a

  -- The lists are emptied, and the main thread is listed.
  abbrev pub empty : List ℕ
  empty = clear_lists (ops l) w

  empty_marked : Marked l w empty
  empty_marked = moves_marked l ok a (cleared_moves l (still refl)) long

  empty_long : l.words ≤ length empty
  empty_long = omega (arith, long, empty_marked.long)

  no_items : (c : ℕ) → items_of l.gray c empty ≡ 0
  unfolding items_to
  no_items c = ap (λ (n : ℕ). items_to l.gray c n empty) (cleared_empty l ok a w long).0

  no_later : items_of l.grayagain 5 empty ≡ 0
  unfolding items_to
  no_later = ap (λ (n : ℕ). items_to l.grayagain 5 n empty) (cleared_empty l ok a w long).1

  -- That is paid for.
  pub listed_whole : Whole l 0 0 0 w (push l.gray Main empty)
  listed_whole =
      let e = cleared_empty l ok a w long in
      record {
        long = push_long l.gray Main empty (gray_room_lem l empty ok empty_long) ∙ empty_marked.long;
        mark = push_unmarked l.gray Main empty (gray_room_lem l empty ok empty_long) (mark_apart l ok a gray) room ∙ e.3;
        paid = sums (tally l empty) (tally l (push l.gray Main empty)) e.0 e.2 e.1 (no_items 5) (no_items 8) (no_items 9) no_later (grown l ok a am Main empty empty_long room);
      }
    where
      small : (x y z : ℕ) → x ≡ 0 → z + 1 ≤ y → x < y
      small x y z e h = omega (arith, e, h)

      room : length_of l.gray empty < l.gray.room
      room = small (length_of l.gray empty) l.gray.room (l.tables.slots + l.functions.slots + l.threads.slots) (cleared_empty l ok a w long).0 am.gray

      sums : (x y : Tally) → x.gray ≡ 0 → x.weak ≡ 0 → x.again ≡ 0 → x.tables ≡ 0 → x.threads ≡ 0 → x.mains ≡ 0 → x.later ≡ 0 → Grown 9 x y → Paid y 0 0 0
      sums x y b c d e f g h s = record { gray = omega (arith, b, s); weak = omega (arith, c, e, s); tables = omega (arith, e, h, s); again = omega (arith, d, e, f, g, s) }

  -- From any words: the lists are emptied and the roots marked.
  pub roots_whole : Whole l 0 0 0 w (mark_roots (ops l) (clear_lists (ops l) w))
  roots_whole =
      subst (λ x. Whole l 0 0 0 w x) (sym (roots_links l ok a empty empty_long empty marked_none))
      (marks_whole l ok a am w long (root_links empty l) listed_whole)

  -- The backward barrier: a black table is painted gray and listed again.
  turned : {p t q : ℕ} (r : TableRef) {u : List ℕ} → colour_w l (tab r) u ≡ 4 → Whole l p t q w u → Whole l p t q w (push l.grayagain (Table r) (paint_w l (tab r) 3 u))
  turned {p} {t} {q} r {u} e h =
      let s = push_only l ok a grayagain (Table r) v v_long in
      let y = other_same l ok a grayagain gray tt v (push l.grayagain (Table r) v) s in
      let z = other_same l ok a grayagain weak tt v (push l.grayagain (Table r) v) s in
      record {
        long = push_long l.grayagain (Table r) v (grayagain_room_lem l v ok v_long) ∙ length-set u (l.tables.base + r.0) 3 ∙ h.long;
        mark = push_unmarked l.grayagain (Table r) v (grayagain_room_lem l v ok v_long) (mark_apart l ok a grayagain) room ∙ paint_mark l ok a (tab r) 3 u u_long named ∙ h.mark;
        paid = sums (tally l u) (tally l v) (tally l (push l.grayagain (Table r) v)) h.paid paint more
            y.0 z.0 (push_length l.grayagain (Table r) v (grayagain_room_lem l v ok v_long) room) (y.1 5) (y.1 8) (y.1 9)
            (push_counts l.grayagain 5 v (grayagain_room_lem l v ok v_long) (Table r) (mark_apart l ok a grayagain))
            (count_same is_dark l.tables.base l.tables.slots v (push l.grayagain (Table r) v) (colours_same l ok a grayagain v (push l.grayagain (Table r) v) s 1))
            (count_same is_dark l.functions.base l.functions.slots v (push l.grayagain (Table r) v) (colours_same l ok a grayagain v (push l.grayagain (Table r) v) s 2))
            (count_same is_dark l.threads.base l.threads.slots v (push l.grayagain (Table r) v) (colours_same l ok a grayagain v (push l.grayagain (Table r) v) s 5))
            (count_same is_gray l.tables.base l.tables.slots v (push l.grayagain (Table r) v) (colours_same l ok a grayagain v (push l.grayagain (Table r) v) s 1));
      }
    where
      v : List ℕ
      v = paint_w l (tab r) 3 u

      u_long : l.words ≤ length u
      u_long = whole_long l ok a am w long h

      v_long : l.words ≤ length (paint_w l (tab r) 3 u)
      v_long = omega (arith, u_long, length-set u (l.tables.base + r.0) 3)

      named : 1 ≤ colour_w l (tab r) u
      named = omega (arith, e)

      paint : Painted (tally l u) (tally l (paint_w l (tab r) 3 u))
      paint = painted l ok a am (tab r) 3 u u_long named (omega arith) (omega arith)

      more : (tally l u).gray_tables + 1 ≤ (tally l (paint_w l (tab r) 3 u)).gray_tables
      more = paint_more l ok a (tab r) 3 u u_long named is_gray refl (ne_eqb (colour_w l (tab r) u) 3 (λ z. omega (arith, z, e)))

      fits : (x y : Tally) {m n k : ℕ} → Paid x p t q → Painted x y → x.gray_tables + 1 ≤ y.gray_tables → y.gray_tables ≤ m → y.dark_threads ≤ n → m + n + 1 ≤ k → y.again < k
      fits x y h s g b c d = omega (arith, h.again, s, g, b, c, d)

      room : length_of l.grayagain (paint_w l (tab r) 3 u) < l.grayagain.room
      room = fits (tally l u) (tally l (paint_w l (tab r) 3 u)) h.paid paint more (count_most is_gray l.tables.base l.tables.slots (paint_w l (tab r) 3 u)) (count_most is_dark l.threads.base l.threads.slots (paint_w l (tab r) 3 u)) am.again

      sums : (x y z : Tally) → Paid x p t q → Painted x y → x.gray_tables + 1 ≤ y.gray_tables
          → z.gray ≡ y.gray → z.weak ≡ y.weak → z.again ≡ y.again + 1 → z.tables ≡ y.tables → z.threads ≡ y.threads → z.mains ≡ y.mains → z.later ≤ y.later + 1
          → z.dark_tables ≡ y.dark_tables → z.dark_closures ≡ y.dark_closures → z.dark_threads ≡ y.dark_threads → z.gray_tables ≡ y.gray_tables → Paid z p t q
      sums x y z h s g b c d e f i j k m n r =
          record { gray = omega (arith, h.gray, s, b, k, m, n); weak = omega (arith, h.weak, s, c, e, k); tables = omega (arith, h.tables, s, g, e, j, r); again = omega (arith, h.again, s, g, d, e, f, i, n, r) }

  -- The backward barrier.
  pub back_whole : {p t q : ℕ} (r : TableRef) {u : List ℕ} → Whole l p t q w u → Whole l p t q w (barrier_back (ops l) r u)
  unfolding barrier_back
  back_whole {p} {t} {q} r {u} h = eq_either (λ (x : List ℕ). Whole l p t q w x) (at u PHASE) 1 _ u (go (ℕ_discrete (colour_w l (tab r) u) 4)) h
    where
      go : Dec (colour_w l (tab r) u ≡ 4) → Whole l p t q w (if_eq (colour_w l (tab r) u) 4 (push l.grayagain (Table r) (paint_w l (tab r) 3 u)) u)
      go (yes e) = subst (λ x. Whole l p t q w x) (eq_yes (colour_w l (tab r) u) 4 _ _ _ e refl) (turned r e h)
      go (no d) = subst (λ x. Whole l p t q w x) (eq_no (colour_w l (tab r) u) 4 _ _ _ d refl) h

  -- The forward barrier.
  pub forward_whole : {p t q : ℕ} (parent : ℕ) (x : Value) {u : List ℕ} → Whole l p t q w u → Whole l p t q w (barrier_forward (ops l) l parent x u)
  unfolding barrier_forward
  forward_whole {p} {t} {q} parent x {u} h =
      eq_either (λ (y : List ℕ). Whole l p t q w y) (at u PHASE) 1 _ u
      (eq_either (λ (y : List ℕ). Whole l p t q w y) parent 4 _ u
      (eq_either (λ (y : List ℕ). Whole l p t q w y) (value_colour (ops l) x u) (at u WHITE) _ u
      (subst (λ y. Whole l p t q w y) (sym (value_links_lem l x u)) (marks_whole l ok a am w long (value_links x) h)) h)
      h)
      h

module _ (l : Lay) (ok : Laid l) (a : Apart l) (am : Ample l) (w : List ℕ) (long : l.words ≤ length w) where
  -- All that keeps the lists paid for, and leaves the damage mark as it was before the roots were marked.
  pub propagating_whole : {n : ℕ} {u : List ℕ} → Propagating l w n u → Whole l 0 0 n w u
  propagating_whole (started e) = subst (λ x. Whole l 0 0 0 w x) (sym e) (roots_whole l ok a am w long)
  propagating_whole (stepped {n = n} {m = m} {u = u} {v = v} p b e f) =
      subst (λ k. Whole l 0 0 k w v) (sym e) (subst (λ x. Whole l 0 0 (n + mains_due (propagate_one (ops l) l b u).0) w x) (sym f) (one_whole l ok a am w long b (propagating_whole p)))
  propagating_whole (walked {m = m} {u = u} p e f) =
      subst (λ x. Whole l 0 0 m w x) (sym f) (main_whole l ok a am w long (subst (λ k. Whole l 0 0 k w u) e (propagating_whole p)))
  propagating_whole (back {n = n} p r e) = subst (λ x. Whole l 0 0 n w x) (sym e) (back_whole l ok a am w long r (propagating_whole p))
  propagating_whole (forward {n = n} p parent x e) = subst (λ y. Whole l 0 0 n w y) (sym e) (forward_whole l ok a am w long parent x (propagating_whole p))
  propagating_whole (meanwhile p s) = quiet_whole s (propagating_whole p)

  -- So no damage is marked, and no list is longer than its room has places, with one place left in grayagain for each main
  -- thread that waits.
  pub propagating_rooms : {n : ℕ} {u : List ℕ} → Propagating l w n u
      → (at u damage ≡ at w damage) × (length_of l.gray u ≤ l.tables.slots + l.functions.slots + l.threads.slots + 1)
      × (length_of l.weak u ≤ l.tables.slots) × (length_of l.grayagain u + n ≤ l.tables.slots + l.threads.slots + 1)
  propagating_rooms {n} {u} p =
      let h = propagating_whole p in
      let s = sums (tally l u) h.paid (count_most is_dark l.tables.base l.tables.slots u) (count_most is_dark l.functions.base l.functions.slots u)
      (count_most is_dark l.threads.base l.threads.slots u) (count_most is_gray l.tables.base l.tables.slots u) in
      (h.mark, s.0, s.1, s.2)
    where
      sums : (x : Tally) {b c d : ℕ} → Paid x 0 0 n → x.dark_tables ≤ b → x.dark_closures ≤ c → x.dark_threads ≤ d → x.gray_tables ≤ b → (x.gray ≤ b + c + d + 1) × (x.weak ≤ b) × (x.again + n ≤ b + d + 1)
      sums x h f g i j = (omega (arith, h.gray, f, g, i), omega (arith, h.weak, f), omega (arith, h.again, i, j))
