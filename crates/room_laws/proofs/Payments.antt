-- Each thing that marking does keeps the lists paid for, and within their rooms leaves the damage mark. Assumes nothing.
--     black_whole, gray_whole, marks_whole      painting a white slot; marking a list of links
--     table_black, closure_black, thread_black      a slot that is traversed is painted black
--     gray_fits, weak_fits, again_fits     there is room for what is paid for
--     weak_whole, again_whole, cleared_whole     a push onto weak, one onto grayagain; grayagain emptied
use Rattle.std.specs.Prelude.{◌≡◌, refl, true, List, ◌≢◌, ℕ, zero, suc, ◌+◌, ◌≤◌, ◌<◌, eqb, length}
use Rattle.std.proofs.Common.{ap, subst, ◌∙◌, inl, arith, length-set, ne_eqb}
use Rattle.value.specs.declared.TableRef.{TableRef}
use Rattle.value.specs.declared.FuncRef.{FuncRef}
use Rattle.value.specs.declared.ThreadRef.{ThreadRef}
use Rattle.layout.specs.declared.Lay.{Lay}
use Rattle.lists.specs.declared.Item.{Item}
use Rattle.lists.specs.Lists.{damage, kind_of, length_of, push, cleared}
use Rattle.lists.proofs.Laws.{push_long, push_length, push_unmarked, cleared_length, cleared_kept}
use Rattle.laid.specs.Laid.{Laid}
use Rattle.mark.specs.Ops.{Ref, ref, tab, fun, thread, gray, grayagain, weak, is_white}
use Rattle.mark.specs.Words.{arena_of, colour_w, paint_w}
use Rattle.mark_laws.specs.Apart.{Apart, Order, order}
use Rattle.mark_laws.specs.Colours.{white_true}
use Rattle.mark_laws.specs.Moves.{still, emptied}
use Rattle.mark_laws.specs.Changes.{moves_marked, work_room}
use Rattle.mark_laws.specs.Marks.{marks}
use Rattle.mark_laws.specs.Whites.{Listed}
use Rattle.mark_laws.specs.Items.{one, items_to, push_counts}
use Rattle.room_laws.specs.Pends.{Direct, item_for, marks_keep}
use Rattle.room_laws.specs.Counts.{is_gray, is_dark, dark_marked, dark_not, count_most, count_same}
use Rattle.room_laws.specs.Tallies.{Tally, tally, dark_in, Paid, Ample, paid_less}
use Rattle.room_laws.specs.Frames.{Quiet, quiet_paid, list_same, other_same, colours_same, mark_apart, push_only, cleared_only}
use Rattle.room_laws.specs.Paints.{count_in, direct_listed, paint_there, paint_up, paint_more, paint_down, paint_list, paint_mark, paint_quiet}
use Rattle.room_laws.specs.Payments.{Whole, Painted, Grown}

-- what leaves all that a tally is read from keeps that
pub quiet_whole : {l : Lay} {p t q : ℕ} {w u v : List ℕ} → Quiet l u v → Whole l p t q w u → Whole l p t q w v
quiet_whole s h = record { long = s.long ∙ h.long; mark = s.mark ∙ h.mark; paid = quiet_paid s h.paid }

le_of : {x y : ℕ} → x ≡ y → x ≤ y
le_of e = omega (arith, e)

ge_of : {x y : ℕ} → x ≡ y → y ≤ x
ge_of e = omega (arith, e)

-- Sums over any tallies: x before, y after the painting, z after the push.
module _ (x y z : Tally) {p t q : ℕ} (h : Paid x p t q) (s : Painted x y) where
  table_sums : x.dark_tables + 1 ≤ y.dark_tables → x.gray_tables + 1 ≤ y.gray_tables → Grown 5 y z → Paid z p t q
  table_sums d g n = record {
    gray = omega (arith, h.gray, s, d, n);
    weak = omega (arith, h.weak, s, d, n);
    tables = omega (arith, h.tables, s, g, n);
    again = omega (arith, h.again, s, g, n);
  }

  closure_sums : x.dark_closures + 1 ≤ y.dark_closures → x.gray_tables ≤ y.gray_tables → Grown 6 y z → Paid z p t q
  closure_sums d g n = record {
    gray = omega (arith, h.gray, s, d, n);
    weak = omega (arith, h.weak, s, n);
    tables = omega (arith, h.tables, s, g, n);
    again = omega (arith, h.again, s, g, n);
  }

  thread_sums : x.dark_threads + 1 ≤ y.dark_threads → x.gray_tables ≤ y.gray_tables → Grown 8 y z → Paid z p t q
  thread_sums d g n = record {
    gray = omega (arith, h.gray, s, d, n);
    weak = omega (arith, h.weak, s, n);
    tables = omega (arith, h.tables, s, g, n);
    again = omega (arith, h.again, s, d, g, n);
  }

black_sums : (x y : Tally) (p t q : ℕ) → Paid x p t q → Painted x y → x.gray_tables ≤ y.gray_tables → Paid y p t q
black_sums x y p t q h s g = record { gray = omega (arith, h.gray, s); weak = omega (arith, h.weak, s); tables = omega (arith, h.tables, s, g); again = omega (arith, h.again, s, g) }

taken_sums : (x y : Tally) (p t q : ℕ) → Paid x p (t + 1) q → Painted x y → x.gray_tables ≤ y.gray_tables + 1 → Paid y p t q
taken_sums x y p t q h s g = record { gray = omega (arith, h.gray, s); weak = omega (arith, h.weak, s); tables = omega (arith, h.tables, s, g); again = omega (arith, h.again, s, g) }

module _ (l : Lay) (ok : Laid l) (a : Apart l) (am : Ample l) where
  abbrev o : Order l
  o = order l ok a

  -- a slot that a handle names is painted gray or black
  pub painted : (r : Ref) (c : ℕ) (u : List ℕ) → l.words ≤ length u → 1 ≤ colour_w l r u → 3 ≤ c → c ≤ 4 → Painted (tally l u) (tally l (paint_w l r c u))
  painted r c u long h f g =
      let v = paint_w l r c u in
      let x = list_same l.gray u v (paint_list l ok a r c u long h gray) in
      let y = list_same l.weak u v (paint_list l ok a r c u long h weak) in
      let z = list_same l.grayagain u v (paint_list l ok a r c u long h grayagain) in
      let up = paint_up l ok a r c u long h is_dark (dark_marked c f g) in
      record {
        gray = x.0;
        weak = y.0;
        again = z.0;
        tables = x.1 5;
        threads = x.1 8;
        mains = x.1 9;
        later = z.1 5;
        dark_tables = up 1;
        dark_closures = up 2;
        dark_threads = up 5;
      }

  -- an item is pushed onto gray
  pub grown : (x : Item) (u : List ℕ) → l.words ≤ length u → length_of l.gray u < l.gray.room → Grown (kind_of x) (tally l u) (tally l (push l.gray x u))
  grown x u long room =
      let v = push l.gray x u in
      let s = push_only l ok a gray x u long in
      let y = other_same l ok a gray weak tt u v s in
      let z = other_same l ok a gray grayagain tt u v s in
      record {
        gray = le_of (push_length l.gray x u (work_room l ok a gray u long) room);
        weak = y.0;
        again = z.0;
        tables = push_counts l.gray 5 u (work_room l ok a gray u long) x (mark_apart l ok a gray);
        threads = push_counts l.gray 8 u (work_room l ok a gray u long) x (mark_apart l ok a gray);
        mains = push_counts l.gray 9 u (work_room l ok a gray u long) x (mark_apart l ok a gray);
        later = z.1 5;
        dark_tables = count_same is_dark l.tables.base l.tables.slots u v (colours_same l ok a gray u v s 1);
        dark_closures = count_same is_dark l.functions.base l.functions.slots u v (colours_same l ok a gray u v s 2);
        dark_threads = count_same is_dark l.threads.base l.threads.slots u v (colours_same l ok a gray u v s 5);
        gray_tables = count_same is_gray l.tables.base l.tables.slots u v (colours_same l ok a gray u v s 1);
      }

  -- an item is pushed onto weak
  weaker : (x : Item) (u : List ℕ) (p t q : ℕ) → l.words ≤ length u → length_of l.weak u < l.weak.room → Paid (tally l u) (p + 1) t q → Paid (tally l (push l.weak x u)) p t q
  weaker x u p t q long room h =
      let v = push l.weak x u in
      let s = push_only l ok a weak x u long in
      let y = other_same l ok a weak gray tt u v s in
      let z = other_same l ok a weak grayagain tt u v s in
      sums (tally l u) (tally l v) h
      y.0 (push_length l.weak x u (work_room l ok a weak u long) room) z.0 (y.1 5) (y.1 8) (y.1 9) (z.1 5)
      (count_same is_dark l.tables.base l.tables.slots u v (colours_same l ok a weak u v s 1))
      (count_same is_dark l.functions.base l.functions.slots u v (colours_same l ok a weak u v s 2))
      (count_same is_dark l.threads.base l.threads.slots u v (colours_same l ok a weak u v s 5))
      (count_same is_gray l.tables.base l.tables.slots u v (colours_same l ok a weak u v s 1))
    where
      sums : (x y : Tally) → Paid x (p + 1) t q → y.gray ≡ x.gray → y.weak ≡ x.weak + 1 → y.again ≡ x.again → y.tables ≡ x.tables → y.threads ≡ x.threads → y.mains ≡ x.mains → y.later ≡ x.later
          → y.dark_tables ≡ x.dark_tables → y.dark_closures ≡ x.dark_closures → y.dark_threads ≡ x.dark_threads → y.gray_tables ≡ x.gray_tables → Paid y p t q
      sums x y h a b c d e f g i j k m = record { gray = omega (arith, h.gray, a, i, j, k); weak = omega (arith, h.weak, b, d, i); tables = omega (arith, h.tables, d, g, m); again = omega (arith, h.again, c, d, e, f, k, m) }

  -- an item that is no table is pushed onto grayagain
  latter : (x : Item) (u : List ℕ) (p t q : ℕ) → l.words ≤ length u → length_of l.grayagain u < l.grayagain.room → kind_of x ≢ 5 → Paid (tally l u) p t (q + 1) → Paid (tally l (push l.grayagain x u)) p t q
  latter x u p t q long room n h =
      let v = push l.grayagain x u in
      let s = push_only l ok a grayagain x u long in
      let y = other_same l ok a grayagain gray tt u v s in
      let z = other_same l ok a grayagain weak tt u v s in
      sums (tally l u) (tally l v) (one (eqb (kind_of x) 5)) h
      y.0 z.0 (push_length l.grayagain x u (work_room l ok a grayagain u long) room) (y.1 5) (y.1 8) (y.1 9)
      (push_counts l.grayagain 5 u (work_room l ok a grayagain u long) x (mark_apart l ok a grayagain)) (ap one (ne_eqb (kind_of x) 5 n))
      (count_same is_dark l.tables.base l.tables.slots u v (colours_same l ok a grayagain u v s 1))
      (count_same is_dark l.functions.base l.functions.slots u v (colours_same l ok a grayagain u v s 2))
      (count_same is_dark l.threads.base l.threads.slots u v (colours_same l ok a grayagain u v s 5))
      (count_same is_gray l.tables.base l.tables.slots u v (colours_same l ok a grayagain u v s 1))
    where
      sums : (x y : Tally) (n : ℕ) → Paid x p t (q + 1) → y.gray ≡ x.gray → y.weak ≡ x.weak → y.again ≡ x.again + 1 → y.tables ≡ x.tables → y.threads ≡ x.threads → y.mains ≡ x.mains → y.later ≤ x.later + n → n ≡ 0
          → y.dark_tables ≡ x.dark_tables → y.dark_closures ≡ x.dark_closures → y.dark_threads ≡ x.dark_threads → y.gray_tables ≡ x.gray_tables → Paid y p t q
      sums x y n h a b c d e f g z i j k m = record { gray = omega (arith, h.gray, a, i, j, k); weak = omega (arith, h.weak, b, d, i); tables = omega (arith, h.tables, d, g, z, m); again = omega (arith, h.again, c, d, e, f, k, m) }

  module _ (w : List ℕ) (long : l.words ≤ length w) where
    -- the words are as long
    pub whole_long : {p t q : ℕ} {u : List ℕ} → Whole l p t q w u → l.words ≤ length u
    whole_long h = omega (arith, h.long)

    -- A white slot of a kind that is followed at once is painted black.
    pub black_whole : {p t q : ℕ} (r : Ref) (u : List ℕ) → is_white (colour_w l r u) ≡ true → Direct r.kind → Whole l p t q w u → Whole l p t q w (paint_w l r 4 u)
    black_whole r u e d h = quiet_whole (paint_quiet l ok a r 4 u (whole_long h) (white_true (colour_w l r u) e).0 (direct_listed r.kind d)) h

    -- A white slot is painted gray, and an item is listed for it.
    module _ {p t q : ℕ} (k i g : ℕ) (u : List ℕ) (e : is_white (colour_w l (ref k i g) u) ≡ true) (h : Whole l p t q w u) where
      abbrev v : List ℕ
      v = paint_w l (ref k i g) 3 u

      longer : l.words ≤ length v
      longer = omega (arith, long, h.long, length-set u ((arena_of l k).base + i) 3)

      named : 1 ≤ colour_w l (ref k i g) u
      named = (white_true (colour_w l (ref k i g) u) e).0

      turned : Painted (tally l u) (tally l v)
      turned = painted (ref k i g) 3 u (whole_long h) named (omega arith) (omega arith)

      darker : dark_in l k u + 1 ≤ dark_in l k v
      darker =
          paint_more l ok a (ref k i g) 3 u (whole_long h) named is_dark (dark_marked 3 (omega arith) (omega arith))
          (dark_not (colour_w l (ref k i g) u) (λ z. omega (arith, z, (white_true (colour_w l (ref k i g) u) e).1)) (λ z. omega (arith, z, (white_true (colour_w l (ref k i g) u) e).1)))

      grayer : count_in l is_gray 1 u ≤ count_in l is_gray 1 v
      grayer = paint_up l ok a (ref k i g) 3 u (whole_long h) named is_gray refl 1

      more_gray : count_in l is_gray k u + 1 ≤ count_in l is_gray k v
      more_gray = paint_more l ok a (ref k i g) 3 u (whole_long h) named is_gray refl (ne_eqb (colour_w l (ref k i g) u) 3 (λ z. omega (arith, z, (white_true (colour_w l (ref k i g) u) e).1)))

      -- where one of the three numbers of dark slots is more, there is room
      roomy : dark_in l 1 u + dark_in l 2 u + dark_in l 5 u + 1 ≤ dark_in l 1 v + dark_in l 2 v + dark_in l 5 v → length_of l.gray v < l.gray.room
      roomy n =
          sums (tally l u) (tally l v) h.paid turned n (count_most is_dark l.tables.base l.tables.slots v) (count_most is_dark l.functions.base l.functions.slots v)
          (count_most is_dark l.threads.base l.threads.slots v) am.gray
        where
          sums : (x y : Tally) {p t q b c d r : ℕ} → Paid x p t q → Painted x y → x.dark_tables + x.dark_closures + x.dark_threads + 1 ≤ y.dark_tables + y.dark_closures + y.dark_threads
              → y.dark_tables ≤ b → y.dark_closures ≤ c → y.dark_threads ≤ d → b + c + d + 1 ≤ r → y.gray < r
          sums x y h s n f g i j = omega (arith, h.gray, s.gray, n, f, g, i, j)

      fits : Listed k → length_of l.gray v < l.gray.room
      fits s = roomy (go k refl s)
        where
          at_tables : (x y : Tally) → Painted x y → x.dark_tables + 1 ≤ y.dark_tables → x.dark_tables + x.dark_closures + x.dark_threads + 1 ≤ y.dark_tables + y.dark_closures + y.dark_threads
          at_tables x y s d = omega (arith, s, d)

          at_closures : (x y : Tally) → Painted x y → x.dark_closures + 1 ≤ y.dark_closures → x.dark_tables + x.dark_closures + x.dark_threads + 1 ≤ y.dark_tables + y.dark_closures + y.dark_threads
          at_closures x y s d = omega (arith, s, d)

          at_threads : (x y : Tally) → Painted x y → x.dark_threads + 1 ≤ y.dark_threads → x.dark_tables + x.dark_closures + x.dark_threads + 1 ≤ y.dark_tables + y.dark_closures + y.dark_threads
          at_threads x y s d = omega (arith, s, d)

          there : (d : ℕ) → k ≡ d → dark_in l d u + 1 ≤ dark_in l d v
          there d e = subst (λ j. dark_in l j u + 1 ≤ dark_in l j v) e darker

          go : (d : ℕ) → k ≡ d → Listed d → dark_in l 1 u + dark_in l 2 u + dark_in l 5 u + 1 ≤ dark_in l 1 v + dark_in l 2 v + dark_in l 5 v
          go (suc zero) e s = at_tables (tally l u) (tally l v) turned (there 1 e)
          go (suc (suc zero)) e s = at_closures (tally l u) (tally l v) turned (there 2 e)
          go (suc (suc (suc (suc (suc zero))))) e s = at_threads (tally l u) (tally l v) turned (there 5 e)
          go zero e s = absurd s
          go (suc (suc (suc zero))) e s = absurd s
          go (suc (suc (suc (suc zero)))) e s = absurd s
          go (suc (suc (suc (suc (suc (suc d)))))) e s = absurd s

      listed : (x : Item) → length_of l.gray v < l.gray.room → Paid (tally l (push l.gray x v)) p t q → Whole l p t q w (push l.gray x v)
      listed x room c = record {
        long = push_long l.gray x v (work_room l ok a gray v longer) ∙ length-set u ((arena_of l k).base + i) 3 ∙ h.long;
        mark = push_unmarked l.gray x v (work_room l ok a gray v longer) (mark_apart l ok a gray) room
            ∙ paint_mark l ok a (ref k i g) 3 u (whole_long h) named ∙ h.mark;
        paid = c;
      }

    -- A white table, closure or thread is painted gray, and listed.
    table_gray : {p t q : ℕ} (i g : ℕ) (u : List ℕ) → is_white (colour_w l (ref 1 i g) u) ≡ true → Whole l p t q w u → Whole l p t q w (push l.gray (item_for (ref 1 i g)) (paint_w l (ref 1 i g) 3 u))
    table_gray i g u e h =
        let s = turned 1 i g u e h in
        let d = darker 1 i g u e h in
        let r = fits 1 i g u e h tt in
        listed 1 i g u e h (item_for (ref 1 i g)) r
        (table_sums (tally l u) (tally l (paint_w l (ref 1 i g) 3 u)) (tally l (push l.gray (item_for (ref 1 i g)) (paint_w l (ref 1 i g) 3 u))) h.paid s d (more_gray 1 i g u e h)
        (grown (item_for (ref 1 i g)) (paint_w l (ref 1 i g) 3 u) (longer 1 i g u e h) r))

    closure_gray : {p t q : ℕ} (i g : ℕ) (u : List ℕ) → is_white (colour_w l (ref 2 i g) u) ≡ true → Whole l p t q w u → Whole l p t q w (push l.gray (item_for (ref 2 i g)) (paint_w l (ref 2 i g) 3 u))
    closure_gray i g u e h =
        let s = turned 2 i g u e h in
        let d = darker 2 i g u e h in
        let r = fits 2 i g u e h tt in
        listed 2 i g u e h (item_for (ref 2 i g)) r
        (closure_sums (tally l u) (tally l (paint_w l (ref 2 i g) 3 u)) (tally l (push l.gray (item_for (ref 2 i g)) (paint_w l (ref 2 i g) 3 u))) h.paid s d (grayer 2 i g u e h)
        (grown (item_for (ref 2 i g)) (paint_w l (ref 2 i g) 3 u) (longer 2 i g u e h) r))

    thread_gray : {p t q : ℕ} (i g : ℕ) (u : List ℕ) → is_white (colour_w l (ref 5 i g) u) ≡ true → Whole l p t q w u → Whole l p t q w (push l.gray (item_for (ref 5 i g)) (paint_w l (ref 5 i g) 3 u))
    thread_gray i g u e h =
        let s = turned 5 i g u e h in
        let d = darker 5 i g u e h in
        let r = fits 5 i g u e h tt in
        listed 5 i g u e h (item_for (ref 5 i g)) r
        (thread_sums (tally l u) (tally l (paint_w l (ref 5 i g) 3 u)) (tally l (push l.gray (item_for (ref 5 i g)) (paint_w l (ref 5 i g) 3 u))) h.paid s d (grayer 5 i g u e h)
        (grown (item_for (ref 5 i g)) (paint_w l (ref 5 i g) 3 u) (longer 5 i g u e h) r))

    -- There is room for the item,
    pub gray_fits : {p t q : ℕ} (r : Ref) (u : List ℕ) → is_white (colour_w l r u) ≡ true → Listed r.kind → Whole l p t q w u → length_of l.gray (paint_w l r 3 u) < l.gray.room
    gray_fits r u e d h = fits r.kind r.at r.gen u e h d

    -- and the lists are paid for as before.
    pub gray_whole : {p t q : ℕ} (r : Ref) (u : List ℕ) → is_white (colour_w l r u) ≡ true → Listed r.kind → Whole l p t q w u → Whole l p t q w (push l.gray (item_for r) (paint_w l r 3 u))
    gray_whole {p} {t} {q} r u e d h = go r.kind e d
      where
        go : (k : ℕ) → is_white (colour_w l (ref k r.at r.gen) u) ≡ true → Listed k → Whole l p t q w (push l.gray (item_for (ref k r.at r.gen)) (paint_w l (ref k r.at r.gen) 3 u))
        go (suc zero) e d = table_gray r.at r.gen u e h
        go (suc (suc zero)) e d = closure_gray r.at r.gen u e h
        go (suc (suc (suc (suc (suc zero))))) e d = thread_gray r.at r.gen u e h
        go zero e d = absurd d
        go (suc (suc (suc zero))) e d = absurd d
        go (suc (suc (suc (suc zero)))) e d = absurd d
        go (suc (suc (suc (suc (suc (suc k)))))) e d = absurd d

    -- Marking any list of links keeps the lists paid for, and leaves the damage mark.
    pub marks_whole : {p t q : ℕ} (rs : List Ref) {u : List ℕ} → Whole l p t q w u → Whole l p t q w (marks l rs u)
    marks_whole {p} {t} {q} rs {u} h =
        marks_keep l ok a (λ v. Whole l p t q w v) (λ r v n e d c. black_whole r v e d c) (λ r v n e d c. gray_whole r v e d c) rs u (whole_long h) h

    -- A table that is traversed is painted black, which takes a gray table that is not used.
    pub table_black : {p t q : ℕ} (r : TableRef) {u : List ℕ} → 1 ≤ colour_w l (tab r) u → Whole l p (t + 1) q w u → Whole l p t q w (paint_w l (tab r) 4 u)
    table_black {p} {t} {q} r {u} n h = record {
      long = length-set u (l.tables.base + r.0) 4 ∙ h.long;
      mark = paint_mark l ok a (tab r) 4 u (whole_long h) n ∙ h.mark;
      paid = taken_sums (tally l u) (tally l (paint_w l (tab r) 4 u)) p t q h.paid (painted (tab r) 4 u (whole_long h) n (omega arith) (omega arith)) (paint_down l ok a (tab r) 4 u (whole_long h) n is_gray 1);
    }

    -- So is a closure, and a thread.
    pub closure_black : {p t q : ℕ} (r : FuncRef) {u : List ℕ} → 1 ≤ colour_w l (fun r) u → Whole l p t q w u → Whole l p t q w (paint_w l (fun r) 4 u)
    closure_black {p} {t} {q} r {u} n h = record {
      long = length-set u (l.functions.base + r.0) 4 ∙ h.long;
      mark = paint_mark l ok a (fun r) 4 u (whole_long h) n ∙ h.mark;
      paid = black_sums (tally l u) (tally l (paint_w l (fun r) 4 u)) p t q h.paid (painted (fun r) 4 u (whole_long h) n (omega arith) (omega arith))
          (ge_of (paint_there l ok a (fun r) 4 u (whole_long h) n is_gray 1 (λ e. omega (arith, e))));
    }

    pub thread_black : {p t q : ℕ} (r : ThreadRef) {u : List ℕ} → 1 ≤ colour_w l (thread r) u → Whole l p t q w u → Whole l p t q w (paint_w l (thread r) 4 u)
    thread_black {p} {t} {q} r {u} n h = record {
      long = length-set u (l.threads.base + r.0) 4 ∙ h.long;
      mark = paint_mark l ok a (thread r) 4 u (whole_long h) n ∙ h.mark;
      paid = black_sums (tally l u) (tally l (paint_w l (thread r) 4 u)) p t q h.paid (painted (thread r) 4 u (whole_long h) n (omega arith) (omega arith))
          (ge_of (paint_there l ok a (thread r) 4 u (whole_long h) n is_gray 1 (λ e. omega (arith, e))));
    }

    -- A push onto weak takes a place that is paid for: there is room,
    pub weak_fits : (p t q : ℕ) (u : List ℕ) → Whole l (p + 1) t q w u → length_of l.weak u < l.weak.room
    weak_fits p t q u h = sums (tally l u) h.paid (count_most is_dark l.tables.base l.tables.slots u) (omega (arith, am.weak))
      where
        sums : (x : Tally) {n r : ℕ} → Paid x (p + 1) t q → x.dark_tables ≤ n → n ≤ r → x.weak < r
        sums x h f g = omega (arith, h.weak, f, g)

    -- and the rest is paid for.
    pub weak_whole : {p t q : ℕ} (x : Item) {u : List ℕ} → Whole l (p + 1) t q w u → Whole l p t q w (push l.weak x u)
    weak_whole {p} {t} {q} x {u} h = record {
      long = push_long l.weak x u (work_room l ok a weak u (whole_long h)) ∙ h.long;
      mark = push_unmarked l.weak x u (work_room l ok a weak u (whole_long h)) (mark_apart l ok a weak) (weak_fits p t q u h) ∙ h.mark;
      paid = weaker x u p t q (whole_long h) (weak_fits p t q u h) h.paid;
    }

    -- So does one onto grayagain, of a thread or the main thread.
    pub again_fits : (p t q : ℕ) (u : List ℕ) → Whole l p t (q + 1) w u → length_of l.grayagain u < l.grayagain.room
    again_fits p t q u h = sums (tally l u) h.paid (count_most is_gray l.tables.base l.tables.slots u) (count_most is_dark l.threads.base l.threads.slots u) am.again
      where
        sums : (x : Tally) {m n r : ℕ} → Paid x p t (q + 1) → x.gray_tables ≤ m → x.dark_threads ≤ n → m + n + 1 ≤ r → x.again < r
        sums x h f g i = omega (arith, h.again, f, g, i)

    pub again_whole : {p t q : ℕ} (x : Item) {u : List ℕ} → kind_of x ≢ 5 → Whole l p t (q + 1) w u → Whole l p t q w (push l.grayagain x u)
    again_whole {p} {t} {q} x {u} n h = record {
      long = push_long l.grayagain x u (work_room l ok a grayagain u (whole_long h)) ∙ h.long;
      mark = push_unmarked l.grayagain x u (work_room l ok a grayagain u (whole_long h)) (mark_apart l ok a grayagain) (again_fits p t q u h) ∙ h.mark;
      paid = latter x u p t q (whole_long h) (again_fits p t q u h) n h.paid;
    }

    -- Emptying grayagain leaves the other lists paid for.
    pub cleared_whole : {p t q : ℕ} {u : List ℕ} → Whole l p t q w u → Whole l p t q w (cleared l.grayagain u)
    unfolding items_to
    cleared_whole {p} {t} {q} {u} h =
        let v = cleared l.grayagain u in
        let s = cleared_only l ok a grayagain u (whole_long h) in
        let y = other_same l ok a grayagain gray tt u v s in
        let z = other_same l ok a grayagain weak tt u v s in
        let n = cleared_length l.grayagain u (work_room l ok a grayagain u (whole_long h)) in
        record {
          long = (moves_marked l ok a (emptied (still refl) grayagain refl) (whole_long h)).long ∙ h.long;
          mark = cleared_kept l.grayagain u (work_room l ok a grayagain u (whole_long h)) damage (λ e. omega (arith, e, o.grayagain)) (inl (omega (arith, o.header, a))) ∙ h.mark;
          paid = paid_less (tally l u) (tally l v) h.paid (le_of y.0) (le_of z.0) (none n) (le_of (y.1 5)) (le_of (y.1 8)) (le_of (y.1 9))
              (none (ap (λ (k : ℕ). items_to l.grayagain 5 k v) n))
              (ge_of (count_same is_dark l.tables.base l.tables.slots u v (colours_same l ok a grayagain u v s 1)))
              (ge_of (count_same is_dark l.functions.base l.functions.slots u v (colours_same l ok a grayagain u v s 2)))
              (ge_of (count_same is_dark l.threads.base l.threads.slots u v (colours_same l ok a grayagain u v s 5)))
              (ge_of (count_same is_gray l.tables.base l.tables.slots u v (colours_same l ok a grayagain u v s 1)));
        }
      where
        none : {x y : ℕ} → x ≡ 0 → x ≤ y
        none e = omega (arith, e)
