-- A step of propagation keeps the lists paid for, and leaves the damage mark. Assumes nothing.
--     whole_less              what is paid for and not used may be forgotten
--     pop_whole               an item taken off gray leaves what it was paid with
--     table_whole, closure_whole, thread_whole      the traversals
--     item_whole, one_whole     an item; one step: a main thread that was taken off gray waits for its traversal
--     main_whole              the main thread's traversal
use Rattle.std.specs.Prelude.{◌≡◌, refl, Bool, cond, ◌≢◌, eqb, length, Option}
use Rattle.std.proofs.Common.{sym, ap, subst, ◌∙◌, inl, arith, eqb-true, eq-eqb}
use Rattle.std.proofs.Math.Bool.{true, false}
use mathlib.Core.List.{List}
use Prim.Native.Nat.{ℕ, ◌+◌, ◌-◌, ◌≤◌, ◌<◌}
use Rattle.std.proofs.Math.Decide.{ℕ_discrete}
use Rattle.base.specs.Words.{at}
use Rattle.value.specs.declared.TableRef.{TableRef}
use Rattle.value.specs.declared.FuncRef.{FuncRef}
use Rattle.value.specs.declared.ThreadRef.{ThreadRef}
use Rattle.layout.specs.declared.Lay.{Lay}
use Rattle.lists.specs.declared.Item.{Item}
use Rattle.lists.specs.declared.Item.TheVariants.{Table, Function, Userdata, Thread, Main, Unknown}
use Rattle.lists.specs.Lists.{damage, kind_of, item_in, length_of, place, item_at, push, pop, taken}
use Rattle.lists.proofs.Laws.{item_found, pop_some, pop_length, pop_long, pop_kept}
use Rattle.record.specs.Fields.{body_at}
use Rattle.record.specs.Tables.{table_meta}
use Rattle.laid.specs.Laid.{Laid, gray_room_lem}
use Rattle.mark.specs.Ops.{tab, fun, thread, gray, grayagain, weak}
use Rattle.mark.specs.Words.{colour_w, ops}
use Rattle.modes.specs.declared.Mode.{Mode}
use Rattle.modes.specs.Modes.{is_weak, weak_mode}
use Rattle.table_walk.specs.Tables.{table_cost, list_weak, traverse_table_at, traverse_table}
use Rattle.run_walk.specs.Closures.{closure_cost, traverse_closure_at, traverse_closure}
use Rattle.run_walk.specs.Threads.{thread_cost, traverse_thread_at, traverse_thread}
use Rattle.run_walk.specs.MainThread.{traverse_main_thread}
use Rattle.propagate.specs.declared.Propagated.{Propagated}
use Rattle.propagate.specs.Propagation.{propagate_item, propagate_one}
use Rattle.links.specs.Links.{table_link, entry_links, closure_links, thread_links, main_links}
use Rattle.mark_laws.specs.Apart.{Apart, Order, order}
use Rattle.mark_laws.specs.Changes.{marked_none}
use Rattle.mark_laws.specs.TableLinks.{table_links_lem}
use Rattle.mark_laws.specs.RunLinks.{closure_links_lem, thread_links_lem}
use Rattle.mark_laws.specs.MainLinks.{main_traversed}
use Rattle.mark_laws.specs.Propagates.{choice}
use Rattle.mark_laws.specs.Items.{one, items_of, pop_counts, item_kind_lem}
use Rattle.mark_laws.specs.Ends.{one_empty, one_some}
use Rattle.room_laws.specs.Counts.{is_gray, is_dark, count_same}
use Rattle.room_laws.specs.Tallies.{Tally, tally, Paid, Ample}
use Rattle.room_laws.specs.Frames.{OnlyList, other_same, colours_same, pop_only}
use Rattle.room_laws.specs.Payments.{Whole}
use Rattle.room_laws.proofs.Payments.{whole_long, marks_whole, table_black, closure_black, thread_black, weak_whole, again_whole}
use Rattle.room_laws.specs.Steps.{mains_due}

-- What is paid for and not used may be forgotten.
pub whole_less : {l : Lay} {p t q : ℕ} {w u : List ℕ} → Whole l p t q w u → (p' t' q' : ℕ) → p' ≤ p → t' ≤ t → q' ≤ q → Whole l p' t' q' w u
whole_less {l} {p} {t} {q} {w} {u} h p' t' q' f g i = record { long = h.long; mark = h.mark; paid = sums (tally l u) h.paid }
  where
    sums : (x : Tally) → Paid x p t q → Paid x p' t' q'
    sums x h = record { gray = h.gray; weak = omega (arith, h.weak, f); tables = omega (arith, h.tables, g); again = omega (arith, h.again, g, i) }

-- The kind of an item is the word that it is read from.
pub kind_read : (u : List ℕ) (q c : ℕ) → 1 ≤ c → one (eqb (kind_of (item_in u q)) c) ≤ one (eqb (at u q) c)
kind_read u q c h = go (eqb (kind_of (item_in u q)) c) refl
  where
    go : (b : Bool) → eqb (kind_of (item_in u q)) c ≡ b → one b ≤ one (eqb (at u q) c)
    go false e = omega arith
    go true e = same (one (eqb (at u q) c)) (ap one (eq-eqb (at u q) c (item_kind_lem (at u q) (at u (q + 1)) (at u (q + 2)) c (eqb-true (kind_of (item_in u q)) c e) h)))
      where
        same : (x : ℕ) → x ≡ 1 → 1 ≤ x
        same x e = omega (arith, e)

module _ (l : Lay) (ok : Laid l) (a : Apart l) (am : Ample l) (w : List ℕ) (long : l.words ≤ length w) where
  abbrev o : Order l
  o = order l ok a

  -- An item taken off gray leaves what it was paid with: a table a place of weak and a gray table, a thread and the main
  -- thread a place of grayagain.
  module _ {p t q : ℕ} {u : List ℕ} (h : Whole l p t q w u) (d : length_of l.gray u ≢ 0) where
    abbrev last : Item
    last = item_at l.gray (length_of l.gray u - 1) u

    abbrev rest : List ℕ
    rest = taken l.gray (length_of l.gray u - 1) u

    u_long : l.words ≤ length u
    u_long = whole_long l ok a am w long h

    rest_is : (pop l.gray u).1 ≡ rest
    rest_is = ap (λ (x : Option Item × List ℕ). x.1) (pop_some l.gray u d)

    rest_only : OnlyList l gray u rest
    rest_only = subst (λ x. OnlyList l gray u x) rest_is (pop_only l ok a gray u u_long)

    fewer : (c : ℕ) → 1 ≤ c → items_of l.gray c rest + one (eqb (kind_of last) c) ≤ items_of l.gray c u
    fewer c g =
        sums (items_of l.gray c rest) (items_of l.gray c u) (one (eqb (kind_of last) c)) (one (eqb (at u (place l.gray (length_of l.gray u - 1))) c))
        (pop_counts l.gray c u (gray_room_lem l u ok u_long) d)
        (subst (λ x. one (eqb (kind_of x) c) ≤ one (eqb (at u (place l.gray (length_of l.gray u - 1))) c)) (sym (item_found l.gray (length_of l.gray u - 1) u (below (length_of l.gray u) d)))
        (kind_read u (place l.gray (length_of l.gray u - 1)) c g))
      where
        below : (x : ℕ) → x ≢ 0 → x - 1 < x
        below x n = omega (arith, n)

        sums : (x y s t : ℕ) → x + t ≡ y → s ≤ t → x + s ≤ y
        sums x y s t e f = omega (arith, e, f)

    pub pop_whole : Whole l (p + one (eqb (kind_of last) 5)) (t + one (eqb (kind_of last) 5)) (q + (one (eqb (kind_of last) 8) + one (eqb (kind_of last) 9))) w rest
    pop_whole = record {
      long = ap length (sym rest_is) ∙ pop_long l.gray u (gray_room_lem l u ok u_long) ∙ h.long;
      mark = ap (λ (x : List ℕ). at x damage) (sym rest_is) ∙ pop_kept l.gray u (gray_room_lem l u ok u_long) damage (λ e. omega (arith, e, o.gray)) (inl (omega (arith, o.header, a))) ∙ h.mark;
      paid = sums (tally l u) (tally l rest) (one (eqb (kind_of last) 5)) (one (eqb (kind_of last) 8)) (one (eqb (kind_of last) 9)) h.paid
          (shorter (length_of l.gray rest) (length_of l.gray u) (ap (λ (x : List ℕ). length_of l.gray x) (sym rest_is) ∙ pop_length l.gray u (gray_room_lem l u ok u_long)))
          (other_same l ok a gray weak tt u rest rest_only).0 (other_same l ok a gray grayagain tt u rest rest_only).0
          (fewer 5 (omega arith)) (fewer 8 (omega arith)) (fewer 9 (omega arith)) ((other_same l ok a gray grayagain tt u rest rest_only).1 5)
          (count_same is_dark l.tables.base l.tables.slots u rest (colours_same l ok a gray u rest rest_only 1))
          (count_same is_dark l.functions.base l.functions.slots u rest (colours_same l ok a gray u rest rest_only 2))
          (count_same is_dark l.threads.base l.threads.slots u rest (colours_same l ok a gray u rest rest_only 5))
          (count_same is_gray l.tables.base l.tables.slots u rest (colours_same l ok a gray u rest rest_only 1));
    }
      where
        shorter : (x y : ℕ) → x ≡ y - 1 → x ≤ y
        shorter x y e = omega (arith, e)

        sums : (x y : Tally) (n m k : ℕ) → Paid x p t q → y.gray ≤ x.gray → y.weak ≡ x.weak → y.again ≡ x.again → y.tables + n ≤ x.tables → y.threads + m ≤ x.threads → y.mains + k ≤ x.mains → y.later ≡ x.later
            → y.dark_tables ≡ x.dark_tables → y.dark_closures ≡ x.dark_closures → y.dark_threads ≡ x.dark_threads → y.gray_tables ≡ x.gray_tables → Paid y (p + n) (t + n) (q + (m + k))
        sums x y n m k h a b c d e f g i j s r =
            record { gray = omega (arith, h.gray, a, i, j, s); weak = omega (arith, h.weak, b, d, i); tables = omega (arith, h.tables, d, g, r); again = omega (arith, h.again, c, d, e, f, s, r) }

  -- The traversals.
  list_weak_whole : {p t q : ℕ} (m : Mode) (r : TableRef) {u : List ℕ} → Whole l (p + 1) t q w u → Whole l p t q w (list_weak (ops l) m r u)
  unfolding list_weak
  list_weak_whole {p} {t} {q} m r {u} h = go (is_weak m)
    where
      go : (c : Bool) → Whole l p t q w (cond c (push l.weak (Table r) u) u)
      go true = weak_whole l ok a am w long (Table r) h
      go false = whole_less h p t q (omega arith) (omega arith) (omega arith)

  -- A table, which may be listed weak, and is no more gray.
  pub table_whole : {p t q : ℕ} (b : List ℕ) (r : TableRef) {u : List ℕ} → 1 ≤ colour_w l (tab r) u → Whole l (p + 1) (t + 1) q w u → Whole l p t q w (traverse_table_at (ops l) l b r u)
  table_whole {p} {t} {q} b r {u} n h =
      let m = weak_mode l (table_meta (body_at l.tables r.0) u) u b in
      subst (λ x. Whole l p t q w x) (sym (table_links_lem l ok a u (whole_long l ok a am w long h) b r u marked_none n))
      (marks_whole l ok a am w long (entry_links u m (body_at l.tables r.0))
      (list_weak_whole m r
      (marks_whole l ok a am w long (table_link (table_meta (body_at l.tables r.0) u))
      (table_black l ok a am w long r n h))))

  -- A closure.
  pub closure_whole : {p t q : ℕ} (r : FuncRef) {u : List ℕ} → 1 ≤ colour_w l (fun r) u → Whole l p t q w u → Whole l p t q w (traverse_closure_at (ops l) l r u)
  closure_whole {p} {t} {q} r {u} n h =
      subst (λ x. Whole l p t q w x) (sym (closure_links_lem l ok a u (whole_long l ok a am w long h) r u marked_none n))
      (marks_whole l ok a am w long (closure_links u l (body_at l.functions r.0)) (closure_black l ok a am w long r n h))

  -- A thread, which is listed again.
  pub thread_whole : {p t q : ℕ} (r : ThreadRef) {u : List ℕ} → 1 ≤ colour_w l (thread r) u → Whole l p t (q + 1) w u → Whole l p t q w (traverse_thread_at (ops l) l r u)
  thread_whole {p} {t} {q} r {u} n h =
      subst (λ x. Whole l p t q w x) (sym (thread_links_lem l ok a u (whole_long l ok a am w long h) r u marked_none n))
      (again_whole l ok a am w long (Thread r) (λ e. omega (arith, e))
      (marks_whole l ok a am w long (thread_links u (body_at l.threads r.0)) (thread_black l ok a am w long r n h)))

  -- The main thread, which is listed again.
  pub main_whole : {p t q : ℕ} {u : List ℕ} → Whole l p t (q + 1) w u → Whole l p t q w (traverse_main_thread (ops l) l u).1
  main_whole {p} {t} {q} {u} h =
      subst (λ x. Whole l p t q w x) (sym (ap (λ (x : ℕ × List ℕ). x.1) (main_traversed l ok a u (whole_long l ok a am w long h) u marked_none)))
      (again_whole l ok a am w long Main (λ e. omega (arith, e)) (marks_whole l ok a am w long (main_links u l) h))

  -- What is done with an item that was taken off gray.
  item_whole : {p t : ℕ} (q : ℕ) (b : List ℕ) (x : Item) {u : List ℕ} → Whole l (p + one (eqb (kind_of x) 5)) (t + one (eqb (kind_of x) 5)) (q + (one (eqb (kind_of x) 8) + one (eqb (kind_of x) 9))) w u
      → Whole l p t (q + mains_due (propagate_item (ops l) l b x u).0) w (propagate_item (ops l) l b x u).1
  unfolding propagate_item traverse_table traverse_closure traverse_thread
  item_whole {p} {t} q b (Table r) {u} h =
      choice (λ (x : ℕ × List ℕ). Whole l p t (q + 0) w x.1) (colour_w l (tab r) u) (64, u) (table_cost (body_at l.tables r.0) u, traverse_table_at (ops l) l b r u)
      (whole_less h p t (q + 0) (omega arith) (omega arith) (omega arith)) (λ n. table_whole b r n (whole_less h (p + 1) (t + 1) (q + 0) (omega arith) (omega arith) (omega arith)))
  item_whole {p} {t} q b (Function r) {u} h =
      choice (λ (x : ℕ × List ℕ). Whole l p t (q + 0) w x.1) (colour_w l (fun r) u) (48, u) (closure_cost (body_at l.functions r.0) u, traverse_closure_at (ops l) l r u)
      (whole_less h p t (q + 0) (omega arith) (omega arith) (omega arith)) (λ n. closure_whole r n (whole_less h p t (q + 0) (omega arith) (omega arith) (omega arith)))
  item_whole {p} {t} q b (Thread r) {u} h =
      choice (λ (x : ℕ × List ℕ). Whole l p t (q + 0) w x.1) (colour_w l (thread r) u) (256, u) (thread_cost (body_at l.threads r.0) u, traverse_thread_at (ops l) l r u)
      (whole_less h p t (q + 0) (omega arith) (omega arith) (omega arith)) (λ n. thread_whole r n (whole_less h p t (q + 0 + 1) (omega arith) (omega arith) (omega arith)))
  item_whole {p} {t} q b Main h = whole_less h p t (q + 1) (omega arith) (omega arith) (omega arith)
  item_whole {p} {t} q b (Userdata r) h = whole_less h p t (q + 0) (omega arith) (omega arith) (omega arith)
  item_whole {p} {t} q b Unknown h = whole_less h p t (q + 0) (omega arith) (omega arith) (omega arith)

  -- One step of propagation.
  pub one_whole : {p t q : ℕ} (b : List ℕ) {u : List ℕ} → Whole l p t q w u → Whole l p t (q + mains_due (propagate_one (ops l) l b u).0) w (propagate_one (ops l) l b u).1
  one_whole {p} {t} {q} b {u} h = go (ℕ_discrete (length_of l.gray u) 0)
    where
      go : Dec (length_of l.gray u ≡ 0) → Whole l p t (q + mains_due (propagate_one (ops l) l b u).0) w (propagate_one (ops l) l b u).1
      go (yes e) = subst (λ (x : Propagated × List ℕ). Whole l p t (q + mains_due x.0) w x.1) (sym (one_empty l ok a b u e)) (whole_less h p t (q + 0) (omega arith) (omega arith) (omega arith))
      go (no d) =
          subst (λ (x : Propagated × List ℕ). Whole l p t (q + mains_due x.0) w x.1) (sym (one_some l ok a b u d))
          (item_whole q b (item_at l.gray (length_of l.gray u - 1) u) (pop_whole h d))
