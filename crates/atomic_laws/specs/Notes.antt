-- The weak list: of the tables that are black exactly those that are weak are listed. `w` are the words from which modes are
-- read, `u` those after some marking. Assumes nothing.
--     Noted                     what is on the weak list is a weak table that is marked; a black weak table is on it
--     frame_noted, paint_noted, marks_noted     a change that leaves weak and the tables' colours; a slot that is no table
--                               painted; a list of links marked
--     table_noted               a table traversed: listed if it is weak
--     one_noted, for_noted      steps of propagation
use Rattle.std.specs.Prelude.{◌≡◌, Bool, cond, ◌⊎◌, ◌≢◌, eqb, length, Option}
use Rattle.std.proofs.Math.Path.{refl, ap}
use Rattle.std.proofs.Common.{sym, subst, ◌∙◌, true≢false, inl, inr, ⊎_elim, arith}
use Rattle.std.proofs.Math.Bool.{true, false}
use mathlib.Core.List.{List, []}
use Prim.Native.Nat.{ℕ, zero, suc, ◌+◌, ◌-◌, ◌≤◌}
use Rattle.std.proofs.Math.Decide.{ℕ_discrete}
use Rattle.base.specs.Words.{at}
use Rattle.value.specs.declared.TableRef.{TableRef}
use Rattle.value.specs.declared.FuncRef.{FuncRef}
use Rattle.value.specs.declared.ThreadRef.{ThreadRef}
use Rattle.layout.specs.declared.Lay.{Lay}
use Rattle.lists.specs.declared.Item.{Item}
use Rattle.lists.specs.declared.Item.TheVariants.{Table, Function, Userdata, Thread, Main, Unknown}
use Rattle.lists.specs.Lists.{kind_of, length_of, item_at, push, pop, taken}
use Rattle.lists.proofs.Laws.{pop_some}
use Rattle.record.specs.Fields.{body_at}
use Rattle.record.specs.Tables.{table_meta}
use Rattle.laid.specs.Laid.{Laid, weak_room_lem}
use Rattle.mark.specs.Ops.{Ref, tab, fun, thread, gray, grayagain, weak, is_white}
use Rattle.mark.specs.Words.{colour_w, paint_w, ops}
use Rattle.modes.specs.declared.Mode.{Mode}
use Rattle.modes.specs.Modes.{is_weak, weak_mode}
use Rattle.table_walk.specs.Tables.{table_cost, list_weak, traverse_table_at, traverse_table}
use Rattle.run_walk.specs.Closures.{closure_cost, traverse_closure_at, traverse_closure}
use Rattle.run_walk.specs.Threads.{thread_cost, traverse_thread_at, traverse_thread}
use Rattle.run_walk.specs.MainThread.{traverse_main_thread}
use Rattle.propagate.specs.declared.Propagated.{Propagated}
use Rattle.propagate.specs.Propagation.{goes_on, propagate_item, propagate_one, propagate_for}
use Rattle.links.specs.Links.{table_link, entry_links, main_links, links}
use Rattle.mark_laws.specs.Apart.{Apart, Order, order}
use Rattle.mark_laws.specs.Colours.{white_true, shade_most}
use Rattle.mark_laws.specs.Moves.{Rising, still, raised, pushed, popped, paint_moves}
use Rattle.mark_laws.specs.Changes.{Marked, marked_then, moves_marked}
use Rattle.mark_laws.specs.Stays.{never_falls}
use Rattle.mark_laws.specs.Marks.{marks, marks_moves, paint_colour}
use Rattle.mark_laws.specs.TableLinks.{table_links_lem, list_weak_moves}
use Rattle.mark_laws.specs.MainLinks.{main_traversed}
use Rattle.mark_laws.specs.Kinds.{closure_later, thread_later}
use Rattle.mark_laws.specs.Propagates.{choice}
use Rattle.mark_laws.specs.Whites.{Listed}
use Rattle.mark_laws.specs.Items.{one}
use Rattle.mark_laws.specs.Ends.{one_empty, one_some}
use Rattle.room_laws.specs.Pends.{Direct, item_for, marks_keep}
use Rattle.room_laws.specs.Tallies.{Ample}
use Rattle.room_laws.specs.Frames.{OnList, other_words, mark_apart, push_only, pop_only}
use Rattle.room_laws.specs.Paints.{paint_list}
use Rattle.room_laws.specs.Payments.{Whole}
use Rattle.room_laws.proofs.Payments.{whole_long, marks_whole, table_black, weak_fits}
use Rattle.room_laws.proofs.Steps.{pop_whole}
use Rattle.room_laws.proofs.Walks.{marks_list}
use Rattle.reach.specs.OnLists.{On, on_same, push_new, push_old, push_was}
use Rattle.reach.specs.Shades.{paint_upd, push_shade, pop_shade}
use Rattle.reach.specs.Oks.{Ok}
use Rattle.reach.proofs.Traversals.{less_ok, one_ok}
use Rattle.atomic_laws.specs.Kept.{is_weak_table}

-- What is on the weak list is a weak table that is marked, and every black table that is weak is on it.
pub record Noted (l : Lay) (w b : List ℕ) (u : List ℕ) : Type 0 where
  pub tables : (x : Item) → On l.weak x u → (t : TableRef) × (x ≡ Table t) × is_weak_table l w b t × (3 ≤ colour_w l (tab t) u)
  pub noted : (t : TableRef) → 4 ≤ colour_w l (tab t) u → is_weak_table l w b t → On l.weak (Table t) u

up_three : (c d : ℕ) → 3 ≤ c → c ≤ d → 3 ≤ d
up_three c d f g = omega (arith, f, g)

module _ (l : Lay) (ok : Laid l) (a : Apart l) (w b : List ℕ) where
  abbrev o : Order l
  o = order l ok a

  -- A change that leaves the weak list, lets no colour fall and makes no table black keeps it.
  pub frame_noted : {u v : List ℕ} → ((r : TableRef) → colour_w l (tab r) u ≤ colour_w l (tab r) v) → ((q : ℕ) → OnList l.weak q → at v q ≡ at u q)
      → ((t : TableRef) → 4 ≤ colour_w l (tab t) v → 4 ≤ colour_w l (tab t) u) → Noted l w b u → Noted l w b v
  frame_noted {u} {v} m s f n = record {
    tables = λ x i. let r = n.tables x (on_same l.weak x v u (λ q h. sym (s q h)) i) in (r.0, r.1, r.2, up_three (colour_w l (tab r.0) u) (colour_w l (tab r.0) v) r.3 (m r.0));
    noted = λ t h k. on_same l.weak (Table t) u v s (n.noted t (f t h) k);
  }

  -- a slot that is no table is painted
  pub paint_noted : (r : Ref) (u : List ℕ) → l.words ≤ length u → 1 ≤ colour_w l r u → r.kind ≢ 1 → Noted l w b u → Noted l w b (paint_w l r 4 u)
  paint_noted r u long h d n =
      let s : Rising (colour_w l r u) 4 = (h, shade_most _ _ _ u, omega arith, omega arith) in
      let k = paint_upd l ok a r 4 u long s in
      frame_noted (λ t. never_falls o (moves_marked l ok a (raised (still refl) r 4 s refl) long) (tab t)) (paint_list l ok a r 4 u long h weak)
      (λ t g. ⊎_elim (λ e. absurd (d (ap (λ (x : Ref). x.kind) (sym e.0)))) (λ e. subst (λ c. 4 ≤ c) e g) (k.cases (tab t))) n

  -- Marking a list of links makes no table black, and leaves the weak list.
  marks_black : (rs : List Ref) (u : List ℕ) → l.words ≤ length u → (t : TableRef) → 4 ≤ colour_w l (tab t) (marks l rs u) → 4 ≤ colour_w l (tab t) u
  marks_black rs u long t = marks_keep l ok a (λ v. 4 ≤ colour_w l (tab t) v → 4 ≤ colour_w l (tab t) u) black gray_one rs u long (λ h. h)
    where
      rising : (r : Ref) (c : ℕ) (v : List ℕ) → is_white (colour_w l r v) ≡ true → 3 ≤ c → c ≤ 4 → Rising (colour_w l r v) c
      rising r c v e f g = ((white_true (colour_w l r v) e).0, omega (arith, f, (white_true (colour_w l r v) e).1), f, g)

      black : (r : Ref) (v : List ℕ) → l.words ≤ length v → is_white (colour_w l r v) ≡ true → Direct r.kind → (4 ≤ colour_w l (tab t) v → 4 ≤ colour_w l (tab t) u) → 4 ≤ colour_w l (tab t) (paint_w l r 4 v) → 4 ≤ colour_w l (tab t) u
      black r v n e d p h =
          ⊎_elim (λ x. absurd (subst (λ y. Direct y.kind) (sym x.0) d)) (λ x. p (subst (λ c. 4 ≤ c) x h))
          ((paint_upd l ok a r 4 v n (rising r 4 v e (omega arith) (omega arith))).cases (tab t))

      gray_one : (r : Ref) (v : List ℕ) → l.words ≤ length v → is_white (colour_w l r v) ≡ true → Listed r.kind → (4 ≤ colour_w l (tab t) v → 4 ≤ colour_w l (tab t) u)
          → 4 ≤ colour_w l (tab t) (push l.gray (item_for r) (paint_w l r 3 v)) → 4 ≤ colour_w l (tab t) u
      gray_one r v n e d p h =
          let s = rising r 3 v e (omega arith) (omega arith) in
          let m : Marked l v (paint_w l r 3 v) = moves_marked l ok a (raised (still refl) r 3 s refl) n in
          let g : 4 ≤ colour_w l (tab t) (paint_w l r 3 v) = subst (λ c. 4 ≤ c) (push_shade l ok a gray (item_for r) (paint_w l r 3 v) (omega (arith, n, m.long)) (tab t)) h in
          ⊎_elim (λ x. absurd (four (colour_w l (tab t) (paint_w l r 3 v)) g x.1)) (λ x. p (subst (λ c. 4 ≤ c) x g)) ((paint_upd l ok a r 3 v n s).cases (tab t))
        where
          four : (c : ℕ) → 4 ≤ c → c ≡ 3 → ⊥
          four c f g = omega (arith, f, g)

  pub marks_noted : (rs : List Ref) (u : List ℕ) → l.words ≤ length u → Noted l w b u → Noted l w b (marks l rs u)
  marks_noted rs u long n = frame_noted (λ t. never_falls o (moves_marked l ok a (marks_moves l rs (still refl)) long) (tab t)) (marks_list l ok a weak tt rs u long) (marks_black rs u long) n

  -- a push onto gray or grayagain, and a pop of gray
  pub gray_noted : (x : Item) (u : List ℕ) → l.words ≤ length u → Noted l w b u → Noted l w b (push l.gray x u)
  gray_noted x u long n =
      frame_noted (λ t. never_falls o (moves_marked l ok a (pushed (still refl) gray x refl) long) (tab t)) (other_words l ok a gray weak tt u (push l.gray x u) (push_only l ok a gray x u long))
      (λ t h. subst (λ c. 4 ≤ c) (push_shade l ok a gray x u long (tab t)) h) n

  pub again_noted : (x : Item) (u : List ℕ) → l.words ≤ length u → Noted l w b u → Noted l w b (push l.grayagain x u)
  again_noted x u long n =
      frame_noted (λ t. never_falls o (moves_marked l ok a (pushed (still refl) grayagain x refl) long) (tab t)) (other_words l ok a grayagain weak tt u (push l.grayagain x u) (push_only l ok a grayagain x u long))
      (λ t h. subst (λ c. 4 ≤ c) (push_shade l ok a grayagain x u long (tab t)) h) n

  pop_noted : (u : List ℕ) → l.words ≤ length u → Noted l w b u → Noted l w b (pop l.gray u).1
  pop_noted u long n =
      frame_noted (λ t. never_falls o (moves_marked l ok a (popped (still refl) gray refl) long) (tab t)) (other_words l ok a gray weak tt u (pop l.gray u).1 (pop_only l ok a gray u long))
      (λ t h. subst (λ c. 4 ≤ c) (pop_shade l ok a gray u long (tab t)) h) n

-- What is traversed during propagation. `w` are the words before any marking.
module _ (l : Lay) (ok : Laid l) (a : Apart l) (am : Ample l) (w b : List ℕ) (long : l.words ≤ length w) where
  abbrev ord : Order l
  ord = order l ok a

  -- A table: it is black, and listed if it is weak.
  module _ (p t q : ℕ) (r : TableRef) (u : List ℕ) (m : Marked l w u) (h : 1 ≤ colour_w l (tab r) u) (g : Whole l (p + 1) (t + 1) q w u) (n : Noted l w b u) where
    abbrev place : ℕ
    place = body_at l.tables r.0

    abbrev mode : Mode
    mode = weak_mode l (table_meta place w) w b

    abbrev u₁ : List ℕ
    u₁ = paint_w l (tab r) 4 u

    abbrev u₂ : List ℕ
    u₂ = marks l (table_link (table_meta place w)) u₁

    u_long : l.words ≤ length u
    u_long = whole_long l ok a am w long g

    rise : Rising (colour_w l (tab r) u) 4
    rise = (h, shade_most _ _ _ u, omega arith, omega arith)

    m₁ : Marked l u u₁
    m₁ = moves_marked l ok a (raised (still refl) (tab r) 4 rise refl) u_long

    long₁ : l.words ≤ length u₁
    long₁ = omega (arith, u_long, m₁.long)

    m₂ : Marked l u₁ u₂
    m₂ = moves_marked l ok a (marks_moves l (table_link (table_meta place w)) (still refl)) long₁

    g₂ : Whole l (p + 1) t q w u₂
    g₂ = marks_whole l ok a am w long (table_link (table_meta place w)) (table_black l ok a am w long r h g)

    long₂ : l.words ≤ length u₂
    long₂ = whole_long l ok a am w long g₂

    weak_words : (q : ℕ) → OnList l.weak q → at u₂ q ≡ at u q
    weak_words q i = marks_list l ok a weak tt (table_link (table_meta place w)) u₁ long₁ q i ∙ paint_list l ok a (tab r) 4 u u_long h weak q i

    -- r is black, and no other table became so
    now_black : 4 ≤ colour_w l (tab r) u₂
    now_black = black (colour_w l (tab r) u₁) (colour_w l (tab r) u₂) (paint_colour l ok a (tab r) 4 u u_long rise) (never_falls ord m₂ (tab r))
      where
        black : (c d : ℕ) → c ≡ 4 → c ≤ d → 4 ≤ d
        black c d f g = omega (arith, f, g)

    was_black : (x : TableRef) → 4 ≤ colour_w l (tab x) u₂ → (tab x ≡ tab r) ⊎ (4 ≤ colour_w l (tab x) u)
    was_black x k = ⊎_elim (λ e. inl e.0) (λ e. inr (subst (λ c. 4 ≤ c) e (marks_black l ok a w b (table_link (table_meta place w)) u₁ long₁ x k))) ((paint_upd l ok a (tab r) 4 u u_long rise).cases (tab x))

    -- listed or not, before its entries are marked
    listed : Noted l w b (list_weak (ops l) mode r u₂)
    unfolding list_weak
    listed = go (is_weak mode) refl
      where
        same : (x : TableRef) → tab x ≡ tab r → x ≡ r
        same x e = ap (λ (y : Ref). record { 0 = y.at; 1 = y.gen }) e

        go : (d : Bool) → is_weak (weak_mode l (table_meta (body_at l.tables r.0) w) w b) ≡ d → Noted l w b (cond d (push l.weak (Table r) u₂) u₂)
        go true e =
            let room = weak_fits l ok a am w long p t q u₂ g₂ in
            let v = push l.weak (Table r) u₂ in
            let up : (x : TableRef) → colour_w l (tab x) v ≡ colour_w l (tab x) u₂ = λ x. push_shade l ok a weak (Table r) u₂ long₂ (tab x) in
            record {
              tables = λ x i. ⊎_elim
                  (λ j. let k = n.tables x (on_same l.weak x u₂ u (λ q y. sym (weak_words q y)) j) in
                  (k.0, k.1, k.2, subst (λ c. 3 ≤ c) (sym (up k.0)) (up_three (colour_w l (tab k.0) u) (colour_w l (tab k.0) u₂) k.3 (never_falls ord (marked_then m₁ m₂) (tab k.0)))))
                  (λ j. (r, j, e, subst (λ c. 3 ≤ c) (sym (up r)) (up_three 4 (colour_w l (tab r) u₂) (omega arith) now_black)))
                  (push_was l.weak (Table r) u₂ (weak_room_lem l u₂ ok long₂) (mark_apart l ok a weak) room x i);
              noted = λ x k j. ⊎_elim (λ i. subst (λ y. On l.weak (Table y) v) (sym (same x i)) (push_new l.weak (Table r) u₂ (weak_room_lem l u₂ ok long₂) room))
                  (λ i. push_old l.weak (Table r) u₂ (weak_room_lem l u₂ ok long₂) (mark_apart l ok a weak) (Table x) (on_same l.weak (Table x) u u₂ weak_words (n.noted x i j)))
                  (was_black x (subst (λ c. 4 ≤ c) (up x) k));
            }
        go false e = record {
          tables = λ x i.
              let k = n.tables x (on_same l.weak x u₂ u (λ q y. sym (weak_words q y)) i) in
              (k.0, k.1, k.2, up_three (colour_w l (tab k.0) u) (colour_w l (tab k.0) u₂) k.3 (never_falls ord (marked_then m₁ m₂) (tab k.0)));
          noted = λ x k j. ⊎_elim (λ i. absurd (true≢false (sym j ∙ ap (λ (y : TableRef). is_weak (weak_mode l (table_meta (body_at l.tables y.0) w) w b)) (same x i) ∙ e)))
              (λ i. on_same l.weak (Table x) u u₂ weak_words (n.noted x i j)) (was_black x k);
        }

    pub table_noted : Noted l w b (traverse_table_at (ops l) l b r u)
    table_noted =
        let m₃ : Marked l u₂ (list_weak (ops l) mode r u₂) = moves_marked l ok a (list_weak_moves l mode r (still refl)) long₂ in
        subst (λ x. Noted l w b x) (sym (table_links_lem l ok a w long b r u m h))
        (marks_noted l ok a w b (entry_links w mode place) (list_weak (ops l) mode r u₂) (omega (arith, long₂, m₃.long)) listed)

  -- A closure, a thread, the main thread: no table becomes black.
  closure_noted : (r : FuncRef) (u : List ℕ) → Marked l w u → 1 ≤ colour_w l (fun r) u → Noted l w b u → Noted l w b (traverse_closure_at (ops l) l r u)
  closure_noted r u m h n =
      let u_long : l.words ≤ length u = omega (arith, long, m.long) in
      let k : Marked l u (paint_w l (fun r) 4 u) = moves_marked l ok a (paint_moves l (fun r) h (still refl)) u_long in
      subst (λ x. Noted l w b x) (sym (closure_later l ok a w b long u m r h))
      (marks_noted l ok a w b (links w l b (fun r)) (paint_w l (fun r) 4 u) (omega (arith, u_long, k.long)) (paint_noted l ok a w b (fun r) u u_long h (omega arith) n))

  thread_noted : (r : ThreadRef) (u : List ℕ) → Marked l w u → 1 ≤ colour_w l (thread r) u → Noted l w b u → Noted l w b (traverse_thread_at (ops l) l r u)
  thread_noted r u m h n =
      let u_long : l.words ≤ length u = omega (arith, long, m.long) in
      let k : Marked l u (marks l (links w l b (thread r)) (paint_w l (thread r) 4 u)) = moves_marked l ok a (marks_moves l (links w l b (thread r)) (paint_moves l (thread r) h (still refl))) u_long in
      let j : Marked l u (paint_w l (thread r) 4 u) = moves_marked l ok a (paint_moves l (thread r) h (still refl)) u_long in
      subst (λ x. Noted l w b x) (sym (thread_later l ok a w b long u m r h))
      (again_noted l ok a w b (Thread r) (marks l (links w l b (thread r)) (paint_w l (thread r) 4 u)) (omega (arith, u_long, k.long))
      (marks_noted l ok a w b (links w l b (thread r)) (paint_w l (thread r) 4 u) (omega (arith, u_long, j.long)) (paint_noted l ok a w b (thread r) u u_long h (omega arith) n)))

  pub main_noted : (u : List ℕ) → Marked l w u → Noted l w b u → Noted l w b (traverse_main_thread (ops l) l u).1
  main_noted u m n =
      let u_long : l.words ≤ length u = omega (arith, long, m.long) in
      let k : Marked l u (marks l (main_links w l) u) = moves_marked l ok a (marks_moves l (main_links w l) (still refl)) u_long in
      subst (λ x. Noted l w b x) (sym (ap (λ (x : ℕ × List ℕ). x.1) (main_traversed l ok a w long u m)))
      (again_noted l ok a w b Main (marks l (main_links w l) u) (omega (arith, u_long, k.long)) (marks_noted l ok a w b (main_links w l) u u_long n))

  -- What is done with an item that was taken off gray.
  item_noted : (p t q : ℕ) (x : Item) (u : List ℕ) → Marked l w u → Whole l (p + one (eqb (kind_of x) 5)) (t + one (eqb (kind_of x) 5)) q w u → Noted l w b u → Noted l w b (propagate_item (ops l) l b x u).1
  unfolding propagate_item traverse_table traverse_closure traverse_thread
  item_noted p t q (Table r) u m g n =
      choice (λ (x : ℕ × List ℕ). Noted l w b x.1) (colour_w l (tab r) u) (64, u) (table_cost (body_at l.tables r.0) u, traverse_table_at (ops l) l b r u) n (λ h. table_noted p t q r u m h g n)
  item_noted p t q (Function r) u m g n =
      choice (λ (x : ℕ × List ℕ). Noted l w b x.1) (colour_w l (fun r) u) (48, u) (closure_cost (body_at l.functions r.0) u, traverse_closure_at (ops l) l r u) n (λ h. closure_noted r u m h n)
  item_noted p t q (Thread r) u m g n =
      choice (λ (x : ℕ × List ℕ). Noted l w b x.1) (colour_w l (thread r) u) (256, u) (thread_cost (body_at l.threads r.0) u, traverse_thread_at (ops l) l r u) n (λ h. thread_noted r u m h n)
  item_noted p t q Main u m g n = n
  item_noted p t q (Userdata r) u m g n = n
  item_noted p t q Unknown u m g n = n

  -- One step of propagation,
  pub one_noted : {R Cov D : Ref → Type 0} (p t q : ℕ) (u : List ℕ) → Ok l w b R Cov D p t q [] u → Noted l w b u → Noted l w b (propagate_one (ops l) l b u).1
  one_noted p t q u c n = go (ℕ_discrete (length_of l.gray u) 0)
    where
      u_long : l.words ≤ length u
      u_long = whole_long l ok a am w long c.whole

      go : Dec (length_of l.gray u ≡ 0) → Noted l w b (propagate_one (ops l) l b u).1
      go (yes e) = subst (λ (x : Propagated × List ℕ). Noted l w b x.1) (sym (one_empty l ok a b u e)) n
      go (no d) =
          let rest = taken l.gray (length_of l.gray u - 1) u in
          let is : (pop l.gray u).1 ≡ rest = ap (λ (x : Option Item × List ℕ). x.1) (pop_some l.gray u d) in
          let m : Marked l u rest = moves_marked l ok a (popped (still refl) gray (sym is)) u_long in
          subst (λ (x : Propagated × List ℕ). Noted l w b x.1) (sym (one_some l ok a b u d))
          (item_noted p t _ (item_at l.gray (length_of l.gray u - 1) u) rest (marked_then c.marked m) (pop_whole l ok a am w long c.whole d) (subst (λ x. Noted l w b x) is (pop_noted l ok a w b u u_long n)))

  -- and so any number of them.
  pub for_noted : {R Cov D : Ref → Type 0} (k p t q : ℕ) (u : List ℕ) → Ok l w b R Cov D p t q [] u → Noted l w b u → Noted l w b (propagate_for (ops l) l b k u)
  unfolding propagate_for
  for_noted zero p t q u c n = n
  for_noted (suc k) p t q u c n =
      let d = less_ok l ok a am w b long p t q (omega arith) (omega arith) (omega arith) (one_ok l ok a am w b long p t q u c) in
      let m = one_noted p t q u c n in
      go (goes_on (propagate_one (ops l) l b u).0) m (for_noted k p t q (propagate_one (ops l) l b u).1 d m)
    where
      go : (x : Bool) → Noted l w b (propagate_one (ops l) l b u).1 → Noted l w b (propagate_for (ops l) l b k (propagate_one (ops l) l b u).1)
          → Noted l w b (cond x (propagate_for (ops l) l b k (propagate_one (ops l) l b u).1) (propagate_one (ops l) l b u).1)
      go true y z = z
      go false y z = y
