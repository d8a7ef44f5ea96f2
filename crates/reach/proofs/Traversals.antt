-- The traversals, and so propagation, keep the tri-colour invariant. `w` are the words before any marking, from which all
-- links are read. Assumes nothing.
--     lists_ok, weak_ok, again_ok     a change of weak or grayagain keeps it
--     weaken_ok, give_ok              fewer that are gray and not listed; more that are to be marked
--     follow_ok                       a marked slot is painted black, and its links are to be marked
--     table_ok, closure_ok, thread_ok, main_ok      the traversals
--     pop_ok, one_ok, for_ok          an item taken off gray; a step, and any number of steps
use Rattle.std.specs.Prelude.{◌≡◌, Bool, cond, ◌⊎◌, ◌≢◌, eqb, length, Option}
use Rattle.std.proofs.Math.Path.{refl}
use Rattle.std.proofs.Common.{sym, ap, subst, ◌∙◌, inl, inr, ⊎_elim, arith}
use Rattle.std.proofs.Math.Bool.{true, false}
use mathlib.Core.List.Memᴰ
use mathlib.Core.List.{List, [], Memᴰ}
use Prim.Native.Nat.{ℕ, zero, suc, ◌+◌, ◌-◌, ◌≤◌, ◌<◌}
use Rattle.std.proofs.Math.Decide.{ℕ_discrete}
use Rattle.base.specs.Ways.{if_eq, eq_no}
use Rattle.base.specs.Words.{at}
use Rattle.value.specs.declared.TableRef.{TableRef}
use Rattle.value.specs.declared.FuncRef.{FuncRef}
use Rattle.value.specs.declared.ThreadRef.{ThreadRef}
use Rattle.layout.specs.declared.Lay.{Lay}
use Rattle.lists.specs.declared.Item.{Item}
use Rattle.lists.specs.declared.Item.TheVariants.{Table, Function, Userdata, Thread, Main, Unknown}
use Rattle.lists.specs.Lists.{kind_of, length_of, item_at, push, pop, taken}
use Rattle.lists.proofs.Laws.{item_found, pop_some}
use Rattle.record.specs.Fields.{body_at}
use Rattle.record.specs.Tables.{table_meta}
use Rattle.laid.specs.Laid.{Laid, gray_room_lem, grayagain_room_lem}
use Rattle.mark.specs.Ops.{Ref, ref, tab, fun, thread, gray, grayagain, weak}
use Rattle.mark.specs.Words.{colour_w, paint_w, ops}
use Rattle.modes.specs.declared.Mode.{Mode}
use Rattle.modes.specs.Modes.{is_weak, weak_mode}
use Rattle.table_walk.specs.Tables.{table_cost, list_weak, traverse_table_at, traverse_table}
use Rattle.run_walk.specs.Closures.{closure_cost, traverse_closure_at, traverse_closure}
use Rattle.run_walk.specs.Threads.{thread_cost, traverse_thread_at, traverse_thread}
use Rattle.run_walk.specs.MainThread.{traverse_main_thread}
use Rattle.propagate.specs.declared.Propagated.{Propagated}
use Rattle.propagate.specs.Propagation.{goes_on, propagate_item, propagate_one, propagate_for}
use Rattle.links.specs.Links.{table_link, entry_links, main_links, links}
use Rattle.mark_laws.specs.Apart.{Apart, Order, order}
use Rattle.mark_laws.specs.Moves.{Rising, still, raised, pushed, popped, paint_moves}
use Rattle.mark_laws.specs.Changes.{Marked, marked_then, moves_marked}
use Rattle.mark_laws.specs.Colours.{shade_most}
use Rattle.mark_laws.specs.Stays.{never_falls}
use Rattle.mark_laws.specs.Marks.{marks, marks_moves, paint_colour}
use Rattle.mark_laws.specs.TableLinks.{table_links_lem, table_both}
use Rattle.mark_laws.specs.MainLinks.{main_traversed}
use Rattle.mark_laws.specs.Kinds.{links_table, closure_later, thread_later}
use Rattle.mark_laws.specs.Whites.{Listed}
use Rattle.mark_laws.specs.Items.{one}
use Rattle.mark_laws.specs.Ends.{one_empty, one_some}
use Rattle.room_laws.specs.Pends.{item_for}
use Rattle.room_laws.specs.Tallies.{Ample}
use Rattle.room_laws.specs.Frames.{OnList, OnlyList, other_words, mark_apart, push_only, pop_only}
use Rattle.room_laws.specs.Paints.{paint_list}
use Rattle.room_laws.specs.Payments.{Whole}
use Rattle.room_laws.proofs.Payments.{whole_long, table_black, closure_black, thread_black, weak_whole, again_fits, again_whole}
use Rattle.room_laws.specs.Steps.{mains_due}
use Rattle.room_laws.proofs.Steps.{whole_less, pop_whole}
use Rattle.reach.specs.Reached.{Reach, Link, Occupied}
use Rattle.reach.specs.Tri.{Upd, follow, pend_more, inv_same}
use Rattle.reach.specs.OnLists.{On, on_same, push_was, pop_old, pop_was}
use Rattle.reach.specs.Shades.{ref_of, item_back, paint_upd, push_shade, pop_shade}
use Rattle.reach.specs.Oks.{Again, Ok}
use Rattle.reach.proofs.Oks.{again_up, marks_ok, marks_all}

up_from : (c d : ℕ) → 3 ≤ c → c ≤ d → 3 ≤ d
up_from c d f g = omega (arith, f, g)

up_same : (c d : ℕ) → 3 ≤ c → d ≡ c → 3 ≤ d
up_same c d f g = omega (arith, f, g)

-- what a colour of 3 and more decides
pub chosen : {A : Type 0} (P : A → Type 0) (c : ℕ) (x y : A) → 3 ≤ c → P y → P (if_eq c 0 x y)
chosen P c x y h p = subst P (eq_no c 0 x y y (λ e. omega (arith, e, h)) refl) p

-- the handle that an item was listed for
for_item : {A : Type 0} (x : Item) (k : Ref) → A ⊎ (Listed k.kind × (item_for k ≡ x)) → A ⊎ (k ≡ ref_of x)
for_item x k (inl i) = inl i
for_item x k (inr i) = inr (sym (item_back k i.0) ∙ ap ref_of i.1)

-- none was listed by an item that stands for none
for_none : {A : Type 0} (x : Item) (k : Ref) → ref_of x ≡ ref 6 0 0 → A ⊎ (Listed k.kind × (item_for k ≡ x)) → A
for_none x k e (inl i) = i
for_none x k e (inr i) = absurd (subst (λ y. Listed y.kind) (sym (item_back k i.0) ∙ ap ref_of i.1 ∙ e) i.0)

module _ (l : Lay) (ok : Laid l) (a : Apart l) (am : Ample l) (w b : List ℕ) (long : l.words ≤ length w) where
  abbrev o : Order l
  o = order l ok a

  module _ {Root Cov D : Ref → Type 0} where
    -- A change that leaves all colours and the gray list keeps the invariant, if the lists are paid for.
    pub lists_ok : (p t q p' t' q' : ℕ) (E : List Ref) (u v : List ℕ) → Marked l u v → ((x : Ref) → colour_w l x v ≡ colour_w l x u) → ((q : ℕ) → OnList l.gray q → at v q ≡ at u q)
        → Whole l p' t' q' w v → ((x : Item) → On l.grayagain x v → Again l x v) → Ok l w b Root Cov D p t q E u → Ok l w b Root Cov D p' t' q' E v
    lists_ok p t q p' t' q' E u v m e g h k c = record {
      marked = marked_then c.marked m;
      whole = h;
      inv = inv_same c.inv e;
      listed = λ r i. ⊎_elim (λ j. inl (j.0, on_same l.gray (item_for r) u v g j.1)) (λ j. inr j) (c.listed r (sym (e r) ∙ i));
      todo = λ r i j. up_same (colour_w l r u) (colour_w l r v) (c.todo r i (on_same l.gray (item_for r) v u (λ q n. sym (g q n)) j)) (e r);
      kept = k;
    }

    -- A push onto weak.
    pub weak_ok : (p t q : ℕ) (E : List Ref) (x : Item) (u : List ℕ) → Ok l w b Root Cov D (p + 1) t q E u → Ok l w b Root Cov D p t q E (push l.weak x u)
    weak_ok p t q E x u c =
        lists_ok (p + 1) t q p t q E u (push l.weak x u) m (push_shade l ok a weak x u u_long) (other_words l ok a weak gray tt u (push l.weak x u) s) (weak_whole l ok a am w long x c.whole)
        (λ y i. again_up o m y (c.kept y (on_same l.grayagain y (push l.weak x u) u (λ q j. sym (other_words l ok a weak grayagain tt u (push l.weak x u) s q j)) i))) c
      where
        u_long : l.words ≤ length u
        u_long = whole_long l ok a am w long c.whole

        m : Marked l u (push l.weak x u)
        m = moves_marked l ok a (pushed (still refl) weak x refl) u_long

        s : OnlyList l weak u (push l.weak x u)
        s = push_only l ok a weak x u u_long

    -- A push onto grayagain, of the main thread or of a thread that is marked.
    pub again_ok : (p t q : ℕ) (E : List Ref) (x : Item) (u : List ℕ) → kind_of x ≢ 5 → Again l x u → Ok l w b Root Cov D p t (q + 1) E u → Ok l w b Root Cov D p t q E (push l.grayagain x u)
    again_ok p t q E x u d h c =
        lists_ok p t (q + 1) p t q E u v m (push_shade l ok a grayagain x u u_long) (other_words l ok a grayagain gray tt u v (push_only l ok a grayagain x u u_long)) (again_whole l ok a am w long x d c.whole)
        (λ y i. ⊎_elim (λ j. again_up o m y (c.kept y j)) (λ j. subst (λ z. Again l z v) (sym j) (again_up o m x h))
        (push_was l.grayagain x u (grayagain_room_lem l u ok u_long) (mark_apart l ok a grayagain) (again_fits l ok a am w long p t q u c.whole) y i)) c
      where
        u_long : l.words ≤ length u
        u_long = whole_long l ok a am w long c.whole

        v : List ℕ
        v = push l.grayagain x u

        m : Marked l u (push l.grayagain x u)
        m = moves_marked l ok a (pushed (still refl) grayagain x refl) u_long

    -- More is to be marked: links from reached slots, or roots.
    pub give_ok : {Cov' : Ref → Type 0} {p t q : ℕ} (rs : List Ref) (u : List ℕ) → ((x : Ref) → Memᴰ x rs → Occupied l w x → Reach (Link l w b) Root (Occupied l w) x)
        → ((x : Ref) → Cov' x → Occupied l w x → Cov x ⊎ Memᴰ x rs) → Ok l w b Root Cov D p t q [] u → Ok l w b Root Cov' D p t q rs u
    give_ok rs u reach cov c = record {
      marked = c.marked;
      whole = c.whole;
      inv = pend_more c.inv (λ i m. absurd (Memᴰ.not-nil m)) reach cov;
      listed = c.listed;
      todo = c.todo;
      kept = c.kept;
    }

  -- What is gray and not listed may be fewer.
  pub weaken_ok : {Root Cov D D' : Ref → Type 0} {p t q : ℕ} (E : List Ref) (u : List ℕ) → ((x : Ref) → D x → colour_w l x u ≡ 3 → D' x) → Ok l w b Root Cov D p t q E u → Ok l w b Root Cov D' p t q E u
  weaken_ok E u f c = record {
    marked = c.marked;
    whole = c.whole;
    inv = c.inv;
    listed = λ r e. ⊎_elim (λ i. inl i) (λ i. inr (f r i e)) (c.listed r e);
    todo = c.todo;
    kept = c.kept;
  }

  -- less may be kept free of the lists
  pub less_ok : {Root Cov D : Ref → Type 0} {p t q : ℕ} (p' t' q' : ℕ) {E : List Ref} {u : List ℕ} → p' ≤ p → t' ≤ t → q' ≤ q → Ok l w b Root Cov D p t q E u → Ok l w b Root Cov D p' t' q' E u
  less_ok p' t' q' f g h c = record {
    marked = c.marked;
    whole = whole_less c.whole p' t' q' f g h;
    inv = c.inv;
    listed = c.listed;
    todo = c.todo;
    kept = c.kept;
  }

  -- A marked slot is painted black; its links are to be marked.
  pub follow_ok : {Root Cov D : Ref → Type 0} {p t q p' t' q' : ℕ} (r : Ref) (u : List ℕ) → 3 ≤ colour_w l r u → Whole l p' t' q' w (paint_w l r 4 u) → Ok l w b Root Cov (λ x. D x ⊎ (x ≡ r)) p t q [] u
      → Ok l w b Root Cov D p' t' q' (links w l b r) (paint_w l r 4 u)
  follow_ok {D = D} r u h g c = record {
    marked = marked_then c.marked m;
    whole = g;
    inv = follow c.inv r 4 n (omega arith) h
        (λ k e. ⊎_elim (λ x. inl x.0) (λ x. inr (x ∙ e)) (n.cases k))
        (λ k i. absurd (Memᴰ.not-nil i)) (λ k i. inr i) (λ k i. i);
    listed = λ k e. ⊎_elim (λ x. absurd (four (colour_w l k v) x.1 e)) (λ x. still_listed k e (c.listed k (sym x ∙ e))) (n.cases k);
    todo = λ k i j. up_from (colour_w l k u) (colour_w l k v) (c.todo k i (on_same l.gray (item_for k) v u (λ q x. sym (paint_list l ok a r 4 u u_long s.0 gray q x)) j)) (never_falls o m k);
    kept = λ x i. again_up o m x (c.kept x (on_same l.grayagain x v u (λ q j. sym (paint_list l ok a r 4 u u_long s.0 grayagain q j)) i));
  }
    where
      u_long : l.words ≤ length u
      u_long = whole_long l ok a am w long c.whole

      v : List ℕ
      v = paint_w l r 4 u

      s : Rising (colour_w l r u) 4
      s = (omega (arith, h), shade_most _ _ _ u, omega arith, omega arith)

      m : Marked l u (paint_w l r 4 u)
      m = moves_marked l ok a (raised (still refl) r 4 s refl) u_long

      n : Upd (λ x. colour_w l x u) r 4 (λ x. colour_w l x (paint_w l r 4 u))
      n = paint_upd l ok a r 4 u u_long s

      four : (c : ℕ) → c ≡ 4 → c ≡ 3 → ⊥
      four c x y = omega (arith, x, y)

      still_listed : (k : Ref) → colour_w l k (paint_w l r 4 u) ≡ 3 → (Listed k.kind × On l.gray (item_for k) u) ⊎ (D k ⊎ (k ≡ r)) → (Listed k.kind × On l.gray (item_for k) (paint_w l r 4 u)) ⊎ D k
      still_listed k e (inl i) = inl (i.0, on_same l.gray (item_for k) u (paint_w l r 4 u) (paint_list l ok a r 4 u u_long s.0 gray) i.1)
      still_listed k e (inr (inl d)) = inr d
      still_listed k e (inr (inr i)) = absurd (four (colour_w l k (paint_w l r 4 u)) (ap (λ x. colour_w l x (paint_w l r 4 u)) i ∙ n.here) e)

  module _ {Root Cov D : Ref → Type 0} where
    list_weak_ok : (p t q : ℕ) (E : List Ref) (m : Mode) (r : TableRef) (u : List ℕ) → Ok l w b Root Cov D (p + 1) t q E u → Ok l w b Root Cov D p t q E (list_weak (ops l) m r u)
    unfolding list_weak
    list_weak_ok p t q E m r u c = go (is_weak m)
      where
        go : (d : Bool) → Ok l w b Root Cov D p t q E (cond d (push l.weak (Table r) u) u)
        go true = weak_ok p t q E (Table r) u c
        go false = less_ok p t q (omega arith) (omega arith) (omega arith) c

    -- A table that is marked is traversed,
    pub table_ok : (p t q : ℕ) (r : TableRef) (u : List ℕ) → 3 ≤ colour_w l (tab r) u → Ok l w b Root Cov (λ x. D x ⊎ (x ≡ tab r)) (p + 1) (t + 1) q [] u
        → Ok l w b Root Cov D p t q [] (traverse_table_at (ops l) l b r u)
    table_ok p t q r u h c =
        subst (λ x. Ok l w b Root Cov D p t q [] x) (sym (table_links_lem l ok a w long b r u c.marked named))
        (marks_all l ok a am w b long (entry_links w m y)
        (list_weak_ok p t q (entry_links w m y) m r (marks l (table_link (table_meta y w)) (paint_w l (tab r) 4 u))
        (marks_ok l ok a am w b long (table_link (table_meta y w)) (entry_links w m y)
        (subst (λ rs. Ok l w b Root Cov D (p + 1) t q rs (paint_w l (tab r) 4 u)) (links_table w l b r ∙ table_both l ok a w long b y)
        (follow_ok (tab r) u h (table_black l ok a am w long r named c.whole) c)))))
      where
        named : 1 ≤ colour_w l (tab r) u
        named = omega (arith, h)

        y : ℕ
        y = body_at l.tables r.0

        m : Mode
        m = weak_mode l (table_meta (body_at l.tables r.0) w) w b

    -- a closure,
    pub closure_ok : (p t q : ℕ) (r : FuncRef) (u : List ℕ) → 3 ≤ colour_w l (fun r) u → Ok l w b Root Cov (λ x. D x ⊎ (x ≡ fun r)) p t q [] u
        → Ok l w b Root Cov D p t q [] (traverse_closure_at (ops l) l r u)
    closure_ok p t q r u h c =
        let named : 1 ≤ colour_w l (fun r) u = omega (arith, h) in
        subst (λ x. Ok l w b Root Cov D p t q [] x) (sym (closure_later l ok a w b long u c.marked r named))
        (marks_all l ok a am w b long (links w l b (fun r)) (follow_ok (fun r) u h (closure_black l ok a am w long r named c.whole) c))

    -- a thread, which is listed again,
    pub thread_ok : (p t q : ℕ) (r : ThreadRef) (u : List ℕ) → 3 ≤ colour_w l (thread r) u → Ok l w b Root Cov (λ x. D x ⊎ (x ≡ thread r)) p t (q + 1) [] u
        → Ok l w b Root Cov D p t q [] (traverse_thread_at (ops l) l r u)
    thread_ok p t q r u h c =
        subst (λ x. Ok l w b Root Cov D p t q [] x) (sym (thread_later l ok a w b long u c.marked r named))
        (again_ok p t q [] (Thread r) (marks l (links w l b (thread r)) (paint_w l (thread r) 4 u)) (λ e. omega (arith, e)) (inr (r, refl, now_black)) d)
      where
        named : 1 ≤ colour_w l (thread r) u
        named = omega (arith, h)

        d : Ok l w b Root Cov D p t (q + 1) [] (marks l (links w l b (thread r)) (paint_w l (thread r) 4 u))
        d = marks_all l ok a am w b long (links w l b (thread r)) (follow_ok (thread r) u h (thread_black l ok a am w long r named c.whole) c)

        since : Marked l (paint_w l (thread r) 4 u) (marks l (links w l b (thread r)) (paint_w l (thread r) 4 u))
        since = moves_marked l ok a (marks_moves l (links w l b (thread r)) (still refl)) (omega (arith, (moves_marked l ok a (paint_moves l (thread r) named (still refl)) (whole_long l ok a am w long c.whole)).long, whole_long l ok a am w long c.whole))

        now_black : 4 ≤ colour_w l (thread r) (marks l (links w l b (thread r)) (paint_w l (thread r) 4 u))
        now_black = black_from (colour_w l (thread r) (paint_w l (thread r) 4 u)) (colour_w l (thread r) (marks l (links w l b (thread r)) (paint_w l (thread r) 4 u)))
            (paint_colour l ok a (thread r) 4 u (whole_long l ok a am w long c.whole) (named, shade_most _ _ _ u, omega arith, omega arith)) (never_falls o since (thread r))
          where
            black_from : (c d : ℕ) → c ≡ 4 → c ≤ d → 4 ≤ d
            black_from c d f g = omega (arith, f, g)

    -- and the main thread, whose links are roots, which is listed again too.
    pub main_ok : {Cov' : Ref → Type 0} (p t q : ℕ) (u : List ℕ) → ((x : Ref) → Memᴰ x (main_links w l) → Occupied l w x → Reach (Link l w b) Root (Occupied l w) x)
        → ((x : Ref) → Cov' x → Occupied l w x → Cov x ⊎ Memᴰ x (main_links w l))
        → Ok l w b Root Cov D p t (q + 1) [] u → Ok l w b Root Cov' D p t q [] (traverse_main_thread (ops l) l u).1
    main_ok {Cov'} p t q u reach cov c =
        subst (λ x. Ok l w b Root Cov' D p t q [] x) (sym (ap (λ (x : ℕ × List ℕ). x.1) (main_traversed l ok a w long u c.marked)))
        (again_ok p t q [] Main (marks l (main_links w l) u) (λ e. omega (arith, e)) (inl refl)
        (marks_all l ok a am w b long (main_links w l) (give_ok (main_links w l) u reach cov c)))

    -- An item is taken off gray: what it stands for, if it is gray, is no more listed.
    module _ {p t q : ℕ} {u : List ℕ} (c : Ok l w b Root Cov D p t q [] u) (d : length_of l.gray u ≢ 0) where
      abbrev last : Item
      last = item_at l.gray (length_of l.gray u - 1) u

      abbrev rest : List ℕ
      rest = taken l.gray (length_of l.gray u - 1) u

      u_long : l.words ≤ length u
      u_long = whole_long l ok a am w long c.whole

      rest_is : (pop l.gray u).1 ≡ rest
      rest_is = ap (λ (x : Option Item × List ℕ). x.1) (pop_some l.gray u d)

      rest_marked : Marked l u rest
      rest_marked = moves_marked l ok a (popped (still refl) gray (sym rest_is)) u_long

      rest_shade : (x : Ref) → colour_w l x rest ≡ colour_w l x u
      rest_shade x = ap (λ (v : List ℕ). colour_w l x v) (sym rest_is) ∙ pop_shade l ok a gray u u_long x

      rest_again : (q : ℕ) → OnList l.grayagain q → at rest q ≡ at u q
      rest_again = subst (λ v. (q : ℕ) → OnList l.grayagain q → at v q ≡ at u q) rest_is (other_words l ok a gray grayagain tt u (pop l.gray u).1 (pop_only l ok a gray u u_long))

      -- it was listed because it is marked
      last_marked : (r : Ref) → Listed r.kind → item_for r ≡ last → 3 ≤ colour_w l r rest
      last_marked r s e = up_same (colour_w l r u) (colour_w l r rest) (c.todo r s (length_of l.gray u - 1, before (length_of l.gray u) d, sym (item_found l.gray (length_of l.gray u - 1) u (before (length_of l.gray u) d)) ∙ sym e)) (rest_shade r)
        where
          before : (n : ℕ) → n ≢ 0 → n - 1 < n
          before n d = omega (arith, d)

      pop_ok : Ok l w b Root Cov (λ x. D x ⊎ (Listed x.kind × (item_for x ≡ last))) (p + one (eqb (kind_of last) 5)) (t + one (eqb (kind_of last) 5)) (q + (one (eqb (kind_of last) 8) + one (eqb (kind_of last) 9))) [] rest
      pop_ok = record {
        marked = marked_then c.marked rest_marked;
        whole = pop_whole l ok a am w long c.whole d;
        inv = inv_same c.inv rest_shade;
        listed = λ r e. ⊎_elim
            (λ i. ⊎_elim (λ j. inl (i.0, j)) (λ j. inr (inr (i.0, j))) (pop_was l.gray u (gray_room_lem l u ok u_long) d (item_for r) i.1))
            (λ i. inr (inl i)) (c.listed r (sym (rest_shade r) ∙ e));
        todo = λ r i j. up_same (colour_w l r u) (colour_w l r rest) (c.todo r i (pop_old l.gray u (gray_room_lem l u ok u_long) d (item_for r) j)) (rest_shade r);
        kept = λ x i. again_up o rest_marked x (c.kept x (on_same l.grayagain x rest u (λ q j. sym (rest_again q j)) i));
      }

    -- What is done with an item that was taken off gray.
    item_ok : (p t q : ℕ) (x : Item) (u : List ℕ) → ((r : Ref) → Listed r.kind → item_for r ≡ x → 3 ≤ colour_w l r u)
        → Ok l w b Root Cov (λ y. D y ⊎ (Listed y.kind × (item_for y ≡ x))) (p + one (eqb (kind_of x) 5)) (t + one (eqb (kind_of x) 5)) (q + (one (eqb (kind_of x) 8) + one (eqb (kind_of x) 9))) [] u
        → Ok l w b Root Cov D p t (q + mains_due (propagate_item (ops l) l b x u).0) [] (propagate_item (ops l) l b x u).1
    unfolding propagate_item traverse_table traverse_closure traverse_thread
    item_ok p t q (Table r) u h c =
        let m = h (tab r) tt refl in
        chosen (λ (x : ℕ × List ℕ). Ok l w b Root Cov D p t (q + 0) [] x.1) (colour_w l (tab r) u) (64, u) (table_cost (body_at l.tables r.0) u, traverse_table_at (ops l) l b r u) m
        (table_ok p t (q + 0) r u m (less_ok (p + 1) (t + 1) (q + 0) (omega arith) (omega arith) (omega arith)
        (weaken_ok [] u (λ k i e. for_item _ k i) c)))
    item_ok p t q (Function r) u h c =
        let m = h (fun r) tt refl in
        chosen (λ (x : ℕ × List ℕ). Ok l w b Root Cov D p t (q + 0) [] x.1) (colour_w l (fun r) u) (48, u) (closure_cost (body_at l.functions r.0) u, traverse_closure_at (ops l) l r u) m
        (closure_ok p t (q + 0) r u m (less_ok p t (q + 0) (omega arith) (omega arith) (omega arith)
        (weaken_ok [] u (λ k i e. for_item _ k i) c)))
    item_ok p t q (Thread r) u h c =
        let m = h (thread r) tt refl in
        chosen (λ (x : ℕ × List ℕ). Ok l w b Root Cov D p t (q + 0) [] x.1) (colour_w l (thread r) u) (256, u) (thread_cost (body_at l.threads r.0) u, traverse_thread_at (ops l) l r u) m
        (thread_ok p t (q + 0) r u m (less_ok p t (q + 0 + 1) (omega arith) (omega arith) (omega arith)
        (weaken_ok [] u (λ k i e. for_item _ k i) c)))
    item_ok p t q Main u h c =
        less_ok p t (q + 1) (omega arith) (omega arith) (omega arith) (weaken_ok [] u (λ k i e. for_none _ k refl i) c)
    item_ok p t q (Userdata r) u h c =
        less_ok p t (q + 0) (omega arith) (omega arith) (omega arith) (weaken_ok [] u (λ k i e. for_none _ k refl i) c)
    item_ok p t q Unknown u h c =
        less_ok p t (q + 0) (omega arith) (omega arith) (omega arith) (weaken_ok [] u (λ k i e. for_none _ k refl i) c)

    -- One step of propagation,
    pub one_ok : (p t q : ℕ) (u : List ℕ) → Ok l w b Root Cov D p t q [] u → Ok l w b Root Cov D p t (q + mains_due (propagate_one (ops l) l b u).0) [] (propagate_one (ops l) l b u).1
    one_ok p t q u c = go (ℕ_discrete (length_of l.gray u) 0)
      where
        go : Dec (length_of l.gray u ≡ 0) → Ok l w b Root Cov D p t (q + mains_due (propagate_one (ops l) l b u).0) [] (propagate_one (ops l) l b u).1
        go (yes e) = subst (λ (x : Propagated × List ℕ). Ok l w b Root Cov D p t (q + mains_due x.0) [] x.1) (sym (one_empty l ok a b u e)) (less_ok p t (q + 0) (omega arith) (omega arith) (omega arith) c)
        go (no d) =
            subst (λ (x : Propagated × List ℕ). Ok l w b Root Cov D p t (q + mains_due x.0) [] x.1) (sym (one_some l ok a b u d))
            (item_ok p t q (item_at l.gray (length_of l.gray u - 1) u) (taken l.gray (length_of l.gray u - 1) u) (last_marked c d) (pop_ok c d))

    -- and so any number of them.
    pub for_ok : (n p t q : ℕ) (u : List ℕ) → Ok l w b Root Cov D p t q [] u → Ok l w b Root Cov D p t q [] (propagate_for (ops l) l b n u)
    unfolding propagate_for
    for_ok zero p t q u c = c
    for_ok (suc n) p t q u c =
        let d = less_ok p t q (omega arith) (omega arith) (omega arith) (one_ok p t q u c) in
        go (goes_on (propagate_one (ops l) l b u).0) d (for_ok n p t q (propagate_one (ops l) l b u).1 d)
      where
        go : (x : Bool) → Ok l w b Root Cov D p t q [] (propagate_one (ops l) l b u).1 → Ok l w b Root Cov D p t q [] (propagate_for (ops l) l b n (propagate_one (ops l) l b u).1)
            → Ok l w b Root Cov D p t q [] (cond x (propagate_for (ops l) l b n (propagate_one (ops l) l b u).1) (propagate_one (ops l) l b u).1)
        go true y z = z
        go false y z = y
