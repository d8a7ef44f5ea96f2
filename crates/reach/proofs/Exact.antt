-- Marked is reached. From a heap at Pause with every occupied slot in the current white: after the roots are marked, any number
-- of steps of propagation are made and the first part of the atomic phase is done (main thread, grayagain, all gray), the slots
-- that are not white are exactly those that the roots reach. Assumes nothing.
--     start_ok                 the roots are marked
--     advances_ok              any number of steps
--     tri_colour               then no black slot has a link that leads to a white one
--     marked_ok, marked_exact  the first part of the atomic phase: marked is reached
--     white_exact              the same of slots that are not white
use Rattle.std.specs.Prelude.{◌≡◌, refl, false, ◌↔◌, length}
use Rattle.std.proofs.Math.Path.{sym, ap, subst}
use Rattle.std.proofs.Common.{◌∙◌, inr, ⊎_elim, arith}
use mathlib.Core.List.Memᴰ
use mathlib.Core.List.{List, [], ◌++◌, Memᴰ}
use Rattle.std.proofs.Math.Logic.{inl}
use Prim.Native.Nat.{ℕ, zero, suc, ◌+◌, ◌≤◌, ◌<◌}
use Rattle.std.proofs.Math.Decide.{dec_lt}
use Rattle.std.proofs.lemmas.List.{set-get_or}
use Rattle.base.specs.Ways.{le_yes}
use Rattle.base.specs.Loop.{run_keeps}
use Rattle.base.specs.Words.{at, put}
use Rattle.value.specs.declared.ThreadRef.{ThreadRef}
use Rattle.layout.specs.declared.Lay.{Lay}
use Rattle.layout.specs.Places.{WHITE}
use Rattle.lists.specs.declared.Item.{Item}
use Rattle.lists.specs.declared.Item.TheVariants.{Main, Unknown}
use Rattle.lists.specs.Lists.{item_in, length_of, place, item_at, push, cleared}
use Rattle.lists.proofs.Laws.{item_found, cleared_length}
use Rattle.record.specs.Fields.{body_at}
use Rattle.run_record.specs.Threads.{thread_global, thread_hook}
use Rattle.laid.specs.Laid.{Laid, gray_room_lem, grayagain_room_lem}
use Rattle.mark.specs.Ops.{Ref, thread, gray, grayagain, weak, is_white}
use Rattle.mark.specs.Words.{colour_w, paint_w, ops}
use Rattle.run_walk.specs.Threads.{retraverse_thread_at, retraverse_thread}
use Rattle.run_walk.specs.MainThread.{mark_main}
use Rattle.propagate.specs.declared.Propagated.{Propagated}
use Rattle.propagate.specs.declared.Propagated.TheVariants.{Done, NeedMainThread, Empty}
use Rattle.propagate.specs.Propagation.{rounds, propagate_one, propagate_all}
use Rattle.propagate.specs.Roots.{clear_lists}
use Rattle.links.specs.Links.{value_links, table_link, stack_links, thread_links, main_links, root_links}
use Rattle.atomic.specs.Atomic.{again_item, again_listed, again_all, marked}
use Rattle.mark_laws.specs.Apart.{Apart, Order, order}
use Rattle.mark_laws.specs.Colours.{shade_parts, shade_most, white_false, not_white}
use Rattle.mark_laws.specs.Moves.{still, emptied, pushed}
use Rattle.mark_laws.specs.Changes.{Marked, marked_then, moves_marked}
use Rattle.mark_laws.specs.Marks.{marks}
use Rattle.mark_laws.specs.RunLinks.{again_links}
use Rattle.mark_laws.specs.MainLinks.{main_links_lem}
use Rattle.mark_laws.specs.RootLinks.{roots_links, cleared_moves}
use Rattle.mark_laws.specs.Kinds.{links_thread}
use Rattle.mark_laws.specs.Whites.{Listed}
use Rattle.mark_laws.specs.Ends.{all_empty}
use Rattle.mark_laws.specs.Starts.{cleared_empty}
use Rattle.room_laws.specs.Pends.{item_for}
use Rattle.room_laws.specs.Tallies.{Ample}
use Rattle.room_laws.specs.Frames.{other_words, other_same, mark_apart, push_only, cleared_only}
use Rattle.room_laws.proofs.Payments.{whole_long, cleared_whole}
use Rattle.room_laws.specs.Steps.{mains_due}
use Rattle.room_laws.proofs.Cycles.{listed_whole}
use Rattle.reach.specs.Reached.{Reach, Reach-root, Reach-step, Occupied, Link, Root, Reached}
use Rattle.reach.specs.Cycle.{AllWhite, rooted, advanced, advances}
use Rattle.reach.specs.Tri.{marked_iff_reached}
use Rattle.reach.specs.OnLists.{On, on_none, push_was}
use Rattle.reach.specs.Shades.{item_back, ref_of, push_shade, cleared_shade}
use Rattle.reach.specs.Oks.{Again, Ok}
use Rattle.reach.proofs.Oks.{marks_all}
use Rattle.reach.proofs.Traversals.{chosen, lists_ok, give_ok, less_ok, main_ok, one_ok, for_ok}
use Rattle.reach.specs.Exact.{None, First}

module _ (l : Lay) (ok : Laid l) (a : Apart l) (am : Ample l) (w b : List ℕ) (long : l.words ≤ length w) where
  abbrev o : Order l
  o = order l ok a

  -- Nothing gray, nothing to be marked: marked is reached.
  pub ok_exact : {R Cov : Ref → Type 0} {p t q : ℕ} {u : List ℕ} → ((r : Ref) → R r → Cov r) → length_of l.gray u ≡ 0 → Ok l w b R Cov None p t q [] u
      → (r : Ref) → (3 ≤ colour_w l r u) ↔ Reach (Link l w b) R (Occupied l w) r
  ok_exact {u = u} cov e c =
      marked_iff_reached c.inv cov (λ r g. ⊎_elim (λ i. on_none l.gray (item_for r) u e i.1) (λ i. i) (c.listed r g)) (λ r m. Memᴰ.not-nil m)

  -- No black slot has a link that leads to a white one.
  pub ok_tri : {R Cov D : Ref → Type 0} {p t q : ℕ} {u : List ℕ} → Ok l w b R Cov D p t q [] u → (r x : Ref) → colour_w l r u ≡ 4 → Link l w b r x → Occupied l w x → 3 ≤ colour_w l x u
  ok_tri {u = u} c r x e h k =
      ⊎_elim (λ g. absurd (four (colour_w l r u) e g)) (λ f. ⊎_elim (λ m. absurd (Memᴰ.not-nil m)) (λ m. m) (f x h k)) (c.inv.closed r (three (colour_w l r u) e))
    where
      four : (c : ℕ) → c ≡ 4 → c ≡ 3 → ⊥
      four c x y = omega (arith, x, y)

      three : (c : ℕ) → c ≡ 4 → 3 ≤ c
      three c e = omega (arith, e)

  -- The lists are emptied, the main thread is listed: nothing is marked yet.
  module _ (f : AllWhite l w) where
    abbrev pub empty : List ℕ
    empty = clear_lists (ops l) w

    pub empty_marked : Marked l w empty
    empty_marked = moves_marked l ok a (cleared_moves l (still refl)) long

    pub empty_long : l.words ≤ length empty
    empty_long = omega (arith, long, empty_marked.long)

    abbrev pub v : List ℕ
    v = push l.gray Main empty

    -- clearing and listing change no colour
    empty_shade : (r : Ref) → colour_w l r empty ≡ colour_w l r w
    unfolding clear_lists
    empty_shade r =
        let m₁ : Marked l w (cleared l.gray w) = moves_marked l ok a (emptied (still refl) gray refl) long in
        let m₂ : Marked l w (cleared l.grayagain (cleared l.gray w)) = moves_marked l ok a (emptied (emptied (still refl) gray refl) grayagain refl) long in
        cleared_shade l ok a weak (cleared l.grayagain (cleared l.gray w)) (omega (arith, long, m₂.long)) r
        ∙ cleared_shade l ok a grayagain (cleared l.gray w) (omega (arith, long, m₁.long)) r
        ∙ cleared_shade l ok a gray w long r

    pub first_shade : (r : Ref) → colour_w l r v ≡ colour_w l r w
    first_shade r = push_shade l ok a gray Main empty empty_long r ∙ empty_shade r

    -- nothing is marked yet
    pub first_white : (r : Ref) → 3 ≤ colour_w l r v → ⊥
    first_white r h = low (colour_w l r v) (colour_w l r w) (at w WHITE) h (first_shade r) (λ g. f.white r g) f.high
      where
        low : (c d n : ℕ) → 3 ≤ c → c ≡ d → (1 ≤ d → d ≡ n) → n ≤ 2 → ⊥
        low c d n h e g k = omega (arith, h, e, k, g (omega (arith, h, e)))

    none_listed : (r : Ref) → Listed r.kind → On l.gray (item_for r) v → ⊥
    none_listed r s i =
        ⊎_elim (λ j. on_none l.gray (item_for r) empty (cleared_empty l ok a w long).0 j)
        (λ j. subst (λ y. Listed y.kind) (sym (item_back r s) ∙ ap ref_of j) s)
        (push_was l.gray Main empty (gray_room_lem l empty ok empty_long) (mark_apart l ok a gray) room (item_for r) i)
      where
        small : (x y z : ℕ) → x ≡ 0 → z + 1 ≤ y → x < y
        small x y z e h = omega (arith, e, h)

        room : length_of l.gray (clear_lists (ops l) w) < l.gray.room
        room = small (length_of l.gray (clear_lists (ops l) w)) l.gray.room (l.tables.slots + l.functions.slots + l.threads.slots) (cleared_empty l ok a w long).0 am.gray

    -- The roots are to be marked.
    pub first_ok : Ok l w b (Root l w b) (First l w) None 0 0 0 (root_links w l) v
    first_ok = record {
      marked = marked_then empty_marked (moves_marked l ok a (pushed (still refl) gray Main refl) empty_long);
      whole = listed_whole l ok a am w long;
      inv = record {
        sound = λ r m. absurd (first_white r m);
        pend = λ r m k. Reach-root (Memᴰ.append_left (main_links w l) m) k;
        closed = λ r m. absurd (first_white r m);
        roots = λ r m k. inl m;
        occ = λ r. ((λ k. subst (λ c. 1 ≤ c) (sym (first_shade r)) k), (λ k. subst (λ c. 1 ≤ c) (first_shade r) k));
      };
      listed = λ r e. absurd (first_white r (three (colour_w l r v) e));
      todo = λ r s i. absurd (none_listed r s i);
      kept = λ x i. absurd (on_none l.grayagain x v ((other_same l ok a gray grayagain tt empty v (push_only l ok a gray Main empty empty_long)).0 ∙ (cleared_empty l ok a w long).1) i);
    }
      where
        three : (c : ℕ) → c ≡ 3 → 3 ≤ c
        three c e = omega (arith, e)

    -- The roots are marked.
    pub start_ok : Ok l w b (Root l w b) (First l w) None 0 0 0 [] (rooted l w)
    start_ok =
        subst (λ x. Ok l w b (Root l w b) (First l w) None 0 0 0 [] x) (sym (roots_links l ok a w long empty empty_marked))
        (marks_all l ok a am w b long (root_links w l) first_ok)

  -- the main thread's links are roots
  main_reach : (x : Ref) → Memᴰ x (main_links w l) → Occupied l w x → Reached l w b x
  main_reach x m k = Reach-root (Memᴰ.append_right (root_links w l) m) k

  -- A step during Propagate,
  pub advanced_ok : {Cov : Ref → Type 0} (x : Propagated × List ℕ) → Ok l w b (Root l w b) Cov None 0 0 (0 + mains_due x.0) [] x.1 → Ok l w b (Root l w b) Cov None 0 0 0 [] (advanced l x)
  advanced_ok (Done c, y) h = less_ok l ok a am w b long 0 0 0 (omega arith) (omega arith) (omega arith) h
  advanced_ok (NeedMainThread, y) h = main_ok l ok a am w b long 0 0 0 y main_reach (λ z m k. inl m) h
  advanced_ok (Empty, y) h = less_ok l ok a am w b long 0 0 0 (omega arith) (omega arith) (omega arith) h

  -- and any number of them.
  pub advances_ok : {Cov : Ref → Type 0} (n : ℕ) (u : List ℕ) → Ok l w b (Root l w b) Cov None 0 0 0 [] u → Ok l w b (Root l w b) Cov None 0 0 0 [] (advances l b n u)
  unfolding advances
  advances_ok zero u h = h
  advances_ok (suc n) u h = advances_ok n (advanced l (propagate_one (ops l) l b u)) (advanced_ok (propagate_one (ops l) l b u) (one_ok l ok a am w b long 0 0 0 u h))

  -- After them no black slot has a link that leads to a white one.
  pub tri_colour : AllWhite l w → (n : ℕ) (r x : Ref) → colour_w l r (advances l b n (rooted l w)) ≡ 4 → Link l w b r x → Occupied l w x → 3 ≤ colour_w l x (advances l b n (rooted l w))
  tri_colour f n r x e h k = ok_tri (advances_ok n (rooted l w) (start_ok f)) r x e h k

  -- to paint what is black changes nothing
  black_stays : (r : ThreadRef) (u : List ℕ) → 4 ≤ colour_w l (thread r) u → paint_w l (thread r) 4 u ≡ u
  black_stays r u h =
      let s = shade_parts l.threads r.0 r.1 u (omega (arith, h)) in
      ap (λ (c : ℕ). put (l.threads.base + r.0) c u) (four (colour_w l (thread r) u) (at u (l.threads.base + r.0)) h (shade_most l.threads r.0 r.1 u) s.2) ∙ set-get_or u (l.threads.base + r.0) 0
    where
      four : (c d : ℕ) → 4 ≤ c → c ≤ 4 → c ≡ d → 4 ≡ d
      four c d f g e = omega (arith, f, g, e)

  -- A thread on grayagain is followed once more: it is black already, and its links are links of a marked slot.
  module _ {R Cov : Ref → Type 0} {p t q : ℕ} where
    retraverse_ok : (r : ThreadRef) (u : List ℕ) → 4 ≤ colour_w l (thread r) u → Ok l w b R Cov None p t q [] u → Ok l w b R Cov None p t q [] (retraverse_thread (ops l) l r u)
    unfolding retraverse_thread thread_links
    retraverse_ok r u h c =
        chosen (λ (x : List ℕ). Ok l w b R Cov None p t q [] x) (colour_w l (thread r) u) u (retraverse_thread_at (ops l) l r u) marked_now
        (subst (λ x. Ok l w b R Cov None p t q [] x) (sym (again_links l ok a w long r u c.marked (omega (arith, h)) ∙ ap (marks l (G ++ S)) (black_stays r u h)))
        (marks_all l ok a am w b long (G ++ S) (give_ok l ok a am w b long (G ++ S) u reach (λ x m k. inl m) c)))
      where
        y : ℕ
        y = body_at l.threads r.0

        G : List Ref
        G = table_link (thread_global (body_at l.threads r.0) w)

        H : List Ref
        H = value_links (thread_hook (body_at l.threads r.0) w)

        S : List Ref
        S = stack_links w (body_at l.threads r.0)

        marked_now : 3 ≤ colour_w l (thread r) u
        marked_now = omega (arith, h)

        part : (x : Ref) → Memᴰ x (table_link (thread_global (body_at l.threads r.0) w) ++ stack_links w (body_at l.threads r.0)) → Memᴰ x (thread_links w (body_at l.threads r.0))
        part x m = ⊎_elim (λ i. Memᴰ.append_left S (Memᴰ.append_left H i)) (λ i. Memᴰ.append_right (G ++ H) i) (Memᴰ.append_cases G m)

        reach : (x : Ref) → Memᴰ x (table_link (thread_global (body_at l.threads r.0) w) ++ stack_links w (body_at l.threads r.0)) → Occupied l w x → Reach (Link l w b) R (Occupied l w) x
        reach x m k = Reach-step (c.inv.sound (thread r) marked_now) (subst (λ rs. Memᴰ x rs) (sym (links_thread w l b r)) (part x m)) k

    -- An item of grayagain,
    again_item_ok : (x : Item) (u : List ℕ) → Again l x u → Ok l w b R Cov None p t q [] u → Ok l w b R Cov None p t q [] (again_item l b x u)
    unfolding again_item
    again_item_ok x u (inl e) c = subst (λ y. Ok l w b R Cov None p t q [] (again_item l b y u)) (sym e) c
    again_item_ok x u (inr (r, e, h)) c = subst (λ y. Ok l w b R Cov None p t q [] (again_item l b y u)) (sym e) (retraverse_ok r u h c)

    pub again_listed_ok : (k : ℕ) (u : List ℕ) → Ok l w b R Cov None p t q [] u → Ok l w b R Cov None p t q [] (again_listed l b k u)
    unfolding again_listed again_item item_at
    again_listed_ok k u c = go (dec_lt k (length_of l.grayagain u))
      where
        go : Dec (k < length_of l.grayagain u) → Ok l w b R Cov None p t q [] (again_item l b (item_at l.grayagain k u) u)
        go (yes h) = again_item_ok (item_at l.grayagain k u) u (c.kept (item_at l.grayagain k u) (k, h, sym (item_found l.grayagain k u h))) c
        go (no h) = subst (λ y. Ok l w b R Cov None p t q [] (again_item l b y u)) (le_yes (length_of l.grayagain u) k Unknown (item_in u (place l.grayagain k)) Unknown (omega (arith, h)) refl) c

    -- and all of it.
    pub again_all_ok : (u : List ℕ) → Ok l w b R Cov None p t q [] u → Ok l w b R Cov None p t q [] (again_all l b u)
    unfolding again_all
    again_all_ok u c = run_keeps (again_listed l b) (λ x. Ok l w b R Cov None p t q [] x) 0 (length_of l.grayagain u) u (omega arith) (λ j x h d. again_listed_ok j x d) c

    -- Grayagain is emptied.
    cleared_ok : (u : List ℕ) → Ok l w b R Cov None p t q [] u → Ok l w b R Cov None p t q [] (cleared l.grayagain u)
    cleared_ok u c =
        lists_ok l ok a am w b long p t q p t q [] u (cleared l.grayagain u) (moves_marked l ok a (emptied (still refl) grayagain refl) u_long) (cleared_shade l ok a grayagain u u_long)
        (other_words l ok a grayagain gray tt u (cleared l.grayagain u) (cleared_only l ok a grayagain u u_long)) (cleared_whole l ok a am w long c.whole)
        (λ x i. absurd (on_none l.grayagain x (cleared l.grayagain u) (cleared_length l.grayagain u (grayagain_room_lem l u ok u_long)) i)) c
      where
        u_long : l.words ≤ length u
        u_long = whole_long l ok a am w long c.whole

  -- The first part of the atomic phase: with the main thread all roots are given.
  pub mained_ok : (u : List ℕ) → Ok l w b (Root l w b) (First l w) None 0 0 0 [] u → Ok l w b (Root l w b) (Root l w b) None 0 0 0 [] (mark_main (ops l) l u)
  mained_ok u c =
      subst (λ x. Ok l w b (Root l w b) (Root l w b) None 0 0 0 [] x) (sym (main_links_lem l ok a w long u c.marked))
      (marks_all l ok a am w b long (main_links w l) (give_ok l ok a am w b long (main_links w l) u main_reach (λ x m k. Memᴰ.append_cases (root_links w l) m) c))

  -- grayagain is followed, and emptied
  pub walked_ok : (u : List ℕ) → Ok l w b (Root l w b) (First l w) None 0 0 0 [] u → Ok l w b (Root l w b) (Root l w b) None 0 0 0 [] (cleared l.grayagain (again_all l b (mark_main (ops l) l u)))
  walked_ok u c = cleared_ok (again_all l b (mark_main (ops l) l u)) (again_all_ok (mark_main (ops l) l u) (mained_ok u c))

  -- Then all gray: the invariant is kept, and nothing is gray.
  pub marked_ok : (u : List ℕ) → Ok l w b (Root l w b) (First l w) None 0 0 0 [] u
      → Ok l w b (Root l w b) (Root l w b) None 0 0 0 [] (marked l b u) × (length_of l.gray (marked l b u) ≡ 0)
  unfolding marked propagate_all
  marked_ok u c =
      let d = walked_ok u c in
      let v = cleared l.grayagain (again_all l b (mark_main (ops l) l u)) in
      (for_ok l ok a am w b long (rounds l) 0 0 0 v d, all_empty l ok a b v (whole_long l ok a am w long d.whole))

  -- Marked is reached. After the roots are marked, any number of steps are made and the first part of the atomic phase is done,
  -- what is gray or black is exactly what the roots reach.
  pub marked_exact : AllWhite l w → (n : ℕ) (r : Ref) → (3 ≤ colour_w l r (marked l b (advances l b n (rooted l w)))) ↔ Reached l w b r
  marked_exact f n r =
      let d = marked_ok (advances l b n (rooted l w)) (advances_ok n (rooted l w) (start_ok f)) in
      ok_exact (λ x m. m) d.1 d.0 r

  -- The same of slots: of the occupied ones those that are not white are exactly the reached ones.
  pub white_exact : AllWhite l w → (n : ℕ) (r : Ref) → (Occupied l w r × (is_white (colour_w l r (marked l b (advances l b n (rooted l w)))) ≡ false)) ↔ Reached l w b r
  white_exact f n r =
      let u = marked l b (advances l b n (rooted l w)) in
      let d = marked_ok (advances l b n (rooted l w)) (advances_ok n (rooted l w) (start_ok f)) in
      let e = marked_exact f n r in (
        (λ h. e.0 (white_false (colour_w l r u) h.1 ((d.0.inv.occ r).0 h.0))),
        λ h.
            let m = e.1 h in
            ((d.0.inv.occ r).1 (one (colour_w l r u) m), not_white (colour_w l r u) (λ z. low (colour_w l r u) m z) (λ z. low_two (colour_w l r u) m z)),
      )
    where
      one : (c : ℕ) → 3 ≤ c → 1 ≤ c
      one c h = omega (arith, h)

      low : (c : ℕ) → 3 ≤ c → c ≡ 1 → ⊥
      low c h e = omega (arith, h, e)

      low_two : (c : ℕ) → 3 ≤ c → c ≡ 2 → ⊥
      low_two c h e = omega (arith, h, e)
