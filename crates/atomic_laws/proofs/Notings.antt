-- The weak list through a collection: from Pause to the flip. `w` are the words before the collection. Assumes nothing.
--     rooted_noted, advances_noted, marked_noted     the roots, any number of steps, the first part of the atomic phase
--     weak-back                 modes are the same before the collection and after separation
--     finished_noted            separation and what the due reach
--     weak_kept, kept_weak      the tables on the weak list are exactly the weak ones that are kept
use Rattle.std.specs.Prelude.{◌≡◌, refl, Option}
use Rattle.std.proofs.Math.Path.{sym, subst}
use Rattle.std.proofs.Common.{ap, ◌∙◌, inl, inr, ⊎_elim, arith}
use mathlib.Core.List.{List, [], ◌++◌}
use Prim.Native.Nat.{ℕ, zero, suc, ◌≤◌, ◌<◌}
use Rattle.std.proofs.Math.Decide.{dec_lt}
use Rattle.std.proofs.Math.ListN.{length}
use Rattle.base.specs.Ways.{le_yes}
use Rattle.base.specs.Loop.{run_keeps}
use Rattle.base.specs.Words.{at}
use Rattle.arena.specs.Slots.{used}
use Rattle.value.specs.declared.TableRef.{TableRef}
use Rattle.value.specs.declared.UdRef.{UdRef}
use Rattle.layout.specs.declared.Lay.{Lay}
use Rattle.layout.specs.Places.{WHITE}
use Rattle.lists.specs.declared.Item.{Item}
use Rattle.lists.specs.declared.Item.TheVariants.{Table, Function, Userdata, Thread, Main, Unknown}
use Rattle.lists.specs.Lists.{item_in, length_of, place, item_at, cleared}
use Rattle.lists.proofs.Laws.{item_found}
use Rattle.record.specs.Fields.{body_at}
use Rattle.record.specs.Tables.{table_meta}
use Rattle.run_record.specs.Threads.{thread_global}
use Rattle.laid.specs.Laid.{Laid}
use Rattle.mark.specs.Ops.{Ref, tab, thread, ud, gray, grayagain, weak}
use Rattle.mark.specs.Words.{colour_w, paint_w, ops}
use Rattle.mark.specs.Marking.{follow_userdata}
use Rattle.modes.specs.Modes.{is_weak, weak_mode}
use Rattle.run_walk.specs.Threads.{retraverse_thread_at, retraverse_thread}
use Rattle.run_walk.specs.MainThread.{mark_main}
use Rattle.propagate.specs.declared.Propagated.{Propagated}
use Rattle.propagate.specs.declared.Propagated.TheVariants.{Done, NeedMainThread, Empty}
use Rattle.propagate.specs.Propagation.{rounds, propagate_one, propagate_all}
use Rattle.links.specs.Links.{table_link, stack_links, main_links, root_links, userdata_links}
use Rattle.separate.specs.Separation.{of_userdata, separated, follow_due, mark_queued, mark_tmudata}
use Rattle.atomic.specs.Atomic.{again_item, again_listed, again_all, marked, finished}
use Rattle.link_laws.specs.Agrees.{table_same}
use Rattle.link_laws.specs.Reads.{Reads, weak_mode_same}
use Rattle.mark_laws.specs.Apart.{Apart, Order, order}
use Rattle.mark_laws.specs.Colours.{shade_parts}
use Rattle.mark_laws.specs.Moves.{still, pushed, emptied, paint_moves}
use Rattle.mark_laws.specs.Changes.{Marked, marked_none, marked_then, moves_marked}
use Rattle.mark_laws.specs.Stays.{never_falls}
use Rattle.mark_laws.specs.Marks.{marks, marks_moves}
use Rattle.mark_laws.specs.Follows.{userdata_links_lem}
use Rattle.mark_laws.specs.RunLinks.{again_links}
use Rattle.mark_laws.specs.MainLinks.{main_links_lem}
use Rattle.mark_laws.specs.RootLinks.{roots_links}
use Rattle.mark_laws.specs.Propagates.{choice}
use Rattle.mark_laws.specs.Starts.{cleared_empty}
use Rattle.room_laws.specs.Pends.{item_for}
use Rattle.room_laws.specs.Tallies.{Ample}
use Rattle.room_laws.specs.Frames.{other_words, other_same, push_only, cleared_only}
use Rattle.room_laws.proofs.Payments.{whole_long}
use Rattle.room_laws.proofs.Queues.{held_list}
use Rattle.reach.specs.Reached.{Root}
use Rattle.reach.specs.Cycle.{AllWhite, rooted, advanced, advances}
use Rattle.reach.specs.OnLists.{On, on_same, on_none}
use Rattle.reach.specs.Shades.{cleared_shade}
use Rattle.reach.specs.Oks.{Again, Ok}
use Rattle.reach.proofs.Traversals.{one_ok}
use Rattle.reach.specs.Exact.{None, First}
use Rattle.reach.proofs.Exact.{empty, empty_marked, empty_long, v, first_white, advanced_ok, again_listed_ok, mained_ok, walked_ok}
use Rattle.atomic_laws.specs.Kept.{Kept, is_weak_table}
use Rattle.atomic_laws.specs.Bodies.{Bodies, shade_held, flags_reads, marked_reads}
use Rattle.atomic_laws.specs.Separates.{Sorted}
use Rattle.atomic_laws.proofs.Dues.{sorted}
use Rattle.atomic_laws.proofs.Finishes.{queued_ok, finished_ok, finished_exact}
use Rattle.atomic_laws.specs.Notes.{Noted, frame_noted, paint_noted, marks_noted, one_noted, main_noted, for_noted}

module _ (l : Lay) (ok : Laid l) (a : Apart l) (am : Ample l) (w b : List ℕ) (long : l.words ≤ length w) where
  abbrev o : Order l
  o = order l ok a

  -- The roots are marked: the weak list is empty, and no table is black.
  pub rooted_noted : AllWhite l w → Noted l w b (rooted l w)
  rooted_noted f =
      subst (λ x. Noted l w b x) (sym (roots_links l ok a w long (empty l ok a am w b long f) (empty_marked l ok a am w b long f)))
      (marks_noted l ok a w b (root_links w l) y y_long (record {
        tables = λ x i. absurd (on_none l.weak x y ((other_same l ok a gray weak tt (empty l ok a am w b long f) y (push_only l ok a gray Main (empty l ok a am w b long f) (empty_long l ok a am w b long f))).0 ∙ (cleared_empty l ok a w long).2) i);
        noted = λ t h k. absurd (first_white l ok a am w b long f (tab t) (three (colour_w l (tab t) y) h));
      }))
    where
      y : List ℕ
      y = v l ok a am w b long f

      y_long : l.words ≤ length (v l ok a am w b long f)
      y_long =
          let m : Marked l (empty l ok a am w b long f) (v l ok a am w b long f) = moves_marked l ok a (pushed (still refl) gray Main refl) (empty_long l ok a am w b long f) in
          omega (arith, empty_long l ok a am w b long f, m.long)

      three : (c : ℕ) → 4 ≤ c → 3 ≤ c
      three c h = omega (arith, h)

  -- A step,
  advanced_noted : (x : Propagated × List ℕ) → Marked l w x.1 → Noted l w b x.1 → Noted l w b (advanced l x)
  advanced_noted (Done c, y) m n = n
  advanced_noted (NeedMainThread, y) m n = main_noted l ok a am w b long y m n
  advanced_noted (Empty, y) m n = n

  -- and any number of them.
  pub advances_noted : {Cov : Ref → Type 0} (k : ℕ) (u : List ℕ) → Ok l w b (Root l w b) Cov None 0 0 0 [] u → Noted l w b u → Noted l w b (advances l b k u)
  unfolding advances
  advances_noted zero u c n = n
  advances_noted (suc k) u c n =
      let d = one_ok l ok a am w b long 0 0 0 u c in
      advances_noted k (advanced l (propagate_one (ops l) l b u)) (advanced_ok l ok a am w b long (propagate_one (ops l) l b u) d)
      (advanced_noted (propagate_one (ops l) l b u) d.marked (one_noted l ok a am w b long 0 0 0 u c n))

  -- An item of grayagain is the main thread or a thread: no table becomes black.
  again_item_noted : (x : Item) (u : List ℕ) → Marked l w u → Again l x u → Noted l w b u → Noted l w b (again_item l b x u)
  unfolding again_item retraverse_thread
  again_item_noted x u m (inl e) n = subst (λ y. Noted l w b (again_item l b y u)) (sym e) n
  again_item_noted x u m (inr (r, e, h)) n =
      subst (λ y. Noted l w b (again_item l b y u)) (sym e)
      (choice (λ (y : List ℕ). Noted l w b y) (colour_w l (thread r) u) u (retraverse_thread_at (ops l) l r u) n
      (λ k. subst (λ y. Noted l w b y) (sym (again_links l ok a w long r u m k))
      (marks_noted l ok a w b rs (paint_w l (thread r) 4 u) (omega (arith, long, m.long, (moves_marked l ok a (paint_moves l (thread r) k (still refl)) (omega (arith, long, m.long))).long))
      (paint_noted l ok a w b (thread r) u (omega (arith, long, m.long)) k (omega arith) n))))
    where
      rs : List Ref
      rs = table_link (thread_global (body_at l.threads r.0) w) ++ stack_links w (body_at l.threads r.0)

  again_listed_noted : {R Cov : Ref → Type 0} (k : ℕ) (u : List ℕ) → Ok l w b R Cov None 0 0 0 [] u → Noted l w b u → Noted l w b (again_listed l b k u)
  unfolding again_listed again_item item_at
  again_listed_noted k u c n = go (dec_lt k (length_of l.grayagain u))
    where
      go : Dec (k < length_of l.grayagain u) → Noted l w b (again_item l b (item_at l.grayagain k u) u)
      go (yes h) = again_item_noted (item_at l.grayagain k u) u c.marked (c.kept (item_at l.grayagain k u) (k, h, sym (item_found l.grayagain k u h))) n
      go (no h) = subst (λ y. Noted l w b (again_item l b y u)) (le_yes (length_of l.grayagain u) k Unknown (item_in u (place l.grayagain k)) Unknown (omega (arith, h)) refl) n

  -- The first part of the atomic phase.
  pub marked_noted : (u : List ℕ) → Ok l w b (Root l w b) (First l w) None 0 0 0 [] u → Noted l w b u → Noted l w b (marked l b u)
  unfolding marked propagate_all again_all
  marked_noted u c n =
      for_noted l ok a am w b long (rounds l) 0 0 0 (cleared l.grayagain (again_all l b (mark_main (ops l) l u))) (walked_ok l ok a am w b long u c)
      (frame_noted l ok a w b (λ t. never_falls o (moves_marked l ok a (emptied (still refl) grayagain refl) x_long) (tab t)) (other_words l ok a grayagain weak tt x (cleared l.grayagain x) (cleared_only l ok a grayagain x x_long))
      (λ t h. subst (λ k. 4 ≤ k) (cleared_shade l ok a grayagain x x_long (tab t)) h) walk.1)
    where
      start : Noted l w b (mark_main (ops l) l u)
      start = subst (λ x. Noted l w b x) (sym (main_links_lem l ok a w long u c.marked)) (marks_noted l ok a w b (main_links w l) u (whole_long l ok a am w long c.whole) n)

      walk : Ok l w b (Root l w b) (Root l w b) None 0 0 0 [] (again_all l b (mark_main (ops l) l u)) × Noted l w b (again_all l b (mark_main (ops l) l u))
      walk =
          run_keeps (again_listed l b) (λ x. Ok l w b (Root l w b) (Root l w b) None 0 0 0 [] x × Noted l w b x) 0 (length_of l.grayagain (mark_main (ops l) l u)) (mark_main (ops l) l u) (omega arith)
          (λ j x h d. (again_listed_ok l ok a am w b long j x d.0, again_listed_noted j x d.0 d.1)) (mained_ok l ok a am w b long u c, start)

      x : List ℕ
      x = again_all l b (mark_main (ops l) l u)

      x_long : l.words ≤ length (again_all l b (mark_main (ops l) l u))
      x_long = whole_long l ok a am w long walk.0.whole

-- Separation and what the due reach. `u` are the words in which all that the roots reach is marked and nothing is gray.
module _ (l : Lay) (ok : Laid l) (a : Apart l) (am : Ample l) (y : Bodies l) (w b : List ℕ) (long : l.words ≤ length w) (f : AllWhite l w) (none : length_of l.queue w ≡ 0)
    (u : List ℕ) (c : Ok l w b (Root l w b) (Root l w b) None 0 0 0 [] u) (e : length_of l.gray u ≡ 0) (n : Noted l w b u) where
  abbrev ord : Order l
  ord = order l ok a

  abbrev z : List ℕ
  z = (separated l u).1

  s : Sorted l (at u WHITE) u (used l.userdata u) z
  s = sorted l ok a am y w b long f none u c e

  z_long : l.words ≤ length z
  z_long = omega (arith, whole_long l ok a am w long c.whole, s.held.long)

  -- The mode of a table is the same before the collection and after separation.
  mode_back : (t : TableRef) → t.0 < l.tables.slots → weak_mode l (table_meta (body_at l.tables t.0) z) z b ≡ weak_mode l (table_meta (body_at l.tables t.0) w) w b
  mode_back t h = step z u (flags_reads l ok a y s.held (omega arith) s.flags) ∙ step u w (marked_reads l ok a c.marked)
    where
      step : (x x' : List ℕ) → Reads l x' x → weak_mode l (table_meta (body_at l.tables t.0) x) x b ≡ weak_mode l (table_meta (body_at l.tables t.0) x') x' b
      step x x' r =
          ap (λ (m : Option TableRef). weak_mode l m x b) (table_same (r.tables t.0 h) (body_at l.tables t.0) (omega arith) (omega arith))
          ∙ weak_mode_same r b (table_meta (body_at l.tables t.0) x')

  -- a table that has a colour lies below the slots
  below_slots : (t : TableRef) (x : List ℕ) → 3 ≤ colour_w l (tab t) x → t.0 < l.tables.slots
  below_slots t x h = let p = shade_parts l.tables t.0 t.1 x (omega (arith, h)) in omega (arith, p.0)

  table_shade : (t : TableRef) → colour_w l (tab t) z ≡ colour_w l (tab t) u
  table_shade t = shade_held l ok a s.held (tab t) (omega arith)

  separated_noted : Noted l z b z
  separated_noted = record {
    tables = λ x i.
        let r = n.tables x (on_same l.weak x z u (λ q h. sym (held_list l ok a s.held weak q h)) i) in
        (r.0, r.1, ap is_weak (mode_back r.0 (below_slots r.0 u r.3)) ∙ r.2, subst (λ k. 3 ≤ k) (sym (table_shade r.0)) r.3);
    noted = λ t h k.
        let g : 4 ≤ colour_w l (tab t) u = subst (λ k. 4 ≤ k) (table_shade t) h in
        on_same l.weak (Table t) u z (held_list l ok a s.held weak) (n.noted t g (sym (ap is_weak (mode_back t (below_slots t u (three (colour_w l (tab t) u) g)))) ∙ k));
  }
    where
      three : (c : ℕ) → 4 ≤ c → 3 ≤ c
      three c h = omega (arith, h)

  -- What is queued is followed: no table becomes black.
  pub record Followed (x : List ℕ) : Type 0 where
    pub marked : Marked l z x
    pub noted : Noted l z b x

  due_noted : (r : UdRef) (x : List ℕ) → Followed x → Followed (follow_due l r x)
  unfolding follow_due
  due_noted r x d =
      choice (λ (t : List ℕ). Followed t) (colour_w l (ud r) x) x (follow_userdata (ops l) l r x) d
      (λ h. subst (λ t. Followed t) (sym (userdata_links_lem l ok a z z_long r x d.marked)) (after h))
    where
      x_long : l.words ≤ length x
      x_long = omega (arith, z_long, d.marked.long)

      after : 1 ≤ colour_w l (ud r) x → Followed (marks l (userdata_links z (body_at l.userdata r.0)) (paint_w l (ud r) 4 x))
      after h =
          let m : Marked l x (paint_w l (ud r) 4 x) = moves_marked l ok a (paint_moves l (ud r) h (still refl)) x_long in
          record {
            marked = marked_then d.marked (moves_marked l ok a (marks_moves l (userdata_links z (body_at l.userdata r.0)) (paint_moves l (ud r) h (still refl))) x_long);
            noted = marks_noted l ok a z b (userdata_links z (body_at l.userdata r.0)) (paint_w l (ud r) 4 x) (omega (arith, x_long, m.long)) (paint_noted l ok a z b (ud r) x x_long h (omega arith) d.noted);
          }

  queued_noted : Followed (mark_tmudata l z)
  unfolding mark_tmudata mark_queued of_userdata
  queued_noted = run_keeps (mark_queued l) Followed 0 (length_of l.queue z) z (omega arith) (λ j x h d. go (item_at l.queue j x) x d) (record { marked = marked_none; noted = separated_noted })
    where
      go : (t : Item) (x : List ℕ) → Followed x → Followed (of_userdata (λ r. follow_due l r x) x t)
      go (Userdata r) x d = due_noted r x d
      go (Table r) x d = d
      go (Function r) x d = d
      go (Thread r) x d = d
      go Main x d = d
      go Unknown x d = d

  finished_noted : Noted l z b (finished l b u).1
  unfolding finished propagate_all
  finished_noted = for_noted l ok a am z b z_long (rounds l) 0 0 0 (mark_tmudata l z) (queued_ok l ok a am y w b long f none u c e) queued_noted.noted

  -- The tables on the weak list before the flip are weak ones that are kept,
  pub weak_kept : (x : Item) → On l.weak x (finished l b u).1 → (t : TableRef) × (x ≡ Table t) × is_weak_table l w b t × Kept l w b (tab t) × (3 ≤ colour_w l (tab t) (finished l b u).1)
  weak_kept x i =
      let r = finished_noted.tables x i in
      (r.0, r.1, sym (ap is_weak (mode_back r.0 (below_slots r.0 (finished l b u).1 r.3))) ∙ r.2, (finished_exact l ok a am y w b long f none u c e (tab r.0)).0 r.3, r.3)

  -- and all of them.
  pub kept_weak : (t : TableRef) → Kept l w b (tab t) → is_weak_table l w b t → On l.weak (Table t) (finished l b u).1
  kept_weak t k h =
      let m = (finished_exact l ok a am y w b long f none u c e (tab t)).1 k in
      let d = finished_ok l ok a am y w b long f none u c e in
      finished_noted.noted t (black (colour_w l (tab t) (finished l b u).1) m (λ g. ⊎_elim (λ i. on_none l.gray (item_for (tab t)) (finished l b u).1 d.1 i.1) (λ i. i) (d.0.listed (tab t) g)))
      (ap is_weak (mode_back t (below_slots t (finished l b u).1 m)) ∙ h)
    where
      black : (c : ℕ) → 3 ≤ c → (c ≡ 3 → ⊥) → 4 ≤ c
      black c h d = omega (arith, h, d)
