-- Propagation ends: a step takes an item off the gray list and makes the words lighter, so after as many steps as are made
-- the gray list is empty, whatever the words hold. Assumes nothing.
--     push-lighter                     a push onto grayagain or weak makes nothing heavier
--     table_lighter, closure_light, thread_lighter, item_lighter     the traversals
--     one_empty, one-less              one step: nothing is gray, or the words are lighter by one
--     for_empty, all_empty             enough steps leave nothing gray, and all of propagation has enough
use Rattle.std.specs.Prelude.{◌≡◌, Bool, cond, ◌≢◌, length, Option}
use Rattle.std.proofs.Math.Path.{refl, ap}
use Rattle.std.proofs.Common.{sym, subst, ◌∙◌, inl, arith}
use Rattle.std.proofs.Math.Bool.{true, false}
use mathlib.Core.List.{List}
use Prim.Native.Nat.{ℕ, zero, suc, min, ◌+◌, ◌-◌, ◌≤◌, ◌<◌}
use Rattle.std.proofs.Math.Decide.{ℕ_discrete}
use Rattle.value.specs.declared.TableRef.{TableRef}
use Rattle.value.specs.declared.FuncRef.{FuncRef}
use Rattle.value.specs.declared.ThreadRef.{ThreadRef}
use Rattle.layout.specs.declared.Lay.{Lay}
use Rattle.lists.specs.declared.Item.{Item}
use Rattle.lists.specs.declared.Item.TheVariants.{Table, Function, Userdata, Thread, Main, Unknown}
use Rattle.lists.specs.Lists.{length_of, item_at, push, taken, pop}
use Rattle.lists.proofs.Laws.{push_kept, pop_none, pop_some, pop_length}
use Rattle.record.specs.Fields.{body_at}
use Rattle.record.specs.Tables.{table_meta}
use Rattle.laid.specs.Laid.{Laid, gray_room_lem}
use Rattle.mark.specs.Ops.{tab, fun, thread, Work, gray, grayagain, weak}
use Rattle.mark.specs.Words.{list_of, colour_w, paint_w, ops}
use Rattle.modes.specs.declared.Mode.{Mode}
use Rattle.modes.specs.Modes.{is_weak, weak_mode}
use Rattle.table_walk.specs.Tables.{table_cost, list_weak, traverse_table_at, traverse_table}
use Rattle.run_walk.specs.Closures.{closure_cost, traverse_closure_at, traverse_closure}
use Rattle.run_walk.specs.Threads.{thread_cost, traverse_thread_at, traverse_thread}
use Rattle.propagate.specs.declared.Propagated.{Propagated}
use Rattle.propagate.specs.declared.Propagated.TheVariants.{Empty}
use Rattle.propagate.specs.Propagation.{goes_on, rounds, propagate_item, propagate_popped, propagate_one, propagate_for, propagate_all}
use Rattle.links.specs.Links.{table_link, entry_links, closure_links, thread_links}
use Rattle.mark_laws.specs.Apart.{Apart, Order, order}
use Rattle.mark_laws.specs.Moves.{still, pushed, popped}
use Rattle.mark_laws.specs.Changes.{Marked, marked_none, moves_marked, work_room}
use Rattle.mark_laws.specs.Marks.{marks}
use Rattle.mark_laws.specs.TableLinks.{table_links_lem}
use Rattle.mark_laws.specs.RunLinks.{closure_links_lem, thread_links_lem}
use Rattle.mark_laws.specs.Propagates.{choice, one_moves}
use Rattle.mark_laws.specs.Whites.{whites_of, whites_fall}
use Rattle.mark_laws.specs.Weights.{weight, weight_most, Lighter, lighter_then, Clean, clean_none, clean_then, black_clean, marks_clean}

-- one item fewer, and no more whites
lighter_by : (x y p q s t : ℕ) → x ≡ y → y ≤ p + q → p ≤ s → q ≡ t - 1 → t ≢ 0 → x + 1 ≤ s + t
lighter_by x y p q s t e f g h d = omega (arith, e, f, g, h, d)

module _ (l : Lay) (ok : Laid l) (a : Apart l) where
  abbrev o : Order l
  o = order l ok a

  -- A push onto a list other than gray leaves gray as it is.
  other_lighter : (k : Work) (x : Item) (w : List ℕ) → l.words ≤ length w → l.gray.count ≢ (list_of l k).count → l.gray.count < (list_of l k).base → Lighter l w (push (list_of l k) x w)
  other_lighter k x w long d h =
      let m : Marked l w (push (list_of l k) x w) = moves_marked l ok a (pushed (still refl) k x refl) long in
      let e : length_of l.gray (push (list_of l k) x w) ≡ length_of l.gray w =
      ap (λ (n : ℕ). min n l.gray.room) (push_kept (list_of l k) x w (work_room l ok a k w long) l.gray.count d (λ z. omega (arith, z, o.gray)) (inl h)) in
      record { marked = m; less = omega (arith, whites_fall m, e) }

  -- So a push onto grayagain makes nothing heavier,
  pub again_lighter : (x : Item) (w : List ℕ) → l.words ≤ length w → Lighter l w (push l.grayagain x w)
  again_lighter x w long = other_lighter grayagain x w long (λ z. omega (arith, z, o.gray, o.grayagain)) (omega (arith, o.gray, o.header, a))

  -- and one onto weak.
  pub weak_lighter : (x : Item) (w : List ℕ) → l.words ≤ length w → Lighter l w (push l.weak x w)
  weak_lighter x w long = other_lighter weak x w long (λ z. omega (arith, z, o.gray, o.weak)) (omega (arith, o.gray, o.header, a))

  list_weak_lighter : (d : Mode) (r : TableRef) (w : List ℕ) → l.words ≤ length w → Lighter l w (list_weak (ops l) d r w)
  unfolding list_weak
  list_weak_lighter d r w long = go (is_weak d)
    where
      go : (b : Bool) → Lighter l w (cond b (push l.weak (Table r) w) w)
      go true = weak_lighter (Table r) w long
      go false = clean_none.light

  module _ (u : List ℕ) (long : l.words ≤ length u) where
    -- The traversals make nothing heavier; that of a closure leaves the damage mark too.
    pub table_lighter : (b : List ℕ) (r : TableRef) → 1 ≤ colour_w l (tab r) u → Lighter l u (traverse_table_at (ops l) l b r u)
    table_lighter b r h =
        let p = body_at l.tables r.0 in
        let d = weak_mode l (table_meta p u) u b in
        let f = clean_then (black_clean l ok a (tab r) u long h) (marks_clean l ok a (table_link (table_meta p u)) (paint_w l (tab r) 4 u) (omega (arith, (black_clean l ok a (tab r) u long h).light.marked.long))) in
        let v = marks l (table_link (table_meta p u)) (paint_w l (tab r) 4 u) in
        let g = lighter_then f.light (list_weak_lighter d r v (omega (arith, f.light.marked.long))) in
        subst (λ x. Lighter l u x) (sym (table_links_lem l ok a u long b r u marked_none h))
        (lighter_then g (marks_clean l ok a (entry_links u d p) (list_weak (ops l) d r v) (omega (arith, g.marked.long))).light)

    -- A closure, which lists nothing, leaves the damage mark too.
    pub closure_light : (r : FuncRef) → 1 ≤ colour_w l (fun r) u → Clean l u (traverse_closure_at (ops l) l r u)
    closure_light r h =
        let f = black_clean l ok a (fun r) u long h in
        subst (λ x. Clean l u x) (sym (closure_links_lem l ok a u long r u marked_none h))
        (clean_then f (marks_clean l ok a (closure_links u l (body_at l.functions r.0)) (paint_w l (fun r) 4 u) (omega (arith, f.light.marked.long))))

    -- A thread, which is listed in grayagain.
    pub thread_lighter : (r : ThreadRef) → 1 ≤ colour_w l (thread r) u → Lighter l u (traverse_thread_at (ops l) l r u)
    thread_lighter r h =
        let f = black_clean l ok a (thread r) u long h in
        let t = thread_links u (body_at l.threads r.0) in
        let g = clean_then f (marks_clean l ok a t (paint_w l (thread r) 4 u) (omega (arith, f.light.marked.long))) in
        subst (λ x. Lighter l u x) (sym (thread_links_lem l ok a u long r u marked_none h))
        (lighter_then g.light (again_lighter (Thread r) (marks l t (paint_w l (thread r) 4 u)) (omega (arith, g.light.marked.long))))

    -- What is done with an item makes nothing heavier.
    pub item_lighter : (b : List ℕ) (x : Item) → Lighter l u (propagate_item (ops l) l b x u).1
    unfolding propagate_item traverse_table traverse_closure traverse_thread
    item_lighter b (Table r) =
        choice (λ (x : ℕ × List ℕ). Lighter l u x.1) (colour_w l (tab r) u) (64, u) (table_cost (body_at l.tables r.0) u, traverse_table_at (ops l) l b r u)
        clean_none.light (λ h. table_lighter b r h)
    item_lighter b (Function r) =
        choice (λ (x : ℕ × List ℕ). Lighter l u x.1) (colour_w l (fun r) u) (48, u) (closure_cost (body_at l.functions r.0) u, traverse_closure_at (ops l) l r u)
        clean_none.light (λ h. (closure_light r h).light)
    item_lighter b (Thread r) =
        choice (λ (x : ℕ × List ℕ). Lighter l u x.1) (colour_w l (thread r) u) (256, u) (thread_cost (body_at l.threads r.0) u, traverse_thread_at (ops l) l r u)
        clean_none.light (λ h. thread_lighter r h)
    item_lighter b Main = clean_none.light
    item_lighter b (Userdata r) = clean_none.light
    item_lighter b Unknown = clean_none.light

  -- an item never stops propagation
  item_goes : (b : List ℕ) (x : Item) (v : List ℕ) → goes_on (propagate_item (ops l) l b x v).0 ≡ true
  unfolding propagate_item
  item_goes b (Table r) v = refl
  item_goes b (Function r) v = refl
  item_goes b (Thread r) v = refl
  item_goes b Main v = refl
  item_goes b (Userdata r) v = refl
  item_goes b Unknown v = refl

  module _ (b u : List ℕ) where
    -- Where nothing is gray a step says so, and does nothing.
    pub one_empty : length_of l.gray u ≡ 0 → propagate_one (ops l) l b u ≡ (Empty, u)
    unfolding propagate_one
    one_empty h = ap (propagate_popped (ops l) l b) (pop_none l.gray u h)

    -- Else it takes the last item, and goes on with words that are lighter by one.
    pub one_some : length_of l.gray u ≢ 0 → propagate_one (ops l) l b u ≡ propagate_item (ops l) l b (item_at l.gray (length_of l.gray u - 1) u) (taken l.gray (length_of l.gray u - 1) u)
    unfolding propagate_one
    one_some d = ap (propagate_popped (ops l) l b) (pop_some l.gray u d)

    -- Then it goes on,
    pub one_goes : length_of l.gray u ≢ 0 → goes_on (propagate_one (ops l) l b u).0 ≡ true
    one_goes d = ap (λ (x : Propagated × List ℕ). goes_on x.0) (one_some d) ∙ item_goes b (item_at l.gray (length_of l.gray u - 1) u) (taken l.gray (length_of l.gray u - 1) u)

    -- and the words are lighter by one.
    pub one_less : l.words ≤ length u → length_of l.gray u ≢ 0 → weight l (propagate_one (ops l) l b u).1 + 1 ≤ weight l u
    one_less long d =
        let v = taken l.gray (length_of l.gray u - 1) u in
        let e : (pop l.gray u).1 ≡ v = ap (λ (x : Option Item × List ℕ). x.1) (pop_some l.gray u d) in
        let m : Marked l u v = moves_marked l ok a (popped (still refl) gray (sym e)) long in
        let n : length_of l.gray v ≡ length_of l.gray u - 1 = ap (length_of l.gray) (sym e) ∙ pop_length l.gray u (gray_room_lem l u ok long) in
        let f = item_lighter v (omega (arith, m.long)) b (item_at l.gray (length_of l.gray u - 1) u) in
        let s : weight l (propagate_one (ops l) l b u).1 ≡ weight l (propagate_item (ops l) l b (item_at l.gray (length_of l.gray u - 1) u) v).1 =
        ap (λ (x : Propagated × List ℕ). weight l x.1) (one_some d) in
        lighter_by (weight l (propagate_one (ops l) l b u).1) (weight l (propagate_item (ops l) l b (item_at l.gray (length_of l.gray u - 1) u) v).1) (whites_of l v) (length_of l.gray v) (whites_of l u) (length_of l.gray u) s f.less (whites_fall m) n d

  -- So as many steps as the words weigh leave nothing gray.
  pub for_empty : (b : List ℕ) (n : ℕ) (u : List ℕ) → l.words ≤ length u → weight l u ≤ n → length_of l.gray (propagate_for (ops l) l b n u) ≡ 0
  unfolding propagate_for
  for_empty b zero u long h = omega (arith, h)
  for_empty b (suc n) u long h =
      go (ℕ_discrete (length_of l.gray u) 0)
      (λ d. for_empty b n (propagate_one (ops l) l b u).1 (omega (arith, (moves_marked l ok a (one_moves l ok a b u long) long).long)) (omega (arith, h, one_less b u long d)))
    where
      go : Dec (length_of l.gray u ≡ 0) → (length_of l.gray u ≢ 0 → length_of l.gray (propagate_for (ops l) l b n (propagate_one (ops l) l b u).1) ≡ 0)
          → length_of l.gray (cond (goes_on (propagate_one (ops l) l b u).0) (propagate_for (ops l) l b n (propagate_one (ops l) l b u).1) (propagate_one (ops l) l b u).1) ≡ 0
      go (yes e) rest =
          ap (λ (x : Propagated × List ℕ). length_of l.gray (cond (goes_on x.0) (propagate_for (ops l) l b n x.1) x.1)) (one_empty b u e) ∙ e
      go (no d) rest =
          ap (λ (c : Bool). length_of l.gray (cond c (propagate_for (ops l) l b n (propagate_one (ops l) l b u).1) (propagate_one (ops l) l b u).1)) (one_goes b u d)
          ∙ rest d

  -- All of propagation leaves nothing gray, whatever the words held.
  pub all_empty : (b u : List ℕ) → l.words ≤ length u → length_of l.gray (propagate_all (ops l) l b u) ≡ 0
  unfolding propagate_all
  all_empty b u long = for_empty b (rounds l) u long (omega (arith, weight_most l u))
