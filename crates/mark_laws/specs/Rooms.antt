-- The working lists stay within their rooms, and so propagation does not set the damage mark. Assumes nothing.
--     Roomy              each sum is at most the room of its list
--     item_spends, some_spends     what is done with an item; taking it off the gray list and doing it takes no room
--     one_spends, for_spends, spends_roomy, all_roomy     a step, n steps, all of propagation: within the rooms, and no damage
use Rattle.std.specs.Prelude.{◌≡◌, refl, Bool, cond, ◌≢◌, eqb, length, Option}
use Rattle.std.proofs.Common.{sym, ap, subst, ◌∙◌, inl, arith, eqb-true, eq-eqb}
use Rattle.std.proofs.Math.Bool.{true, false}
use mathlib.Core.List.{List}
use Prim.Native.Nat.{ℕ, zero, suc, min, ◌+◌, ◌-◌, ◌≤◌, ◌<◌}
use Rattle.std.proofs.Math.Decide.{ℕ_discrete}
use Rattle.base.specs.Words.{at}
use Rattle.layout.specs.declared.Lay.{Lay}
use Rattle.lists.specs.declared.Item.{Item}
use Rattle.lists.specs.declared.Item.TheVariants.{Table, Function, Userdata, Thread, Main, Unknown}
use Rattle.lists.specs.Lists.{damage, kind_of, item_in, length_of, place, item_at, taken, pop}
use Rattle.lists.proofs.Laws.{item_found, pop_some, pop_length, pop_kept}
use Rattle.lists.specs.Laws as lists
use Rattle.record.specs.Fields.{body_at}
use Rattle.laid.specs.Laid.{Laid, gray_room_lem}
use Rattle.mark.specs.Ops.{tab, fun, thread, gray, weak}
use Rattle.mark.specs.Words.{colour_w, ops}
use Rattle.table_walk.specs.Tables.{table_cost, traverse_table_at, traverse_table}
use Rattle.run_walk.specs.Closures.{closure_cost, traverse_closure_at, traverse_closure}
use Rattle.run_walk.specs.Threads.{thread_cost, traverse_thread_at, traverse_thread}
use Rattle.propagate.specs.declared.Propagated.{Propagated}
use Rattle.propagate.specs.Propagation.{goes_on, rounds, propagate_item, propagate_one, propagate_for, propagate_all}
use Rattle.mark_laws.specs.Apart.{Apart, Order, order}
use Rattle.mark_laws.specs.Moves.{still, popped}
use Rattle.mark_laws.specs.Changes.{Marked, moves_marked}
use Rattle.mark_laws.specs.Propagates.{choice}
use Rattle.mark_laws.specs.Whites.{whites_in, whites_of, fall, whites_fall}
use Rattle.mark_laws.specs.Items.{one, items_of, pop_counts, item_kind_lem}
use Rattle.mark_laws.specs.Weights.{weight, supply, Lighter, lighter_then, clean_none}
use Rattle.mark_laws.specs.Ends.{one_empty, one_some}
use Rattle.mark_laws.specs.Stocks.{stock_weak, stock_again, Spends, clean_spends, spends_then, le_le, spends_one, spends_again, table_spends, closure_spends, thread_spends}

-- Each sum is at most the room of its list.
pub record Roomy (l : Lay) (w : List ℕ) : Type 0 where
  pub gray : weight l w ≤ l.gray.room
  pub weak : stock_weak l w ≤ l.weak.room
  pub again : stock_again l w ≤ l.grayagain.room

module _ (l : Lay) (ok : Laid l) (a : Apart l) where
  abbrev o : Order l
  o = order l ok a

  module _ (u : List ℕ) (long : l.words ≤ length u) where
    -- What is done with an item: a table lists at most one weak, a thread one again, others none.
    pub item_spends : (b : List ℕ) (x : Item) → Spends l (one (eqb (kind_of x) 5)) (one (eqb (kind_of x) 8)) u (propagate_item (ops l) l b x u).1
    unfolding propagate_item traverse_table traverse_closure traverse_thread
    item_spends b (Table r) =
        choice (λ (x : ℕ × List ℕ). Spends l 1 0 u x.1) (colour_w l (tab r) u) (64, u) (table_cost (body_at l.tables r.0) u, traverse_table_at (ops l) l b r u)
        (spends_one l ok a u u (clean_spends clean_none)) (λ h. table_spends l ok a u long b r h)
    item_spends b (Function r) =
        choice (λ (x : ℕ × List ℕ). Spends l 0 0 u x.1) (colour_w l (fun r) u) (48, u) (closure_cost (body_at l.functions r.0) u, traverse_closure_at (ops l) l r u)
        (clean_spends clean_none) (λ h. closure_spends l ok a u long r h)
    item_spends b (Thread r) =
        choice (λ (x : ℕ × List ℕ). Spends l 0 1 u x.1) (colour_w l (thread r) u) (256, u) (thread_cost (body_at l.threads r.0) u, traverse_thread_at (ops l) l r u)
        (spends_again l ok a u u (clean_spends clean_none)) (λ h. thread_spends l ok a u long r h)
    item_spends b Main = clean_spends clean_none
    item_spends b (Userdata r) = clean_spends clean_none
    item_spends b Unknown = clean_spends clean_none

  -- An item taken off the gray list: its kind's sum is one less.
  module _ (u : List ℕ) (long : l.words ≤ length u) (d : length_of l.gray u ≢ 0) where
    abbrev last : Item
    last = item_at l.gray (length_of l.gray u - 1) u

    abbrev rest : List ℕ
    rest = taken l.gray (length_of l.gray u - 1) u

    rest_is : (pop l.gray u).1 ≡ rest
    rest_is = ap (λ (x : Option Item × List ℕ). x.1) (pop_some l.gray u d)

    rest_marked : Marked l u rest
    rest_marked = moves_marked l ok a (popped (still refl) gray (sym rest_is)) long

    rest_word : (q : ℕ) → q < 91 → q ≢ 69 → at rest q ≡ at u q
    rest_word q h n =
        ap (λ (x : List ℕ). at x q) (sym rest_is)
        ∙ pop_kept l.gray u (gray_room_lem l u ok long) q (λ e. omega (arith, e, n, o.gray)) (inl (omega (arith, h, o.header, a)))

    rest_light : Lighter l u rest
    rest_light =
        let n : length_of l.gray rest ≡ length_of l.gray u - 1 = ap (length_of l.gray) (sym rest_is) ∙ pop_length l.gray u (gray_room_lem l u ok long) in
        record { marked = rest_marked; less = sums (whites_of l rest) (whites_of l u) (length_of l.gray rest) (length_of l.gray u) (whites_fall rest_marked) n }
      where
        sums : (x y p q : ℕ) → x ≤ y → p ≡ q - 1 → x + p ≤ y + q
        sums x y p q f e = omega (arith, f, e)

    -- the kind of the item is the word that it is read from
    kind_one : (c : ℕ) → 1 ≤ c → one (eqb (kind_of last) c) ≤ one (eqb (at u (place l.gray (length_of l.gray u - 1))) c)
    kind_one c h = go (eqb (kind_of last) c) refl
      where
        up : (b : Bool) → b ≡ true → 1 ≤ one b
        up b e = subst (λ x. 1 ≤ one x) (sym e) (omega arith)

        go : (b : Bool) → eqb (kind_of last) c ≡ b → one b ≤ one (eqb (at u (place l.gray (length_of l.gray u - 1))) c)
        go false e = omega arith
        go true e =
            let i : length_of l.gray u - 1 < length_of l.gray u = omega (arith, d) in
            let f : kind_of (item_in u (place l.gray (length_of l.gray u - 1))) ≡ c = ap kind_of (sym (item_found l.gray (length_of l.gray u - 1) u i)) ∙ eqb-true (kind_of last) c e in
            up (eqb (at u (place l.gray (length_of l.gray u - 1))) c)
            (eq-eqb (at u (place l.gray (length_of l.gray u - 1))) c (item_kind_lem (at u (place l.gray (length_of l.gray u - 1))) (at u (place l.gray (length_of l.gray u - 1) + 1)) (at u (place l.gray (length_of l.gray u - 1) + 2)) c f h))

    freed : (k c n m : ℕ) → 1 ≤ c → n ≡ m → supply l k c rest + n + one (eqb (kind_of last) c) ≤ supply l k c u + m
    freed k c n m h e =
        sums (whites_in l k rest) (whites_in l k u) (items_of l.gray c rest) (items_of l.gray c u) n m (one (eqb (kind_of last) c)) (one (eqb (at u (place l.gray (length_of l.gray u - 1))) c))
        (fall rest_marked k) (pop_counts l.gray c u (gray_room_lem l u ok long) d) e (kind_one c h)
      where
        sums : (x y p q n m s t : ℕ) → x ≤ y → p + t ≡ q → n ≡ m → s ≤ t → x + p + n + s ≤ y + q + m
        sums x y p q n m s t f g e h = omega (arith, f, g, e, h)

    -- so a step that takes it and lists it, or not, spends nothing
    pub some_spends : (b : List ℕ) → Spends l 0 0 u (propagate_item (ops l) l b last rest).1
    some_spends b = record {
      light = lighter_then rest_light s.light;
      weak = back (stock_weak l v) (stock_weak l rest) (stock_weak l u) (one (eqb (kind_of last) 5)) s.weak w5;
      again = back (stock_again l v) (stock_again l rest) (stock_again l u) (one (eqb (kind_of last) 8)) s.again t8;
      whole = λ h f g.
          s.whole (le_le (weight l rest) (weight l u) l.gray.room rest_light.less h)
          (keep (stock_weak l rest + one (eqb (kind_of last) 5)) (stock_weak l u) l.weak.room w5 f)
          (keep (stock_again l rest + one (eqb (kind_of last) 8)) (stock_again l u) l.grayagain.room t8 g)
          ∙ rest_word damage (omega arith) (λ e. omega (arith, e));
    }
      where
        s : Spends l (one (eqb (kind_of last) 5)) (one (eqb (kind_of last) 8)) rest (propagate_item (ops l) l b last rest).1
        s = item_spends rest (omega (arith, long, rest_marked.long)) b last

        v : List ℕ
        v = (propagate_item (ops l) l b last rest).1

        w5 : stock_weak l rest + one (eqb (kind_of last) 5) ≤ stock_weak l u
        w5 = freed 1 5 (length_of l.weak rest) (length_of l.weak u) (omega arith) (ap (λ (n : ℕ). min n l.weak.room) (rest_word l.weak.count (omega (arith, o.weak)) (λ e. omega (arith, e, o.weak))))

        t8 : stock_again l rest + one (eqb (kind_of last) 8) ≤ stock_again l u
        t8 = freed 5 8 (length_of l.grayagain rest) (length_of l.grayagain u) (omega arith) (ap (λ (n : ℕ). min n l.grayagain.room) (rest_word l.grayagain.count (omega (arith, o.grayagain)) (λ e. omega (arith, e, o.grayagain))))

        back : (x y z p : ℕ) → x ≤ y + p → y + p ≤ z → x ≤ z + 0
        back x y z p f g = omega (arith, f, g)

        keep : (x y z : ℕ) → x ≤ y → y + 0 ≤ z → x ≤ z
        keep x y z f g = omega (arith, f, g)

  -- One step spends nothing,
  pub one_spends : (b u : List ℕ) → l.words ≤ length u → Spends l 0 0 u (propagate_one (ops l) l b u).1
  one_spends b u long = go (ℕ_discrete (length_of l.gray u) 0)
    where
      go : Dec (length_of l.gray u ≡ 0) → Spends l 0 0 u (propagate_one (ops l) l b u).1
      go (yes e) = subst (λ x. Spends l 0 0 u x) (sym (ap (λ (x : Propagated × List ℕ). x.1) (one_empty l ok a b u e))) (clean_spends clean_none)
      go (no d) = subst (λ x. Spends l 0 0 u x) (sym (ap (λ (x : Propagated × List ℕ). x.1) (one_some l ok a b u d))) (some_spends u long d b)

  -- and so do any number of steps.
  pub for_spends : (b : List ℕ) (n : ℕ) (u : List ℕ) → l.words ≤ length u → Spends l 0 0 u (propagate_for (ops l) l b n u)
  unfolding propagate_for
  for_spends b zero u long = clean_spends clean_none
  for_spends b (suc n) u long =
      let s = one_spends b u long in
      go (goes_on (propagate_one (ops l) l b u).0) s (spends_then l 0 0 0 0 s (for_spends b n (propagate_one (ops l) l b u).1 (omega (arith, s.light.marked.long))))
    where
      go : (c : Bool) → Spends l 0 0 u (propagate_one (ops l) l b u).1 → Spends l 0 0 u (propagate_for (ops l) l b n (propagate_one (ops l) l b u).1)
          → Spends l 0 0 u (cond c (propagate_for (ops l) l b n (propagate_one (ops l) l b u).1) (propagate_one (ops l) l b u).1)
      go true x y = y
      go false x y = x

  -- what spends nothing keeps the rooms, and marks no damage
  pub spends_roomy : {w u : List ℕ} → Spends l 0 0 w u → Roomy l w → Roomy l u × (at u damage ≡ at w damage)
  spends_roomy {w} {u} s r = (
    record {
      gray = le_le (weight l u) (weight l w) l.gray.room s.light.less r.gray;
      weak = keep (stock_weak l u) (stock_weak l w) l.weak.room s.weak r.weak;
      again = keep (stock_again l u) (stock_again l w) l.grayagain.room s.again r.again;
    },
    s.whole r.gray (none (stock_weak l w) l.weak.room r.weak) (none (stock_again l w) l.grayagain.room r.again),
  )
    where
      keep : (x y z : ℕ) → x ≤ y + 0 → y ≤ z → x ≤ z
      keep x y z f g = omega (arith, f, g)

      none : (x y : ℕ) → x ≤ y → x + 0 ≤ y
      none x y h = omega (arith, h)

  -- All of propagation keeps the lists within their rooms, and leaves the damage mark.
  pub all_roomy : (b u : List ℕ) → l.words ≤ length u → Roomy l u → Roomy l (propagate_all (ops l) l b u) × (at (propagate_all (ops l) l b u) damage ≡ at u damage)
  unfolding propagate_all
  all_roomy b u long r = spends_roomy (for_spends b (rounds l) u long) r
