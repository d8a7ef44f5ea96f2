-- What the definitions of the working lists mean. Assumes nothing.
--     pop_push, pop_push_back      pop after push gives the item back, and the words before
--     push_long, pop_long          the words stay as many
--     push_length, push_full_length, pop_length    a push makes the list one longer unless it is full, a pop one shorter
--     push_items                   a push leaves the items that are there
--     push_kept, pop_kept          no word outside the list's part, its count and the damage mark changes
--     push_unmarked, push_marked   within the room a push leaves the damage mark; onto a full list it sets the mark, and does no more
--     cleared_length, cleared_zero, cleared_kept     a cleared list has no item, and 0 where they were; no word outside changes
use Rattle.std.specs.Prelude.{◌≡◌, refl, List as Words, [], ◌∷◌, ◌≢◌, length, Some, None, Option}
use Rattle.std.proofs.Math.Path.{sym, ap}
use Rattle.std.proofs.Common.{◌∙◌, inl}
use Prim.Native.Nat.{ℕ, zero, suc, min, ◌+◌, ◌*◌, ◌-◌, ◌≤◌, ◌<◌}
use Rattle.std.proofs.Math.Decide.{dec_lt, ℕ_discrete}
use native.Mathlib.Omega.{arith}
use Rattle.std.proofs.Math.ListN.{length-set}
use Rattle.std.proofs.Math.Seq.{get_or-set_same, get_or-set_other, set-get_or, set-set}
use Rattle.base.specs.Ways.{if_eq, lt_yes, lt_no, le_no, eq_yes, eq_no}
use Rattle.base.specs.Loop.{run, run_turn, run_keeps}
use Rattle.base.specs.Words.{at, put, clear_one, clear}
use Rattle.value.specs.Values.{put3}
use Rattle.value.specs.Laws.{Outside, away, outer, put3_long, put3_kept, put3_past, put3_same, put3_over, put3_first, put3_second, put3_third}
use Rattle.layout.specs.declared.List.{List}
use Rattle.lists.specs.declared.Item.{Item}
use Rattle.lists.specs.declared.Item.TheVariants.{Table, Function, Userdata, Thread, Main, Unknown}
use Rattle.lists.specs.Lists.{damage, RoomFor, kind_of, index_of, generation_of, item_of, item_in, put_item, length_of, set_length, place, item_at, stored, push, taken, pop, cleared}
use Rattle.lists.specs.Laws.{Apart}

-- An item is its three words.
pub item_parts : (x : Item) → item_of (kind_of x) (index_of x) (generation_of x) ≡ x
unfolding item_of if_eq
item_parts (Table r) = refl
item_parts (Function r) = refl
item_parts (Userdata r) = refl
item_parts (Thread r) = refl
item_parts Main = refl
item_parts Unknown = refl

pub item_three : (p : ℕ) (w u : Words ℕ) → at w p ≡ at u p → at w (p + 1) ≡ at u (p + 1) → at w (p + 2) ≡ at u (p + 2) → item_in w p ≡ item_in u p
item_three p w u f s t = rw (f, s, t)

pub item_back : (p : ℕ) (x : Item) (w : Words ℕ) → p + 2 < length w → item_in (put_item p x w) p ≡ x
item_back p x w h =
    rw (put3_first p (kind_of x) (index_of x) (generation_of x) w h, put3_second p (kind_of x) (index_of x) (generation_of x) w h, put3_third p (kind_of x) (index_of x) (generation_of x) w h)
    (item_parts x)

pub item_found : (l : List) (i : ℕ) (w : Words ℕ) → i < length_of l w → item_at l i w ≡ item_in w (place l i)
unfolding item_at
item_found l i w h = sym (le_no _ _ _ _ _ h refl)

-- Item n is stored, and taken out.
module _ (l : List) (n : ℕ) (w : Words ℕ) (ok : RoomFor l w) (in-room : n < l.room) where
  count_out : Outside (place l n) 3 l.count
  count_out = inl (omega arith)

  pub taken_long : length (taken l n w) ≡ length w
  unfolding taken
  taken_long = length-set (put3 (place l n) 0 0 0 w) l.count n ∙ put3_long (place l n) 0 0 0 w

  pub taken_count : at (taken l n w) l.count ≡ n
  unfolding taken
  taken_count = get_or-set_same (put3 (place l n) 0 0 0 w) l.count n 0 (omega (arith, put3_long (place l n) 0 0 0 w))

  pub taken_kept : (q : ℕ) → q ≢ l.count → Outside (place l n) 3 q → at (taken l n w) q ≡ at w q
  unfolding taken
  taken_kept q d o = get_or-set_other (put3 (place l n) 0 0 0 w) l.count q n 0 d ∙ put3_kept (place l n) 0 0 0 w q o

  module _ (x : Item) where
    pub stored_long : length (stored l n x w) ≡ length w
    unfolding stored
    stored_long =
        length-set (put_item (place l n) x w) l.count (n + 1)
        ∙ put3_long (place l n) (kind_of x) (index_of x) (generation_of x) w

    pub stored_count : at (stored l n x w) l.count ≡ n + 1
    unfolding stored
    stored_count =
        get_or-set_same (put_item (place l n) x w) l.count (n + 1) 0
        (omega (arith, put3_long (place l n) (kind_of x) (index_of x) (generation_of x) w))

    pub stored_kept : (q : ℕ) → q ≢ l.count → Outside (place l n) 3 q → at (stored l n x w) q ≡ at w q
    unfolding stored
    stored_kept q d o =
        get_or-set_other (put_item (place l n) x w) l.count q (n + 1) 0 d
        ∙ put3_kept (place l n) (kind_of x) (index_of x) (generation_of x) w q o

    pub stored_item : item_in (stored l n x w) (place l n) ≡ x
    unfolding stored
    stored_item =
        item_three (place l n) (stored l n x w) (put_item (place l n) x w) (kept (place l n) (omega arith)) (kept (place l n + 1) (omega arith)) (kept (place l n + 2) (omega arith))
        ∙ item_back (place l n) x w (omega arith)
      where
        kept : (q : ℕ) → l.base ≤ q → at (stored l n x w) q ≡ at (put_item (place l n) x w) q
        kept q h = get_or-set_other (put_item (place l n) x w) l.count q (n + 1) 0 (λ e. omega (arith, ok.count))

    pub taken_stored : at w l.count ≡ n → taken l n (stored l n x w) ≡ put3 (place l n) 0 0 0 w
    unfolding taken stored
    taken_stored e =
        ap (set_length l n) (put3_past (place l n) 0 0 0 (put_item (place l n) x w) l.count (n + 1) count_out)
        ∙ set-set (put3 (place l n) 0 0 0 (put_item (place l n) x w)) l.count (n + 1) n
        ∙ ap (set_length l n) (put3_over (place l n) 0 0 0 w (kind_of x) (index_of x) (generation_of x))
        ∙ ap (λ (k : ℕ). set_length l k (put3 (place l n) 0 0 0 w)) (sym (put3_kept (place l n) 0 0 0 w l.count count_out ∙ e))
        ∙ set-get_or (put3 (place l n) 0 0 0 w) l.count 0

-- A push goes one of two ways.
module _ (l : List) (x : Item) (w : Words ℕ) where
  pub push_stored : length_of l w < l.room → push l x w ≡ stored l (length_of l w) x w
  unfolding push
  push_stored h = sym (lt_yes _ _ _ _ _ h refl)

  pub push_full : l.room ≤ length_of l w → push l x w ≡ put damage 1 w
  unfolding push
  push_full h = sym (lt_no _ _ _ _ _ h refl)

  pub push_marked : RoomFor l w → l.room ≤ length_of l w → at (push l x w) damage ≡ 1
  push_marked ok h = ap (λ (u : Words ℕ). at u damage) (push_full h) ∙ get_or-set_same w damage 1 0 ok.mark

  module _ (ok : RoomFor l w) where
    pub push_long : length (push l x w) ≡ length w
    push_long = go (dec_lt (length_of l w) l.room)
      where
        go : Dec (length_of l w < l.room) → length (push l x w) ≡ length w
        go (yes h) = ap length (push_stored h) ∙ stored_long l (length_of l w) w ok h x
        go (no h) = ap length (push_full (omega arith)) ∙ length-set w damage 1

    pub push_kept : (q : ℕ) → q ≢ l.count → q ≢ damage → Outside l.base (3 * l.room) q → at (push l x w) q ≡ at w q
    push_kept q d m o = go (dec_lt (length_of l w) l.room)
      where
        go : Dec (length_of l w < l.room) → at (push l x w) q ≡ at w q
        go (yes h) =
            ap (λ (u : Words ℕ). at u q) (push_stored h)
            ∙ stored_kept l (length_of l w) w ok h x q d (outer l.base (3 * l.room) q o (place l (length_of l w)) 3 (omega arith) (omega arith))
        go (no h) = ap (λ (u : Words ℕ). at u q) (push_full (omega arith)) ∙ get_or-set_other w damage q 1 0 m

    pub push_unmarked : Apart l → length_of l w < l.room → at (push l x w) damage ≡ at w damage
    push_unmarked a h =
        ap (λ (u : Words ℕ). at u damage) (push_stored h)
        ∙ stored_kept l (length_of l w) w ok h x damage (λ e. a.other (sym e)) (inl (omega (arith, a.below)))

    pub push_length : length_of l w < l.room → length_of l (push l x w) ≡ length_of l w + 1
    push_length h =
        ap (λ (u : Words ℕ). length_of l u) (push_stored h)
        ∙ ap (λ (k : ℕ). min k l.room) (stored_count l (length_of l w) w ok h x)
        ∙ omega arith

    pub push_full_length : Apart l → l.room ≤ length_of l w → length_of l (push l x w) ≡ length_of l w
    push_full_length a h =
        ap (λ (u : Words ℕ). length_of l u) (push_full h)
        ∙ ap (λ (k : ℕ). min k l.room) (get_or-set_other w damage l.count 1 0 a.other)

    pub push_items : Apart l → (i : ℕ) → i < length_of l w → item_in (push l x w) (place l i) ≡ item_in w (place l i)
    push_items a i b = go (dec_lt (length_of l w) l.room)
      where
        go : Dec (length_of l w < l.room) → item_in (push l x w) (place l i) ≡ item_in w (place l i)
        go (yes h) =
            ap (λ (u : Words ℕ). item_in u (place l i)) (push_stored h)
            ∙ item_three (place l i) (stored l (length_of l w) x w) w (kept (place l i) (omega arith) (omega arith)) (kept (place l i + 1) (omega arith) (omega arith)) (kept (place l i + 2) (omega arith) (omega arith))
          where
            kept : (q : ℕ) → l.base ≤ q → q < place l (length_of l w) → at (stored l (length_of l w) x w) q ≡ at w q
            kept q f g = stored_kept l (length_of l w) w ok h x q (λ e. omega (arith, ok.count)) (inl g)
        go (no h) =
            ap (λ (u : Words ℕ). item_in u (place l i)) (push_full (omega arith))
            ∙ item_three (place l i) (put damage 1 w) w (kept (place l i) (omega arith)) (kept (place l i + 1) (omega arith)) (kept (place l i + 2) (omega arith))
          where
            kept : (q : ℕ) → l.base ≤ q → at (put damage 1 w) q ≡ at w q
            kept q f = get_or-set_other w damage q 1 0 (λ e. omega (arith, a.below))

-- A pop goes one of two ways.
module _ (l : List) (w : Words ℕ) where
  pub pop_none : length_of l w ≡ 0 → pop l w ≡ (None, w)
  unfolding pop
  pop_none h = sym (eq_yes _ _ _ _ _ h refl)

  pub pop_some : length_of l w ≢ 0 → pop l w ≡ (Some (item_at l (length_of l w - 1) w), taken l (length_of l w - 1) w)
  unfolding pop
  pop_some h = sym (eq_no _ _ _ _ _ h refl)

  module _ (ok : RoomFor l w) where
    pub pop_length : length_of l (pop l w).1 ≡ length_of l w - 1
    pop_length = go (ℕ_discrete (length_of l w) 0)
      where
        go : Dec (length_of l w ≡ 0) → length_of l (pop l w).1 ≡ length_of l w - 1
        go (yes e) = ap (λ (r : Option Item × Words ℕ). length_of l r.1) (pop_none e) ∙ omega (arith, e)
        go (no d) =
            ap (λ (r : Option Item × Words ℕ). length_of l r.1) (pop_some d)
            ∙ ap (λ (k : ℕ). min k l.room) (taken_count l (length_of l w - 1) w ok (omega (arith, d)))
            ∙ omega (arith, d)

    pub pop_long : length (pop l w).1 ≡ length w
    pop_long = go (ℕ_discrete (length_of l w) 0)
      where
        go : Dec (length_of l w ≡ 0) → length (pop l w).1 ≡ length w
        go (yes e) = ap (λ (r : Option Item × Words ℕ). length r.1) (pop_none e)
        go (no d) =
            ap (λ (r : Option Item × Words ℕ). length r.1) (pop_some d)
            ∙ taken_long l (length_of l w - 1) w ok (omega (arith, d))

    pub pop_kept : (q : ℕ) → q ≢ l.count → Outside l.base (3 * l.room) q → at (pop l w).1 q ≡ at w q
    pop_kept q m o = go (ℕ_discrete (length_of l w) 0)
      where
        go : Dec (length_of l w ≡ 0) → at (pop l w).1 q ≡ at w q
        go (yes e) = ap (λ (r : Option Item × Words ℕ). at r.1 q) (pop_none e)
        go (no d) =
            ap (λ (r : Option Item × Words ℕ). at r.1 q) (pop_some d)
            ∙ taken_kept l (length_of l w - 1) w ok (omega (arith, d)) q m (outer l.base (3 * l.room) q o (place l (length_of l w - 1)) 3 (omega arith) (omega (arith, d)))

-- Pop after push: the item, and the words before, with 0 where the item was.
module _ (l : List) (x : Item) (w : Words ℕ) (ok : RoomFor l w) (h : length_of l w < l.room) where
  pub pop_push : pop l (push l x w) ≡ (Some x, put3 (place l (length_of l w)) 0 0 0 w)
  pop_push =
      ap (pop l) (push_stored l x w h)
      ∙ pop_some l s (λ e. omega (arith, long))
      ∙ ap (λ (k : ℕ). (Some (item_at l k s), taken l k s)) last
      ∙ rw (same, taken_stored l (length_of l w) w ok h x (omega arith))
    where
      s : Words ℕ
      s = stored l (length_of l w) x w

      long : length_of l s ≡ length_of l w + 1
      long = ap (λ (u : Words ℕ). length_of l u) (sym (push_stored l x w h)) ∙ push_length l x w ok h

      last : length_of l s - 1 ≡ length_of l w
      last = omega (arith, long)

      same : item_at l (length_of l w) s ≡ x
      same = item_found l (length_of l w) s (omega (arith, long)) ∙ stored_item l (length_of l w) w ok h x

  -- where the words past the end are 0, as every pop leaves them, these are the words before
  pub pop_push_back : at w (place l (length_of l w)) ≡ 0 → at w (place l (length_of l w) + 1) ≡ 0 → at w (place l (length_of l w) + 2) ≡ 0 → pop l (push l x w) ≡ (Some x, w)
  pop_push_back f g t = pop_push ∙ ap (λ (u : Words ℕ). (Some x, u)) (put3_same (place l (length_of l w)) 0 0 0 w f g t)

-- Clearing: no word outside changes, and the words stay as many.
clear_kept : (p n : ℕ) (w : Words ℕ) (q : ℕ) → Outside p n q → at (clear p n w) q ≡ at w q
unfolding clear
clear_kept p n w q o =
    run_keeps (clear_one p) (λ (t : Words ℕ). at t q ≡ at w q) 0 n w (omega arith)
    (λ j t h e. get_or-set_other t (p + j) q 0 0 (away p n q o (p + j) (omega arith) (omega arith)) ∙ e)
    refl

clear_long : (p n : ℕ) (w : Words ℕ) → length (clear p n w) ≡ length w
unfolding clear
clear_long p n w =
    run_keeps (clear_one p) (λ (t : Words ℕ). length t ≡ length w) 0 n w (omega arith)
    (λ j t h e. length-set t (p + j) 0 ∙ e)
    refl

-- a word that is 0 stays so, and each place that is cleared becomes 0
zero_kept : (w : Words ℕ) (p q : ℕ) → at w q ≡ 0 → at (put p 0 w) q ≡ 0
zero_kept [] p q e = refl
zero_kept (x ∷ w) zero zero e = refl
zero_kept (x ∷ w) zero (suc q) e = e
zero_kept (x ∷ w) (suc p) zero e = e
zero_kept (x ∷ w) (suc p) (suc q) e = zero_kept w p q e

zero_from : (d i e p q : ℕ) (w : Words ℕ) → e ≡ i + d → p + i ≤ q → q < p + e → q < length w → at (run (clear_one p) i e w) q ≡ 0
zero_from zero i e p q w h f g k = absurd (let z : ⊥ = omega arith in z)
zero_from (suc d) i e p q w h f g k =
    ap (λ (t : Words ℕ). at t q) (run_turn (clear_one p) i e w (omega arith))
    ∙ go (ℕ_discrete q (p + i)) (λ m. zero_from d (i + 1) e p q (clear_one p i w) (omega arith) m g (omega (arith, length-set w (p + i) 0)))
  where
    go : Dec (q ≡ p + i) → (p + (i + 1) ≤ q → at (run (clear_one p) (i + 1) e (clear_one p i w)) q ≡ 0) → at (run (clear_one p) (i + 1) e (clear_one p i w)) q ≡ 0
    go (yes m) rest =
        run_keeps (clear_one p) (λ (t : Words ℕ). at t q ≡ 0) (i + 1) e (clear_one p i w) (omega arith) (λ j t b z. zero_kept t (p + j) q z)
        (ap (λ (r : ℕ). at (clear_one p i w) r) m ∙ get_or-set_same w (p + i) 0 0 (omega arith))
    go (no m) rest = rest (omega arith)

module _ (l : List) (w : Words ℕ) (ok : RoomFor l w) where
  pub cleared_length : length_of l (cleared l w) ≡ 0
  unfolding cleared
  cleared_length =
      ap (λ (k : ℕ). min k l.room) (get_or-set_same (clear l.base (3 * length_of l w) w) l.count 0 0 (omega (arith, clear_long l.base (3 * length_of l w) w)))
      ∙ omega arith

  pub cleared_kept : (q : ℕ) → q ≢ l.count → Outside l.base (3 * length_of l w) q → at (cleared l w) q ≡ at w q
  unfolding cleared
  cleared_kept q d o =
      get_or-set_other (clear l.base (3 * length_of l w) w) l.count q 0 0 d
      ∙ clear_kept l.base (3 * length_of l w) w q o

  pub cleared_zero : (q : ℕ) → l.base ≤ q → q < l.base + 3 * length_of l w → at (cleared l w) q ≡ 0
  unfolding cleared clear
  cleared_zero q f g =
      zero_kept (clear l.base (3 * length_of l w) w) l.count q
      (zero_from (3 * length_of l w) 0 (3 * length_of l w) l.base q w (omega arith) (omega arith) g (omega (arith, ok.fits)))
