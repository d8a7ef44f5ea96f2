-- Separation queues by rising creation number, ties by rising index: from an empty queue, whatever order the slots stand in. `w` are the
-- words before it. The definitions are those of specs/Orders.antt. Assumes nothing.
--     creation_same        creation numbers are read from words outside the queue
--     stops                an item is put behind those that do not come after it, and before those that do
--     separated_ordered    separation leaves the queue so
use Rattle.std.specs.Prelude.{◌≡◌, Bool, cond, List, ◌⊎◌, ◌≢◌, length}
use Rattle.std.proofs.Math.Path.{refl, sym, ap, subst}
use Rattle.std.proofs.Common.{◌∙◌, true≢false, inl, inr, length-set, get_or-set_other}
use Rattle.std.proofs.Math.Bool.{true, false}
use Prim.Native.Nat.{ℕ, zero, suc, min, ◌+◌, ◌-◌, ◌*◌, ◌≤◌, ◌<◌}
use Rattle.std.proofs.Math.Decide.{ℕ_discrete, dec_lt}
use native.Mathlib.Omega.{arith}
use Rattle.std.proofs.Math.Dec.{ltb}
use borrow.Author.Tests.{ltb-true, ltb-false}
use Rattle.base.specs.Ways.{if_le, if_eq, eq_no, le_yes, le_no}
use Rattle.base.specs.Loop.{run}
use Rattle.base.specs.Words.{at, join}
use Rattle.arena.specs.Slots.{known, colour, set_colour, gen, used}
use Rattle.value.specs.declared.UdRef.{UdRef}
use Rattle.value.specs.Laws.{Outside, put3_long, put3_kept}
use Rattle.layout.specs.declared.Lay.{Lay}
use Rattle.layout.specs.Places.{WHITE}
use Rattle.lists.specs.declared.Item.{Item}
use Rattle.lists.specs.declared.Item.TheVariants.{Table, Function, Userdata, Thread, Main, Unknown}
use Rattle.lists.specs.Lists.{damage, kind_of, index_of, generation_of, item_in, length_of, place, item_at, put_item, push}
use Rattle.lists.proofs.Laws.{item_three, item_found, push_kept}
use Rattle.record.specs.Fields.{body_at}
use Rattle.record.specs.Userdata.{set_ud_finalized}
use Rattle.laid.specs.Laid.{Laid, userdata_words, queue_room_lem}
use Rattle.mark.specs.Ops.{ref}
use Rattle.mark.specs.Words.{shade}
use Rattle.separate.specs.Separation.{is_due, of_userdata, creation_of, creation_at, shifts, shifted, queued, enqueue, separate_slot, separated}
use Rattle.mark_laws.specs.Apart.{Apart, Order, order}
use Rattle.room_laws.specs.Tallies.{Ample}
use Rattle.room_laws.proofs.Walks.{run_along}
use Rattle.room_laws.proofs.Queues.{queue_count}
use Rattle.reach.specs.Shades.{shade_alike}
use Rattle.atomic_laws.specs.InQueue.{item_apart, v_item, v_long, v_length, queued_length, queued_place, queued_outside}
use Rattle.atomic_laws.specs.InQueue as queue
use Rattle.atomic_laws.specs.Bodies.{Bodies, body_next}
use Rattle.atomic_laws.specs.Separates.{handle, Sorted, due_same, slot_sorted, first_sorted}
use Rattle.atomic_laws.proofs.Dues.{shade_colour}
use Rattle.order_laws.specs.Orders.{created, Before, slot_of, Ordered}

-- what holds of a userdata's handle, or of none
of_same : {A : Type 0} (f g : UdRef → A) (x : A) → ((r : UdRef) → f r ≡ g r) → (y : Item) → of_userdata f x y ≡ of_userdata g x y
unfolding of_userdata
of_same f g x h (Userdata r) = h r
of_same f g x h (Table r) = refl
of_same f g x h (Function r) = refl
of_same f g x h (Thread r) = refl
of_same f g x h Main = refl
of_same f g x h Unknown = refl

module _ (l : Lay) (ok : Laid l) (a : Apart l) where
  abbrev o : Order l
  o = order l ok a

  -- Words that differ in the queue alone.
  abbrev Aside : List ℕ → List ℕ → Type 0
  Aside w u = (q : ℕ) → q ≢ 72 → q ≢ damage → Outside l.queue.base (3 * l.queue.room) q → at u q ≡ at w q

  past_queue : (q : ℕ) → l.boundary ≤ q → Outside l.queue.base (3 * l.queue.room) q
  past_queue q h = inr (omega (arith, h, a))

  created_same : (w u : List ℕ) (i : ℕ) → ((q : ℕ) → body_at l.userdata i + 4 ≤ q → q < body_at l.userdata i + 6 → at u q ≡ at w q) → created l u i ≡ created l w i
  created_same w u i s =
      ap (λ (n : ℕ). join n (at u (body_at l.userdata i + 4 + 1))) (s (body_at l.userdata i + 4) (omega arith) (omega arith))
      ∙ ap (λ (n : ℕ). join (at w (body_at l.userdata i + 4)) n) (s (body_at l.userdata i + 4 + 1) (omega arith) (omega arith))

  pub creation_same : (w u : List ℕ) → Aside w u → (r : UdRef) → creation_of l r u ≡ creation_of l r w
  unfolding creation_of
  creation_same w u s r =
      ap (λ (n : ℕ). if_eq n 0 0 (created l u r.0)) same_shade
      ∙ ap (λ (n : ℕ). if_eq (shade l.userdata r.0 r.1 w) 0 0 n) (created_same w u r.0 (λ q f g. s q (λ z. omega (arith, z, f, o.past_userdata, o.header, a)) (λ z. omega (arith, z, f, o.past_userdata, o.header, a)) (past_queue q (omega (arith, f, o.past_userdata)))))
    where
      low : (q : ℕ) → 73 ≤ q → q < l.queue.base → at u q ≡ at w q
      low q f g = s q (λ z. omega (arith, z, f)) (λ z. omega (arith, z, f)) (inl g)

      same_shade : shade l.userdata r.0 r.1 u ≡ shade l.userdata r.0 r.1 w
      same_shade =
          shade_alike l ok a w u (ref 4 r.0 r.1) (ap (λ (n : ℕ). min n l.userdata.slots) (low (l.userdata.top + 1) (omega (arith, o.top_userdata)) (omega (arith, o.top_userdata, o.header, a))))
          (λ i. low (l.userdata.base + l.userdata.slots + r.0) (omega (arith, o.header, a)) (omega (arith, i, a)))
          (λ i. low (l.userdata.base + r.0) (omega (arith, o.header, a)) (omega (arith, i, a)))

  -- the number of an item that stands in another place of the words
  at_same : (j : ℕ) (w u : List ℕ) → Aside w u → j < length_of l.queue w → j < length_of l.queue u → item_in u (place l.queue j) ≡ item_in w (place l.queue j) → creation_at l j u ≡ creation_at l j w
  unfolding creation_at
  at_same j w u s f g e =
      of_same (λ r. creation_of l r u) (λ r. creation_of l r w) 0 (creation_same w u s) (item_at l.queue j u)
      ∙ ap (λ (x : Item). of_userdata (λ r. creation_of l r w) 0 x) (item_found l.queue j u g ∙ e ∙ sym (item_found l.queue j w f))

  -- what the test says
  test_is : (start c k : ℕ) (w : List ℕ) → start < suc k → shifts l start (suc k) c w ≡ ltb c (creation_at l k w)
  unfolding shifts
  test_is start c k w h =
      let e : suc k - 1 ≡ k = omega arith in
      sym (le_no (suc k) start false (ltb c (creation_at l (suc k - 1) w)) (ltb c (creation_at l (suc k - 1) w)) h refl) ∙ ap (λ (n : ℕ). ltb c (creation_at l n w)) e

  shifts_true : (start c k : ℕ) (w : List ℕ) → shifts l start (suc k) c w ≡ true → c < creation_at l k w
  unfolding shifts
  shifts_true start c k w e = go (dec_lt start (suc k))
    where
      go : Dec (start < suc k) → c < creation_at l k w
      go (yes h) = ltb-true c (creation_at l k w) (sym (test_is start c k w h) ∙ e)
      go (no h) = absurd (true≢false (sym e ∙ sym (le_yes (suc k) start false _ false (omega (arith, h)) refl)))

  shifts_false : (start c k : ℕ) (w : List ℕ) → shifts l start (suc k) c w ≡ false → start < suc k → creation_at l (suc k - 1) w ≤ c
  shifts_false start c k w e h =
      let n : k ≡ suc k - 1 = omega arith in
      subst (λ j. creation_at l j w ≤ c) n (ltb-false c (creation_at l k w) (sym (test_is start c k w h) ∙ e))

  -- Items are moved up as long as they come after c: the one before the place that becomes free does not, and all that were moved do.
  pub stops : (start c k : ℕ) (w : List ℕ) → l.words ≤ length w → k < length_of l.queue w
      → (start < (shifted l start c k w).0 → creation_at l ((shifted l start c k w).0 - 1) w ≤ c) × ((i : ℕ) → (shifted l start c k w).0 ≤ i → i < k → c < creation_at l i w) × ((shifted l start c k w).0 ≤ k)
  unfolding shifted
  stops start c zero w long h = ((λ f. absurd (let z : ⊥ = omega (arith, f) in z)), (λ i f g. absurd (let z : ⊥ = omega (arith, g) in z)), omega arith)
  stops start c (suc k) w long h = go (shifts l start (suc k) c w) refl (stops start c k w₁ (omega (arith, long, longer)) (subst (λ n. k < n) (sym same) (omega (arith, h))))
    where
      x : Item
      x = item_at l.queue k w

      w₁ : List ℕ
      w₁ = put_item (place l.queue (suc k)) (item_at l.queue k w) w

      longer : length (put_item (place l.queue (suc k)) (item_at l.queue k w) w) ≡ length w
      longer = put3_long (place l.queue (suc k)) (kind_of (item_at l.queue k w)) (index_of (item_at l.queue k w)) (generation_of (item_at l.queue k w)) w

      kept : (q : ℕ) → Outside (place l.queue (suc k)) 3 q → at (put_item (place l.queue (suc k)) (item_at l.queue k w) w) q ≡ at w q
      kept q f = put3_kept (place l.queue (suc k)) (kind_of (item_at l.queue k w)) (index_of (item_at l.queue k w)) (generation_of (item_at l.queue k w)) w q f

      same : length_of l.queue (put_item (place l.queue (suc k)) (item_at l.queue k w) w) ≡ length_of l.queue w
      same = ap (λ (n : ℕ). min n l.queue.room) (kept l.queue.count (inl (omega (arith, (queue_room_lem l w ok long).count))))

      aside : Aside w (put_item (place l.queue (suc k)) (item_at l.queue k w) w)
      aside q f g (inl z) = kept q (inl (omega (arith, z)))
      aside q f g (inr z) = kept q (inr (omega (arith, z, room)))
        where
          room : suc k < l.queue.room
          room = omega (arith, h)

      number : (j : ℕ) → j < suc k → creation_at l j (put_item (place l.queue (suc k)) (item_at l.queue k w) w) ≡ creation_at l j w
      number j f =
          at_same j w (put_item (place l.queue (suc k)) (item_at l.queue k w) w) aside (omega (arith, f, h)) (subst (λ n. j < n) (sym same) (omega (arith, f, h)))
          (item_apart l ok a j (suc k) (item_at l.queue k w) w (λ z. omega (arith, z, f)))

      go : (d : Bool) → shifts l start (suc k) c w ≡ d
          → (start < (shifted l start c k (put_item (place l.queue (suc k)) (item_at l.queue k w) w)).0 → creation_at l ((shifted l start c k (put_item (place l.queue (suc k)) (item_at l.queue k w) w)).0 - 1) (put_item (place l.queue (suc k)) (item_at l.queue k w) w) ≤ c) × ((i : ℕ) → (shifted l start c k (put_item (place l.queue (suc k)) (item_at l.queue k w) w)).0 ≤ i → i < k → c < creation_at l i (put_item (place l.queue (suc k)) (item_at l.queue k w) w)) × ((shifted l start c k (put_item (place l.queue (suc k)) (item_at l.queue k w) w)).0 ≤ k)
          → let p = (cond d (shifted l start c k (put_item (place l.queue (suc k)) (item_at l.queue k w) w)) (suc k, w)).0 in
          (start < p → creation_at l (p - 1) w ≤ c) × ((i : ℕ) → p ≤ i → i < suc k → c < creation_at l i w) × (p ≤ suc k)
      go true e s = (
        (λ f. subst (λ n. n ≤ c) (number ((shifted l start c k (put_item (place l.queue (suc k)) (item_at l.queue k w) w)).0 - 1) (omega (arith, s.2))) (s.0 f)),
        (λ i f g. moved i f g (ℕ_discrete i k)),
        omega (arith, s.2),
      )
        where
          after : c < creation_at l k w
          after = shifts_true start c k w e

          moved : (i : ℕ) → (shifted l start c k (put_item (place l.queue (suc k)) (item_at l.queue k w) w)).0 ≤ i → i < suc k → Dec (i ≡ k) → c < creation_at l i w
          moved i f g (yes z) = subst (λ j. c < creation_at l j w) (sym z) after
          moved i f g (no z) = subst (λ n. c < n) (number i g) (s.1 i f (omega (arith, g, z)))
      go false e s = (shifts_false start c k w e, (λ i f g. absurd (let z : ⊥ = omega (arith, f, g) in z)), omega arith)

  module _ (am : Ample l) (y : Bodies l) (w : List ℕ) (long : l.words ≤ length w) (c : ℕ) where
    -- The number of a userdata that is queued is the one that it had.
    sorted_number : (k : ℕ) (u : List ℕ) → Sorted l c w k u → (i : ℕ) → i < k → i < used l.userdata w → is_due l i c w ≡ true → creation_of l (handle l w i) u ≡ created l w i
    unfolding creation_of if_le
    sorted_number k u s i f g d =
        sym (eq_no (shade l.userdata i (gen l.userdata i w) u) 0 0 (created l u i) (created l u i) there refl)
        ∙ created_same w u i (λ q x z. s.flags.past q (omega (arith, x, o.past_userdata)) (λ j n e. off j q x z (dec_lt i j) (dec_lt j i) e))
      where
        same_used : used l.userdata u ≡ used l.userdata w
        same_used = ap (λ (n : ℕ). min n l.userdata.slots) (s.held.kept (l.userdata.top + 1) (λ z. omega (arith, z, queue_count l ok, o.top_userdata)) (inl (omega (arith, o.top_userdata, o.header, a))) (omega (arith, o.top_userdata, o.header, a)))

        same_gen : gen l.userdata i u ≡ gen l.userdata i w
        same_gen = s.held.kept (l.userdata.base + l.userdata.slots + i) (λ z. omega (arith, z, queue_count l ok, o.header, a)) (inr (omega arith)) (omega (arith, g, a))

        three : colour l.userdata i u ≡ 3
        three = ap known (s.grayed i f d)

        there : shade l.userdata i (gen l.userdata i w) u ≢ 0
        there z = none (shade l.userdata i (gen l.userdata i w) u) (colour l.userdata i u) (shade_colour l.userdata i (gen l.userdata i w) u (omega (arith, g, same_used)) same_gen) three z
          where
            none : (n m : ℕ) → n ≡ m → m ≡ 3 → n ≡ 0 → ⊥
            none n m e f z = omega (arith, e, f, z)

        off : (j q : ℕ) → body_at l.userdata i + 4 ≤ q → q < body_at l.userdata i + 6 → Dec (i < j) → Dec (j < i) → q ≢ body_at l.userdata j + 6
        off j q x z (yes n) m e = omega (arith, e, z, body_next l.userdata 7 i j (userdata_words l ok) n)
        off j q x z (no n) (yes m) e = omega (arith, e, x, body_next l.userdata 7 j i (userdata_words l ok) m)
        off j q x z (no n) (no m) e =
            let t : i ≡ j = omega (arith, n, m) in
            omega (arith, e, z, ap (λ (k : ℕ). body_at l.userdata k) t)

    -- A slot that is due is queued: the queue stays in order.
    module _ (k : ℕ) (u : List ℕ) (h : k < used l.userdata w) (d : is_due l k c w ≡ true) (s : Sorted l c w k u) (s' : Sorted l c w (k + 1) (enqueue l 0 k u)) (ord : Ordered l w u) where
      abbrev u₁ : List ℕ
      u₁ = set_ud_finalized (body_at l.userdata k) true u

      abbrev u₂ : List ℕ
      u₂ = set_colour l.userdata k 3 u₁

      abbrev r : UdRef
      r = record { 0 = k; 1 = gen l.userdata k u₂ }

      within : k < l.userdata.slots
      within = omega (arith, h)

      u₂_long : l.words ≤ length u₂
      u₂_long = omega (arith, long, s.held.long, length-set u (body_at l.userdata k + 6) 1, length-set u₁ (l.userdata.base + k) 3)

      -- the two stores leave all but two words
      stored : (q : ℕ) → q ≢ l.userdata.base + k → q ≢ body_at l.userdata k + 6 → at u₂ q ≡ at u q
      stored q f g = get_or-set_other u₁ (l.userdata.base + k) q 3 0 f ∙ get_or-set_other u (body_at l.userdata k + 6) q 1 0 g

      off_queue : (q : ℕ) → (q ≡ 72) ⊎ ((l.queue.base ≤ q) × (q < l.boundary)) → at u₂ q ≡ at u q
      off_queue q (inl f) = stored q (λ z. omega (arith, z, f, o.header, a)) (λ z. omega (arith, z, f, o.past_userdata, o.header, a))
      off_queue q (inr f) = stored q (λ z. omega (arith, z, f.0, within, a)) (λ z. omega (arith, z, f.1, o.past_userdata))

      n_same : length_of l.queue u₂ ≡ length_of l.queue u
      n_same = ap (λ (n : ℕ). min n l.queue.room) (off_queue l.queue.count (inl (omega (arith, queue_count l ok))))

      room : length_of l.queue u₂ < l.queue.room
      room = fits (length_of l.queue u₂) (length_of l.queue u) l.queue.room n_same s.few am.queue
        where
          fits : (n m t : ℕ) → n ≡ m → m ≤ k → l.userdata.slots ≤ t → n < t
          fits n m t e f g = omega (arith, e, f, g, within)

      item_same : (i : ℕ) → i < length_of l.queue u → item_in u₂ (place l.queue i) ≡ item_in u (place l.queue i)
      item_same i f =
          item_three (place l.queue i) u₂ u (off_queue (place l.queue i) (inr (omega arith, omega (arith, f, a)))) (off_queue (place l.queue i + 1) (inr (omega arith, omega (arith, f, a))))
          (off_queue (place l.queue i + 2) (inr (omega arith, omega (arith, f, a))))

      -- where it stands
      abbrev m : ℕ
      m = queue.m l ok a 0 r u₂ u₂_long room

      abbrev v : List ℕ
      v = push l.queue (Userdata r) u₂

      is_queued : enqueue l 0 k u ≡ queued l 0 r u₂
      unfolding enqueue
      is_queued = refl

      -- creation numbers are read from outside the queue
      v_aside : Aside u₂ v
      v_aside q f g z = push_kept l.queue (Userdata r) u₂ (queue_room_lem l u₂ ok u₂_long) q (λ e. f (e ∙ queue_count l ok)) g z

      e_aside : Aside u₂ (queued l 0 r u₂)
      e_aside q f g z = queued_outside l ok a 0 r u₂ u₂_long room q (λ e. f (e ∙ queue_count l ok)) g z

      number : (x : UdRef) → creation_of l x v ≡ creation_of l x (enqueue l 0 k u)
      number x = creation_same u₂ v v_aside x ∙ sym (creation_same u₂ (queued l 0 r u₂) e_aside x) ∙ ap (λ (t : List ℕ). creation_of l x t) (sym is_queued)

      own : creation_of l r v ≡ created l w k
      own = number r ∙ ap (λ (g : ℕ). creation_of l (record { 0 = k; 1 = g }) (enqueue l 0 k u)) same_gen ∙ sorted_number (k + 1) (enqueue l 0 k u) s' k (omega arith) h d
        where
          same_gen : gen l.userdata k u₂ ≡ gen l.userdata k w
          same_gen =
              stored (l.userdata.base + l.userdata.slots + k) (λ z. omega (arith, z, within)) (λ z. omega (arith, z, within, o.past_userdata, a))
              ∙ s.held.kept (l.userdata.base + l.userdata.slots + k) (λ z. omega (arith, z, queue_count l ok, o.header, a)) (inr (omega arith)) (omega (arith, within, a))

      -- the items before
      old_item : (i : ℕ) → i < length_of l.queue u → (j : ℕ) × (j < k) × (is_due l j c w ≡ true) × (item_in u (place l.queue i) ≡ Userdata (handle l w j))
      old_item i f = s.only (item_in u (place l.queue i)) (i, f, refl)

      old_slot : (i : ℕ) → i < length_of l.queue u → slot_of l u i < k
      old_slot i f = let x = old_item i f in subst (λ j. j < k) (sym (ap index_of x.3)) x.1

      old_number : (i : ℕ) → i < length_of l.queue u → creation_at l i v ≡ created l w (slot_of l u i)
      unfolding creation_at of_userdata
      old_number i f =
          let x = old_item i f in
          let g : i < length_of l.queue u₂ = subst (λ n. i < n) (sym n_same) f in
          let j : i < length_of l.queue v = up (length_of l.queue v) (length_of l.queue u₂) (v_length l ok a 0 r u₂ u₂_long room) g in
          ap (λ (t : Item). of_userdata (λ r. creation_of l r v) 0 t) (item_found l.queue i v j ∙ v_item l ok a 0 r u₂ u₂_long room i g ∙ item_same i f ∙ x.3)
          ∙ number (handle l w x.0)
          ∙ sorted_number (k + 1) (enqueue l 0 k u) s' x.0 (omega (arith, x.1)) (omega (arith, x.1, h)) x.2
          ∙ ap (λ (t : ℕ). created l w t) (sym (ap index_of x.3))
        where
          up : (n p : ℕ) → n ≡ p + 1 → i < p → i < n
          up n p e g = omega (arith, e, g)

      stop : (0 < m → creation_at l (m - 1) v ≤ creation_of l r v) × ((i : ℕ) → m ≤ i → i < length_of l.queue u₂ → creation_of l r v < creation_at l i v) × (m ≤ length_of l.queue u₂)
      stop = stops 0 (creation_of l r v) (length_of l.queue u₂) v (v_long l ok a 0 r u₂ u₂_long room) (up (length_of l.queue v) (length_of l.queue u₂) (v_length l ok a 0 r u₂ u₂_long room))
        where
          up : (n p : ℕ) → n ≡ p + 1 → p < n
          up n p e = omega (arith, e)

      -- those before its place do not come after it, those behind do
      order_le : (i j : ℕ) → Before l w i j → created l w i ≤ created l w j
      order_le i j (inl f) = less (created l w i) (created l w j) f
        where
          less : (x z : ℕ) → x < z → x ≤ z
          less x z f = omega (arith, f)
      order_le i j (inr f) = equal (created l w i) (created l w j) f.0
        where
          equal : (x z : ℕ) → x ≡ z → x ≤ z
          equal x z f = omega (arith, f)

      in_old : (i : ℕ) → i < m → i < length_of l.queue u
      in_old i f = sums (length_of l.queue u₂) (length_of l.queue u) n_same f stop.2
        where
          sums : (x z : ℕ) → x ≡ z → i < m → m ≤ x → i < z
          sums x z e f g = omega (arith, e, f, g)

      low_le : (i : ℕ) → i < m → created l w (slot_of l u i) ≤ created l w k
      low_le i f = go (ℕ_discrete i (m - 1))
        where
          g : m - 1 < m
          g = omega (arith, f)

          last : created l w (slot_of l u (m - 1)) ≤ created l w k
          last = subst (λ n. n ≤ created l w k) (old_number (m - 1) (in_old (m - 1) g)) (subst (λ n. creation_at l (m - 1) v ≤ n) own (stop.0 (omega (arith, f))))

          then : (x z t : ℕ) → x ≤ z → z ≤ t → x ≤ t
          then x z t f g = omega (arith, f, g)

          go : Dec (i ≡ m - 1) → created l w (slot_of l u i) ≤ created l w k
          go (yes e) = subst (λ j. created l w (slot_of l u j) ≤ created l w k) (sym e) last
          go (no e) = then (created l w (slot_of l u i)) (created l w (slot_of l u (m - 1))) (created l w k) (order_le (slot_of l u i) (slot_of l u (m - 1)) (ord i (m - 1) (omega (arith, f, e)) (in_old (m - 1) g))) last

      low_before : (i : ℕ) → i < m → Before l w (slot_of l u i) k
      low_before i f = go (dec_lt (created l w (slot_of l u i)) (created l w k))
        where
          same : (x z : ℕ) → x ≤ z → (x < z → ⊥) → x ≡ z
          same x z f g = omega (arith, f, g)

          go : Dec (created l w (slot_of l u i) < created l w k) → Before l w (slot_of l u i) k
          go (yes g) = inl g
          go (no g) = inr (same (created l w (slot_of l u i)) (created l w k) (low_le i f) g, old_slot i (in_old i f))

      high_before : (i : ℕ) → m ≤ i → i < length_of l.queue u → Before l w k (slot_of l u i)
      high_before i f g = inl (subst (λ n. created l w k < n) (old_number i g) (subst (λ n. n < creation_at l i v) own (stop.1 i f (subst (λ n. i < n) (sym n_same) g))))

      abbrev E : List ℕ
      E = enqueue l 0 k u

      at_place : (m ≤ length_of l.queue u₂) × (item_in E (place l.queue m) ≡ Userdata r) × ((i : ℕ) → i < m → item_in E (place l.queue i) ≡ item_in u₂ (place l.queue i))
          × ((i : ℕ) → m ≤ i → i < length_of l.queue u₂ → item_in E (place l.queue (i + 1)) ≡ item_in u₂ (place l.queue i))
      at_place =
          subst (λ (t : List ℕ). (m ≤ length_of l.queue u₂) × (item_in t (place l.queue m) ≡ Userdata r) × ((i : ℕ) → i < m → item_in t (place l.queue i) ≡ item_in u₂ (place l.queue i))
          × ((i : ℕ) → m ≤ i → i < length_of l.queue u₂ → item_in t (place l.queue (i + 1)) ≡ item_in u₂ (place l.queue i))) (sym is_queued) (queued_place l ok a 0 r u₂ u₂_long room)

      -- the slots of the new queue
      slot_low : (i : ℕ) → i < m → slot_of l E i ≡ slot_of l u i
      slot_low i f = ap index_of (at_place.2 i f ∙ item_same i (in_old i f))

      slot_here : slot_of l E m ≡ k
      slot_here = ap index_of at_place.1

      slot_high : (i : ℕ) → m ≤ i → i < length_of l.queue u → slot_of l E (i + 1) ≡ slot_of l u i
      slot_high i f g = ap index_of (at_place.3 i f (subst (λ n. i < n) (sym n_same) g) ∙ item_same i g)

      e_length : length_of l.queue E ≡ length_of l.queue u + 1
      e_length = ap (length_of l.queue) is_queued ∙ queued_length l ok a 0 r u₂ u₂_long room ∙ ap (λ (n : ℕ). n + 1) n_same

      enqueue_ordered : Ordered l w (enqueue l 0 k u)
      enqueue_ordered i j f g = go (dec_lt i m) (ℕ_discrete i m) (dec_lt j m) (ℕ_discrete j m)
        where
          less : (n p : ℕ) → n ≡ p + 1 → j < n → m < j → j - 1 < p
          less n p e f g = omega (arith, e, f, g)

          last : m < j → j - 1 < length_of l.queue u
          last z = less (length_of l.queue E) (length_of l.queue u) e_length g z

          back : (i : ℕ) → m < i → i - 1 < length_of l.queue u → slot_of l E i ≡ slot_of l u (i - 1)
          back i z q = let e : i ≡ i - 1 + 1 = omega (arith, z) in ap (λ (t : ℕ). slot_of l E t) e ∙ slot_high (i - 1) (omega (arith, z)) q

          by : (i' j' : ℕ) → slot_of l E i ≡ i' → slot_of l E j ≡ j' → Before l w i' j' → Before l w (slot_of l E i) (slot_of l E j)
          by i' j' e q z = subst (λ x. Before l w x (slot_of l E j)) (sym e) (subst (λ x. Before l w i' x) (sym q) z)

          go : Dec (i < m) → Dec (i ≡ m) → Dec (j < m) → Dec (j ≡ m) → Before l w (slot_of l E i) (slot_of l E j)
          go (yes x) z (yes p) q = by _ _ (slot_low i x) (slot_low j p) (ord i j f (in_old j p))
          go (yes x) z (no p) (yes q) = by _ k (slot_low i x) (ap (λ (t : ℕ). slot_of l E t) q ∙ slot_here) (low_before i x)
          go (yes x) z (no p) (no q) = let t : m < j = omega (arith, p, q) in by _ _ (slot_low i x) (back j t (last t)) (ord i (j - 1) (omega (arith, x, t)) (last t))
          go (no x) (yes z) p q = let t : m < j = omega (arith, z, f) in by k _ (ap (λ (t : ℕ). slot_of l E t) z ∙ slot_here) (back j t (last t)) (high_before (j - 1) (omega (arith, t)) (last t))
          go (no x) (no z) p q =
              let t : m < i = omega (arith, x, z) in
              let b = last (omega (arith, t, f)) in
              by _ _ (back i t (omega (arith, f, t, b))) (back j (omega (arith, t, f)) b) (ord (i - 1) (j - 1) (omega (arith, t, f)) b)

    -- Slot by slot,
    turn_ordered : (k : ℕ) (x : ℕ × List ℕ) → k < used l.userdata w → Sorted l c w k x.1 × Ordered l w x.1 → Sorted l c w (k + 1) (separate_slot l 0 c k x).1 × Ordered l w (separate_slot l 0 c k x).1
    unfolding separate_slot
    turn_ordered k x h (s, ord) = let s' = slot_sorted l ok a am y w long c 0 k x h s in (s', go (is_due l k c x.1) refl s')
      where
        go : (d : Bool) → is_due l k c x.1 ≡ d → Sorted l c w (k + 1) (cond d (x.0 + 1, enqueue l 0 k x.1) x).1 → Ordered l w (cond d (x.0 + 1, enqueue l 0 k x.1) x).1
        go false e s' = ord
        go true e s' = enqueue_ordered k x.1 h (sym (due_same l ok a am y w long c k x.1 (omega (arith, h)) s) ∙ e) s s' ord

-- and all of them.
pub separated_ordered : (l : Lay) → Laid l → Apart l → Ample l → Bodies l → (w : List ℕ) → l.words ≤ length w → length_of l.queue w ≡ 0
    → Sorted l (at w WHITE) w (used l.userdata w) (separated l w).1 × Ordered l w (separated l w).1
unfolding separated
separated_ordered l ok a am y w long e =
    subst (λ (n : ℕ). Sorted l (at w WHITE) w (used l.userdata w) (run (separate_slot l n (at w WHITE)) 0 (used l.userdata w) (0, w)).1 × Ordered l w (run (separate_slot l n (at w WHITE)) 0 (used l.userdata w) (0, w)).1) (sym e)
    (run_along (separate_slot l 0 (at w WHITE)) (λ k x. Sorted l (at w WHITE) w k x.1 × Ordered l w x.1) 0 (used l.userdata w) (0, w) (omega arith)
    (λ k x h s. turn_ordered l ok a am y w long (at w WHITE) k x h s) (first_sorted l ok a am y w long (at w WHITE) e, λ i j f g. absurd (none (length_of l.queue w) j e g)))
  where
    none : (n j : ℕ) → n ≡ 0 → j < n → ⊥
    none n j e f = omega (arith, e, f)
