-- What is queued: a userdata put into the queue by its creation number is there, and so is what was there before, and no more.
-- Assumes nothing.
--     Shifted, shifted_does     items moved up by one, from a place on
--     queued_new, queued_old, queued_was     the new item, those before, and no other
--     queued_place              where each stands
--     queued_outside            nothing changes outside the queue
use Rattle.std.specs.Prelude.{◌≡◌, Bool, cond, ◌⊎◌, ◌≢◌, length}
use Rattle.std.proofs.Math.Path.{refl, sym}
use Rattle.std.proofs.Common.{ap, subst, ◌∙◌, inl, inr, arith}
use Rattle.std.proofs.Math.Bool.{true, false}
use mathlib.Core.List.{List}
use Prim.Native.Nat.{ℕ, zero, suc, min, ◌+◌, ◌-◌, ◌*◌, ◌≤◌, ◌<◌}
use Rattle.std.proofs.Math.Decide.{dec_lt, ℕ_discrete}
use Rattle.base.specs.Ways.{lt_yes}
use Rattle.base.specs.Words.{at}
use Rattle.value.specs.declared.UdRef.{UdRef}
use Rattle.value.specs.Laws.{Outside, outer, put3_long, put3_kept}
use Rattle.layout.specs.declared.Lay.{Lay}
use Rattle.lists.specs.declared.Item.{Item}
use Rattle.lists.specs.declared.Item.TheVariants.{Userdata}
use Rattle.lists.specs.Lists.{damage, kind_of, index_of, generation_of, item_in, length_of, place, item_at, put_item, push}
use Rattle.lists.proofs.Laws.{item_three, item_back, item_found, push_length, push_items, push_long, push_kept}
use Rattle.laid.specs.Laid.{Laid, queue_room_lem}
use Rattle.separate.specs.Separation.{creation_of, shifts, shifted, placed, queued}
use Rattle.mark_laws.specs.Apart.{Apart, Order, order}
use Rattle.room_laws.proofs.Queues.{queue_mark, shifted_below}
use Rattle.reach.specs.OnLists.{On}

module _ (l : Lay) (ok : Laid l) (a : Apart l) where
  abbrev o : Order l
  o = order l ok a

  -- an item stored elsewhere leaves one
  pub item_apart : (i j : ℕ) (x : Item) (w : List ℕ) → (i ≡ j → ⊥) → item_in (put_item (place l.queue j) x w) (place l.queue i) ≡ item_in w (place l.queue i)
  item_apart i j x w d = item_three (place l.queue i) (put_item (place l.queue j) x w) w (kept (place l.queue i) (omega arith) (omega arith)) (kept (place l.queue i + 1) (omega arith) (omega arith)) (kept (place l.queue i + 2) (omega arith) (omega arith))
    where
      out : (q : ℕ) → place l.queue i ≤ q → q < place l.queue i + 3 → Dec (i < j) → Outside (place l.queue j) 3 q
      out q f g (yes h) = inl (omega (arith, g, h))
      out q f g (no h) = inr (omega (arith, f, h, d))

      kept : (q : ℕ) → place l.queue i ≤ q → q < place l.queue i + 3 → at (put_item (place l.queue j) x w) q ≡ at w q
      kept q f g = put3_kept (place l.queue j) (kind_of x) (index_of x) (generation_of x) w q (out q f g (dec_lt i j))

  -- Items from m on, up to k, were moved up by one.
  pub record Shifted (k : ℕ) (w : List ℕ) (m : ℕ) (v : List ℕ) : Type 0 where
    pub low : m ≤ k
    pub before : (i : ℕ) → i < m → item_in v (place l.queue i) ≡ item_in w (place l.queue i)
    pub moved : (i : ℕ) → m ≤ i → i < k → item_in v (place l.queue (i + 1)) ≡ item_in w (place l.queue i)
    pub after : (i : ℕ) → k < i → item_in v (place l.queue i) ≡ item_in w (place l.queue i)

  pub shifted_does : (start c k : ℕ) (w : List ℕ) → l.words ≤ length w → k < length_of l.queue w → Shifted k w (shifted l start c k w).0 (shifted l start c k w).1
  unfolding shifted
  shifted_does start c zero w long h = record { low = omega arith; before = λ i f. refl; moved = λ i f g. absurd (let z : ⊥ = omega (arith, g) in z); after = λ i f. refl }
  shifted_does start c (suc k) w long h = go (shifts l start (suc k) c w) (shifted_does start c k w₁ (omega (arith, long, longer)) (subst (λ n. k < n) (sym same) (omega (arith, h))))
    where
      w₁ : List ℕ
      w₁ = put_item (place l.queue (suc k)) (item_at l.queue k w) w

      longer : length (put_item (place l.queue (suc k)) (item_at l.queue k w) w) ≡ length w
      longer = put3_long (place l.queue (suc k)) (kind_of (item_at l.queue k w)) (index_of (item_at l.queue k w)) (generation_of (item_at l.queue k w)) w

      same : length_of l.queue (put_item (place l.queue (suc k)) (item_at l.queue k w) w) ≡ length_of l.queue w
      same =
          ap (λ (n : ℕ). min n l.queue.room)
          (put3_kept (place l.queue (suc k)) (kind_of (item_at l.queue k w)) (index_of (item_at l.queue k w)) (generation_of (item_at l.queue k w)) w l.queue.count (inl (omega (arith, (queue_room_lem l w ok long).count))))

      here : item_in (put_item (place l.queue (suc k)) (item_at l.queue k w) w) (place l.queue (suc k)) ≡ item_in w (place l.queue k)
      here =
          item_back (place l.queue (suc k)) (item_at l.queue k w) w (omega (arith, long, h, (queue_room_lem l w ok long).fits))
          ∙ item_found l.queue k w (omega (arith, h))

      go : (d : Bool) → Shifted k (put_item (place l.queue (suc k)) (item_at l.queue k w) w) (shifted l start c k (put_item (place l.queue (suc k)) (item_at l.queue k w) w)).0 (shifted l start c k (put_item (place l.queue (suc k)) (item_at l.queue k w) w)).1
          → Shifted (suc k) w (cond d (shifted l start c k (put_item (place l.queue (suc k)) (item_at l.queue k w) w)) (suc k, w)).0 (cond d (shifted l start c k (put_item (place l.queue (suc k)) (item_at l.queue k w) w)) (suc k, w)).1
      go false s = record { low = omega arith; before = λ i f. refl; moved = λ i f g. absurd (let z : ⊥ = omega (arith, f, g) in z); after = λ i f. refl }
      go true s = record {
        low = omega (arith, s.low);
        before = λ i f. s.before i f ∙ item_apart i (suc k) (item_at l.queue k w) w (λ e. omega (arith, e, f, s.low));
        moved = λ i f g. move i f g (ℕ_discrete i k);
        after = λ i f. s.after i (omega (arith, f)) ∙ item_apart i (suc k) (item_at l.queue k w) w (λ e. omega (arith, e, f));
      }
        where
          move : (i : ℕ) → (shifted l start c k (put_item (place l.queue (suc k)) (item_at l.queue k w) w)).0 ≤ i → i < suc k → Dec (i ≡ k)
              → item_in (shifted l start c k (put_item (place l.queue (suc k)) (item_at l.queue k w) w)).1 (place l.queue (i + 1)) ≡ item_in w (place l.queue i)
          move i f g (yes e) =
              let n : i + 1 ≡ suc k = omega (arith, e) in
              ap (λ (j : ℕ). item_in (shifted l start c k (put_item (place l.queue (suc k)) (item_at l.queue k w) w)).1 (place l.queue j)) n
              ∙ s.after (suc k) (omega arith)
              ∙ here
              ∙ ap (λ (j : ℕ). item_in w (place l.queue j)) (sym e)
          move i f g (no d) = s.moved i f (omega (arith, g, d)) ∙ item_apart i (suc k) (item_at l.queue k w) w (λ e. omega (arith, e, g))

  -- and nothing outside the queue changes
  shifted_outside : (start c k : ℕ) (w : List ℕ) → k < l.queue.room → (q : ℕ) → Outside l.queue.base (3 * l.queue.room) q → at (shifted l start c k w).1 q ≡ at w q
  unfolding shifted
  shifted_outside start c zero w h q g = refl
  shifted_outside start c (suc k) w h q g =
      go (shifts l start (suc k) c w) (
      shifted_outside start c k (put_item (place l.queue (suc k)) (item_at l.queue k w) w) (omega (arith, h)) q g
      ∙ put3_kept (place l.queue (suc k)) (kind_of (item_at l.queue k w)) (index_of (item_at l.queue k w)) (generation_of (item_at l.queue k w)) w q
      (outer l.queue.base (3 * l.queue.room) q g (place l.queue (suc k)) 3 (omega arith) (omega (arith, h)))
      )
    where
      go : (d : Bool) → at (shifted l start c k (put_item (place l.queue (suc k)) (item_at l.queue k w) w)).1 q ≡ at w q
          → at (cond d (shifted l start c k (put_item (place l.queue (suc k)) (item_at l.queue k w) w)) (suc k, w)).1 q ≡ at w q
      go true z = z
      go false z = refl

  -- A userdata is queued where there is room.
  module _ (start : ℕ) (r : UdRef) (w : List ℕ) (long : l.words ≤ length w) (room : length_of l.queue w < l.queue.room) where
    abbrev pub n : ℕ
    n = length_of l.queue w

    abbrev pub v : List ℕ
    v = push l.queue (Userdata r) w

    abbrev pub m : ℕ
    m = (shifted l start (creation_of l r v) n v).0

    abbrev s : List ℕ
    s = (shifted l start (creation_of l r v) n v).1

    abbrev z : List ℕ
    z = put_item (place l.queue m) (Userdata r) s

    pub v_long : l.words ≤ length v
    v_long = omega (arith, long, push_long l.queue (Userdata r) w (queue_room_lem l w ok long))

    pub v_length : length_of l.queue v ≡ n + 1
    v_length = push_length l.queue (Userdata r) w (queue_room_lem l w ok long) room

    does : Shifted n v m s
    does = shifted_does start (creation_of l r v) n v v_long (less n (length_of l.queue v) v_length)
      where
        less : (x y : ℕ) → y ≡ x + 1 → x < y
        less x y e = omega (arith, e)

    queued_is : queued l start r w ≡ z
    unfolding queued placed
    queued_is = sym (lt_yes n l.queue.room (placed l start n r v) _ (placed l start n r v) room refl)

    s_long : length s ≡ length v
    s_long = (shifted_below l ok a start (creation_of l r v) n v).0

    z_length : length_of l.queue z ≡ n + 1
    z_length =
        ap (λ (k : ℕ). min k l.queue.room)
        (put3_kept (place l.queue m) 7 r.0 r.1 s l.queue.count (inl (omega (arith, (queue_room_lem l w ok long).count)))
        ∙ (shifted_below l ok a start (creation_of l r v) n v).1 l.queue.count (queue_room_lem l w ok long).count)
        ∙ v_length

    z_here : item_in z (place l.queue m) ≡ Userdata r
    z_here = item_back (place l.queue m) (Userdata r) s (omega (arith, does.low, room, (queue_room_lem l w ok long).fits, long, s_long, push_long l.queue (Userdata r) w (queue_room_lem l w ok long)))

    pub v_item : (i : ℕ) → i < n → item_in v (place l.queue i) ≡ item_in w (place l.queue i)
    v_item i h = push_items l.queue (Userdata r) w (queue_room_lem l w ok long) (queue_mark l ok a) i h

    -- Where it stands, and where those before do then.
    pub queued_length : length_of l.queue (queued l start r w) ≡ length_of l.queue w + 1
    queued_length = ap (length_of l.queue) queued_is ∙ z_length

    pub queued_place : (m ≤ n) × (item_in (queued l start r w) (place l.queue m) ≡ Userdata r)
        × ((i : ℕ) → i < m → item_in (queued l start r w) (place l.queue i) ≡ item_in w (place l.queue i))
        × ((i : ℕ) → m ≤ i → i < n → item_in (queued l start r w) (place l.queue (i + 1)) ≡ item_in w (place l.queue i))
    queued_place = (
      does.low,
      ap (λ (x : List ℕ). item_in x (place l.queue m)) queued_is ∙ z_here,
      (λ i f. ap (λ (x : List ℕ). item_in x (place l.queue i)) queued_is ∙ item_apart i m (Userdata r) s (λ e. omega (arith, e, f)) ∙ does.before i f ∙ v_item i (omega (arith, f, does.low))),
      (λ i f g. ap (λ (x : List ℕ). item_in x (place l.queue (i + 1))) queued_is ∙ item_apart (i + 1) m (Userdata r) s (λ e. omega (arith, e, f)) ∙ does.moved i f g ∙ v_item i g),
    )

    -- the new item is there
    pub queued_new : On l.queue (Userdata r) (queued l start r w)
    queued_new = subst (λ x. On l.queue (Userdata r) x) (sym queued_is) (m, in_length m n (length_of l.queue z) does.low z_length, z_here)
      where
        in_length : (x y t : ℕ) → x ≤ y → t ≡ y + 1 → x < t
        in_length x y t f e = omega (arith, f, e)

    -- those before are
    pub queued_old : (y : Item) → On l.queue y w → On l.queue y (queued l start r w)
    queued_old y (i, f, e) = subst (λ x. On l.queue y x) (sym queued_is) (go (dec_lt i m))
      where
        first : (x y t : ℕ) → x < y → t ≡ y + 1 → x < t
        first x y t f e = omega (arith, f, e)

        next : (x y t : ℕ) → x < y → t ≡ y + 1 → x + 1 < t
        next x y t f e = omega (arith, f, e)

        go : Dec (i < m) → On l.queue y z
        go (yes h) = (i, first i n (length_of l.queue z) f z_length, item_apart i m (Userdata r) s (λ d. omega (arith, d, h)) ∙ does.before i h ∙ v_item i f ∙ e)
        go (no h) =
            let g : m ≤ i = omega (arith, h) in
            (i + 1, next i n (length_of l.queue z) f z_length, item_apart (i + 1) m (Userdata r) s (λ d. omega (arith, d, g)) ∙ does.moved i g f ∙ v_item i f ∙ e)

    -- no other is
    pub queued_was : (y : Item) → On l.queue y (queued l start r w) → On l.queue y w ⊎ (y ≡ Userdata r)
    queued_was y i = go (subst (λ x. On l.queue y x) queued_is i)
      where
        go : On l.queue y z → On l.queue y w ⊎ (y ≡ Userdata r)
        go (i, f, e) = case (ℕ_discrete i m) (dec_lt i m)
          where
            within : (x y t : ℕ) → x < y → y ≤ t → x < t
            within x y t f g = omega (arith, f, g)

            back : (x y t p : ℕ) → x < t → t ≡ y + 1 → p < x → x - 1 < y
            back x y t p f e g = omega (arith, f, e, g)

            up : (x p : ℕ) → p < x → x ≡ x - 1 + 1
            up x p g = omega (arith, g)

            case : Dec (i ≡ m) → Dec (i < m) → On l.queue y w ⊎ (y ≡ Userdata r)
            case (yes d) h = inr (sym e ∙ ap (λ (k : ℕ). item_in z (place l.queue k)) d ∙ z_here)
            case (no d) (yes h) = inl (i, within i m n h does.low, sym (v_item i (within i m n h does.low)) ∙ sym (does.before i h) ∙ sym (item_apart i m (Userdata r) s d) ∙ e)
            case (no d) (no h) =
                let g : m < i = omega (arith, d, h) in
                let k : i - 1 < n = back i n (length_of l.queue z) m f z_length g in
                inl (i - 1, k, sym (v_item (i - 1) k) ∙ sym (does.moved (i - 1) (omega (arith, g)) k) ∙ ap (λ (j : ℕ). item_in s (place l.queue j)) (sym (up i m g)) ∙ sym (item_apart i m (Userdata r) s d) ∙ e)

    -- Nothing changes outside the queue and the damage mark.
    pub queued_outside : (q : ℕ) → q ≢ l.queue.count → q ≢ damage → Outside l.queue.base (3 * l.queue.room) q → at (queued l start r w) q ≡ at w q
    queued_outside q d e h =
        ap (λ (x : List ℕ). at x q) queued_is
        ∙ put3_kept (place l.queue m) 7 r.0 r.1 s q (outer l.queue.base (3 * l.queue.room) q h (place l.queue m) 3 (omega arith) (omega (arith, does.low, room)))
        ∙ shifted_outside start (creation_of l r v) n v room q h
        ∙ push_kept l.queue (Userdata r) w (queue_room_lem l w ok long) q d e h
