-- The second part of the atomic phase: separation, and the marking of what the due reach. From an empty queue each userdata
-- is queued at most once, so the queue stays within its room. Assumes nothing.
--     held_then, held_none      words below the queue, but for its count and the colours of userdata
--     enqueue_held, separated_held     separation writes nothing else, and leaves the damage mark
--     held_roomy                the three other lists are then within their rooms as they were
--     queued_clean              marking what is queued is clean
use Rattle.std.specs.Prelude.{◌≡◌, refl, Bool, false, cond, ◌≢◌}
use Rattle.std.proofs.Common.{sym, ◌∙◌, inl, inr, arith, length-set, get_or-set_other}
use Rattle.std.proofs.Math.Path.{ap, subst}
use Rattle.std.proofs.Math.Bool.{true}
use mathlib.Core.List.{List}
use Prim.Native.Nat.{ℕ, zero, suc, min, ◌+◌, ◌≤◌, ◌<◌}
use Rattle.std.proofs.Math.Decide.{ℕ_discrete, dec_lt}
use Rattle.std.proofs.Math.ListN.{length}
use Rattle.base.specs.Ways.{lt_yes}
use Rattle.base.specs.Loop.{run_keeps}
use Rattle.base.specs.Words.{at}
use Rattle.arena.specs.Slots.{gen, used, set_colour}
use Rattle.value.specs.declared.UdRef.{UdRef}
use Rattle.value.specs.Laws.{Outside, put3_long, put3_kept}
use Rattle.layout.specs.declared.Lay.{Lay}
use Rattle.layout.specs.Places.{WHITE}
use Rattle.lists.specs.declared.Item.{Item}
use Rattle.lists.specs.declared.Item.TheVariants.{Table, Function, Userdata, Thread, Main, Unknown}
use Rattle.lists.specs.Lists.{damage, kind_of, index_of, generation_of, length_of, item_at, place, put_item, push}
use Rattle.lists.proofs.Laws.{push_long, push_kept, push_length, push_unmarked}
use Rattle.lists.specs.Laws as lists
use Rattle.record.specs.Fields.{body_at}
use Rattle.record.specs.Userdata.{set_ud_finalized}
use Rattle.laid.specs.Laid.{Laid, queue_room_lem}
use Rattle.mark.specs.Ops.{ud, Work, gray, grayagain, weak, is_white}
use Rattle.mark.specs.Words.{arena_of, list_of, colour_w, paint_w, ops}
use Rattle.mark.specs.Marking.{follow_userdata}
use Rattle.links.specs.Links.{userdata_links}
use Rattle.separate.specs.Separation.{is_due, of_userdata, creation_of, shifts, shifted, placed, queued, enqueue, separate_slot, separated, follow_due, mark_queued, mark_tmudata}
use Rattle.mark_laws.specs.Apart.{Apart, Order, order, arena_before, arena_kind}
use Rattle.mark_laws.specs.Moves.{still, paint_moves}
use Rattle.mark_laws.specs.Changes.{Marked, marked_none, moves_marked, colour_in}
use Rattle.mark_laws.specs.Follows.{userdata_links_lem}
use Rattle.mark_laws.specs.Propagates.{choice}
use Rattle.mark_laws.specs.Whites.{whites_to, whites_in}
use Rattle.mark_laws.specs.Items.{items_of}
use Rattle.mark_laws.specs.Weights.{Clean, clean_none, clean_then, black_clean, marks_clean}
use Rattle.mark_laws.specs.Rooms.{Roomy}
use Rattle.room_laws.specs.Tallies.{Ample}
use Rattle.room_laws.specs.Frames.{OnList, list_same}
use Rattle.room_laws.proofs.Walks.{run_along}
use Rattle.room_laws.specs.Queues.{Held}

-- one change after the other
pub held_then : {l : Lay} {w u v : List ℕ} → Held l w u → Held l u v → Held l w v
held_then f g = record { long = g.long ∙ f.long; kept = λ q d o h. g.kept q d o h ∙ f.kept q d o h }

pub held_none : {l : Lay} {w : List ℕ} → Held l w w
held_none = record { long = refl; kept = λ q d o h. refl }

-- The queue's count stands in word 72.
pub queue_count : (l : Lay) → Laid l → l.queue.count ≡ 72
unfolding Laid
queue_count l ok = ok.queue.count

-- as many are white where each colour is as it was
whites_same : (p n : ℕ) (w u : List ℕ) → ((i : ℕ) → i < n → at u (p + i) ≡ at w (p + i)) → whites_to p n u ≡ whites_to p n w
unfolding whites_to
whites_same p zero w u h = refl
whites_same p (suc n) w u h =
    ap (λ (x : ℕ). cond (is_white x) 1 0 + whites_to p n u) (h n (omega arith))
    ∙ ap (λ (x : ℕ). cond (is_white (at w (p + n))) 1 0 + x) (whites_same p n w u (λ i g. h i (omega arith)))

module _ (l : Lay) (ok : Laid l) (a : Apart l) where
  abbrev o : Order l
  o = order l ok a

  -- Items moved up within the queue leave all words below it, and the words stay as many.
  pub shifted_below : (start c k : ℕ) (w : List ℕ) → (length (shifted l start c k w).1 ≡ length w) × ((q : ℕ) → q < l.queue.base → at (shifted l start c k w).1 q ≡ at w q)
  unfolding shifted
  shifted_below start c zero w = (refl, λ q h. refl)
  shifted_below start c (suc k) w =
      let x = item_at l.queue k w in
      let r = shifted_below start c k (put_item (place l.queue (suc k)) x w) in
      go (shifts l start (suc k) c w) (
        r.0 ∙ put3_long (place l.queue (suc k)) (kind_of x) (index_of x) (generation_of x) w,
        λ q h. r.1 q h ∙ put3_kept (place l.queue (suc k)) (kind_of x) (index_of x) (generation_of x) w q (inl (omega (arith, h))),
      )
    where
      Below : ℕ × List ℕ → Type 0
      Below y = (length y.1 ≡ length w) × ((q : ℕ) → q < l.queue.base → at y.1 q ≡ at w q)

      go : (d : Bool) → Below (shifted l start c k (put_item (place l.queue (suc k)) (item_at l.queue k w) w))
          → Below (cond d (shifted l start c k (put_item (place l.queue (suc k)) (item_at l.queue k w) w)) (suc k, w))
      go true z = z
      go false z = (refl, λ q h. refl)

  -- So does putting one in its place.
  pub placed_below : (start k : ℕ) (r : UdRef) (w : List ℕ) → (length (placed l start k r w) ≡ length w) × ((q : ℕ) → q < l.queue.base → at (placed l start k r w) q ≡ at w q)
  unfolding placed
  placed_below start k r w =
      let x = shifted l start (creation_of l r w) k w in
      let s = shifted_below start (creation_of l r w) k w in (
        put3_long (place l.queue x.0) 7 r.0 r.1 x.1 ∙ s.0,
        λ q h. put3_kept (place l.queue x.0) 7 r.0 r.1 x.1 q (inl (omega (arith, h))) ∙ s.1 q h,
      )

  -- The damage mark lies apart from the queue.
  pub queue_mark : lists.Apart l.queue
  queue_mark = record { below = omega (arith, o.header, a); other = λ e. omega (arith, e, queue_count l ok) }

  -- A userdata is queued where there is room: one item more, and nothing else changes below.
  pub queued_held : (start : ℕ) (r : UdRef) (w : List ℕ) → l.words ≤ length w → length_of l.queue w < l.queue.room → Held l w (queued l start r w) × (length_of l.queue (queued l start r w) ≡ length_of l.queue w + 1)
  unfolding queued
  queued_held start r w long room =
      subst (λ x. Held l w x × (length_of l.queue x ≡ length_of l.queue w + 1))
      (lt_yes (length_of l.queue w) l.queue.room (placed l start (length_of l.queue w) r v) _ (placed l start (length_of l.queue w) r v) room refl) (
        record {
          long = s.0 ∙ push_long l.queue (Userdata r) w (queue_room_lem l w ok long);
          kept = λ q d u h. s.1 q h ∙ go q d h (ℕ_discrete q damage);
        },
        ap (λ (n : ℕ). min n l.queue.room) (s.1 l.queue.count (omega (arith, queue_count l ok, o.header, a))) ∙ push_length l.queue (Userdata r) w (queue_room_lem l w ok long) room,
      )
    where
      v : List ℕ
      v = push l.queue (Userdata r) w

      s : (length (placed l start (length_of l.queue w) r (push l.queue (Userdata r) w)) ≡ length (push l.queue (Userdata r) w))
          × ((q : ℕ) → q < l.queue.base → at (placed l start (length_of l.queue w) r (push l.queue (Userdata r) w)) q ≡ at (push l.queue (Userdata r) w) q)
      s = placed_below start (length_of l.queue w) r (push l.queue (Userdata r) w)

      go : (q : ℕ) → q ≢ l.queue.count → q < l.queue.base → Dec (q ≡ damage) → at (push l.queue (Userdata r) w) q ≡ at w q
      go q d h (yes e) = ap (at (push l.queue (Userdata r) w)) e ∙ push_unmarked l.queue (Userdata r) w (queue_room_lem l w ok long) queue_mark room ∙ ap (at w) (sym e)
      go q d h (no e) = push_kept l.queue (Userdata r) w (queue_room_lem l w ok long) q d e (inl h)

  -- Set finalized, gray, and queued.
  pub enqueue_held : (start i : ℕ) (w : List ℕ) → l.words ≤ length w → i < l.userdata.slots → length_of l.queue w < l.queue.room
      → Held l w (enqueue l start i w) × (length_of l.queue (enqueue l start i w) ≡ length_of l.queue w + 1)
  unfolding enqueue
  enqueue_held start i w long h room =
      let s = queued_held start (record { 0 = i; 1 = gen l.userdata i w₂ }) w₂ (omega (arith, long, longer)) (subst (λ n. n < l.queue.room) (sym same) room) in
      (held_then first s.0, s.1 ∙ ap (λ (n : ℕ). n + 1) same)
    where
      w₁ : List ℕ
      w₁ = set_ud_finalized (body_at l.userdata i) true w

      w₂ : List ℕ
      w₂ = set_colour l.userdata i 3 (set_ud_finalized (body_at l.userdata i) true w)

      longer : length (set_colour l.userdata i 3 (set_ud_finalized (body_at l.userdata i) true w)) ≡ length w
      longer = length-set (set_ud_finalized (body_at l.userdata i) true w) (l.userdata.base + i) 3 ∙ length-set w (body_at l.userdata i + 6) 1

      word : (q : ℕ) → Outside l.userdata.base l.userdata.slots q → q < l.queue.base → at (set_colour l.userdata i 3 (set_ud_finalized (body_at l.userdata i) true w)) q ≡ at w q
      word q u g =
          get_or-set_other (set_ud_finalized (body_at l.userdata i) true w) (l.userdata.base + i) q 3 0 (apart q u)
          ∙ get_or-set_other w (body_at l.userdata i + 6) q 1 0 (λ e. omega (arith, e, g, o.past_userdata, a))
        where
          apart : (q : ℕ) → Outside l.userdata.base l.userdata.slots q → q ≢ l.userdata.base + i
          apart q (inl f) e = omega (arith, e, f)
          apart q (inr f) e = omega (arith, e, f, h)

      first : Held l w (set_colour l.userdata i 3 (set_ud_finalized (body_at l.userdata i) true w))
      first = record { long = longer; kept = λ q d u g. word q u g }

      same : length_of l.queue (set_colour l.userdata i 3 (set_ud_finalized (body_at l.userdata i) true w)) ≡ length_of l.queue w
      same = ap (λ (n : ℕ). min n l.queue.room) (word l.queue.count (inl (omega (arith, queue_count l ok, o.header, a))) (omega (arith, queue_count l ok, o.header, a)))

  -- Separation from an empty queue: after k slots at most k are queued.
  pub record Queued (w : List ℕ) (k : ℕ) (x : ℕ × List ℕ) : Type 0 where
    pub few : length_of l.queue x.1 ≤ k
    pub held : Held l w x.1

  module _ (am : Ample l) (w : List ℕ) (long : l.words ≤ length w) (none : length_of l.queue w ≡ 0) where
    slot_held : (start white k : ℕ) (x : ℕ × List ℕ) → k < used l.userdata w → Queued w k x → Queued w (k + 1) (separate_slot l start white k x)
    unfolding separate_slot
    slot_held start white k x h s = go (is_due l k white x.1)
      where
        u_long : l.words ≤ length x.1
        u_long = omega (arith, long, s.held.long)

        room : length_of l.queue x.1 < l.queue.room
        room = below (length_of l.queue x.1) k (used l.userdata w) l.userdata.slots l.queue.room s.few h (omega arith) am.queue
          where
            below : (n k u c r : ℕ) → n ≤ k → k < u → u ≤ c → c ≤ r → n < r
            below n k u c r f g i j = omega (arith, f, g, i, j)

        go : (d : Bool) → Queued w (k + 1) (cond d (x.0 + 1, enqueue l start k x.1) x)
        go true =
            let e = enqueue_held start k x.1 u_long (omega (arith, h)) room in
            record { few = up (length_of l.queue (enqueue l start k x.1)) (length_of l.queue x.1) k e.1 s.few; held = held_then s.held e.0 }
          where
            up : (n m k : ℕ) → n ≡ m + 1 → m ≤ k → n ≤ k + 1
            up n m k e f = omega (arith, e, f)
        go false = record { few = more (length_of l.queue x.1) k s.few; held = s.held }
          where
            more : (m k : ℕ) → m ≤ k → m ≤ k + 1
            more m k f = omega (arith, f)

    -- Separation writes nothing else below the queue.
    pub separated_held : Held l w (separated l w).1
    unfolding separated
    separated_held =
        (run_along (separate_slot l (length_of l.queue w) (at w WHITE)) (Queued w) 0 (used l.userdata w) (0, w) (omega arith) (λ k x h s. slot_held (length_of l.queue w) (at w WHITE) k x h s)
        (record { few = zero_le (length_of l.queue w) none; held = held_none })).held
      where
        zero_le : (n : ℕ) → n ≡ 0 → n ≤ 0
        zero_le n e = omega (arith, e)

  -- What is kept so: the three lists, the damage mark, the colours of all kinds but userdata.
  module _ {w u : List ℕ} (s : Held l w u) where
    pub held_list : (k : Work) (q : ℕ) → OnList (list_of l k) q → at u q ≡ at w q
    held_list gray q (inl e) = s.kept q (omega (arith, e, o.gray, queue_count l ok)) (inl (omega (arith, e, o.gray, o.header, a))) (omega (arith, e, o.gray, o.header, a))
    held_list gray q (inr h) = s.kept q (omega (arith, h.0, queue_count l ok, o.header, a)) (inr (omega (arith, h.0, a))) (omega (arith, h.1, a))
    held_list grayagain q (inl e) = s.kept q (omega (arith, e, o.grayagain, queue_count l ok)) (inl (omega (arith, e, o.grayagain, o.header, a))) (omega (arith, e, o.grayagain, o.header, a))
    held_list grayagain q (inr h) = s.kept q (omega (arith, h.0, queue_count l ok, o.header, a)) (inr (omega (arith, h.0, a))) (omega (arith, h.1, a))
    held_list weak q (inl e) = s.kept q (omega (arith, e, o.weak, queue_count l ok)) (inl (omega (arith, e, o.weak, o.header, a))) (omega (arith, e, o.weak, o.header, a))
    held_list weak q (inr h) = s.kept q (omega (arith, h.0, queue_count l ok, o.header, a)) (inr (omega (arith, h.0, a))) (omega (arith, h.1, a))

    -- the damage mark
    pub held_mark : at u damage ≡ at w damage
    held_mark = s.kept damage (omega (arith, queue_count l ok)) (inl (omega (arith, o.header, a))) (omega (arith, o.header, a))

    -- the colours
    pub held_colour : (k i : ℕ) → k ≢ 4 → i < (arena_of l k).slots → at u ((arena_of l k).base + i) ≡ at w ((arena_of l k).base + i)
    held_colour k i d h =
        let x = colour_in l ok a k i h in
        s.kept ((arena_of l k).base + i) (omega (arith, x.0, queue_count l ok)) (go (dec_lt k 4)) (omega (arith, x.1, a))
      where
        go : Dec (k < 4) → Outside l.userdata.base l.userdata.slots ((arena_of l k).base + i)
        go (yes f) = inl (omega (arith, h, arena_before l o k 4 f (omega arith)))
        go (no f) = inr (omega (arith, h, arena_before l o 4 k (omega (arith, f, d)) (arena_kind l o k i h)))

    -- So the three lists are within their rooms as they were.
    pub held_roomy : Roomy l w → Roomy l u
    held_roomy r = record {
      gray = four (whites_in l 1 u) (whites_in l 2 u) (whites_in l 5 u) (length_of l.gray u) (whites_in l 1 w) (whites_in l 2 w) (whites_in l 5 w) (length_of l.gray w) l.gray.room tables closures threads grays.0 r.gray;
      weak = three (whites_in l 1 u) (items_of l.gray 5 u) (length_of l.weak u) (whites_in l 1 w) (items_of l.gray 5 w) (length_of l.weak w) l.weak.room tables (grays.1 5) (list_same l.weak w u (held_list weak)).0 r.weak;
      again = three (whites_in l 5 u) (items_of l.gray 8 u) (length_of l.grayagain u) (whites_in l 5 w) (items_of l.gray 8 w) (length_of l.grayagain w) l.grayagain.room threads (grays.1 8) (list_same l.grayagain w u (held_list grayagain)).0 r.again;
    }
      where
        grays : (length_of l.gray u ≡ length_of l.gray w) × ((c : ℕ) → items_of l.gray c u ≡ items_of l.gray c w)
        grays = list_same l.gray w u (held_list gray)

        tables : whites_in l 1 u ≡ whites_in l 1 w
        tables = whites_same l.tables.base l.tables.slots w u (λ i h. held_colour 1 i (omega arith) h)

        closures : whites_in l 2 u ≡ whites_in l 2 w
        closures = whites_same l.functions.base l.functions.slots w u (λ i h. held_colour 2 i (omega arith) h)

        threads : whites_in l 5 u ≡ whites_in l 5 w
        threads = whites_same l.threads.base l.threads.slots w u (λ i h. held_colour 5 i (omega arith) h)

        three : (x y z p q s r : ℕ) → x ≡ p → y ≡ q → z ≡ s → p + q + s ≤ r → x + y + z ≤ r
        three x y z p q s r e f g h = omega (arith, e, f, g, h)

        four : (x y z t p q s v r : ℕ) → x ≡ p → y ≡ q → z ≡ s → t ≡ v → p + q + s + v ≤ r → x + y + z + t ≤ r
        four x y z t p q s v r e f g i h = omega (arith, e, f, g, i, h)

  -- Marking what is queued is clean.
  module _ (w : List ℕ) (long : l.words ≤ length w) where
    due_clean : (r : UdRef) {u : List ℕ} → Clean l w u → Clean l w (follow_due l r u)
    unfolding follow_due
    due_clean r {u} c =
        choice (λ (x : List ℕ). Clean l w x) (colour_w l (ud r) u) u (follow_userdata (ops l) l r u) c
        (λ h. subst (λ x. Clean l w x) (sym (userdata_links_lem l ok a u u_long r u marked_none))
        (clean_then c (clean_then (black_clean l ok a (ud r) u u_long h) (marks_clean l ok a (userdata_links u (body_at l.userdata r.0)) (paint_w l (ud r) 4 u) (painted h)))))
      where
        u_long : l.words ≤ length u
        u_long = omega (arith, long, c.light.marked.long)

        painted : 1 ≤ colour_w l (ud r) u → l.words ≤ length (paint_w l (ud r) 4 u)
        painted h =
            let m : Marked l u (paint_w l (ud r) 4 u) = moves_marked l ok a (paint_moves l (ud r) h (still refl)) u_long in
            omega (arith, u_long, m.long)

    item_clean : (x : Item) {u : List ℕ} → Clean l w u → Clean l w (of_userdata (λ r. follow_due l r u) u x)
    unfolding of_userdata
    item_clean (Userdata r) c = due_clean r c
    item_clean (Table r) c = c
    item_clean (Function r) c = c
    item_clean (Thread r) c = c
    item_clean Main c = c
    item_clean Unknown c = c

    pub queued_clean : Clean l w (mark_tmudata l w)
    unfolding mark_tmudata mark_queued
    queued_clean = run_keeps (mark_queued l) (λ u. Clean l w u) 0 (length_of l.queue w) w (omega arith) (λ j u h c. item_clean (item_at l.queue j u) c) clean_none
