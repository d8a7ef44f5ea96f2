-- Among those due in a cycle finalizers are handed out in reverse order of creation, none twice: from Pause, by single steps. `w` are the
-- words before the collection. The definitions are those of specs/Handed.antt. Assumes nothing.
--     queue_then                     the atomic phase leaves the queue as separation made it
--     order_handed, planned_handed     the whole; for the layout of any sizes
--     handing_calls                  the manual's order, where no two have one creation number
use Rattle.std.specs.Prelude.{◌≡◌, refl, ◌⊎◌, ◌≢◌, length}
use Rattle.std.proofs.Common.{sym, subst, ◌∙◌, inl, inr, arith, length-set}
use Rattle.std.proofs.Math.Path.{ap}
use mathlib.Core.List.Memᴰ
use mathlib.Core.List.{List, [], ◌∷◌, map, Memᴰ}
use Rattle.std.proofs.Math.Logic.{⊎_elim}
use Prim.Native.Nat.{ℕ, zero, suc, min, ◌+◌, ◌-◌, ◌*◌, ◌≤◌, ◌<◌}
use Rattle.std.proofs.Math.Bridge.{le_prop}
use Rattle.std.proofs.Math.Decide.{ℕ_discrete, dec_lt}
use Rattle.std.proofs.Math.Seq.{get_or-set_other}
use Rattle.base.specs.Words.{at, put}
use Rattle.base.specs.Heap.{Heap, heap}
use Rattle.arena.specs.Slots.{used}
use Rattle.layout.specs.declared.Sizes.{Sizes}
use Rattle.layout.specs.declared.Lay.{Lay}
use Rattle.layout.specs.Sizes.{SizesOk}
use Rattle.layout.specs.Layout.{lay_of}
use Rattle.layout.specs.Places.{PHASE, WHITE, CURSOR_ARENA, CURSOR_SLOT, TOTAL, ESTIMATE}
use Rattle.lists.specs.Lists.{index_of, item_in, length_of, place, cleared}
use Rattle.lists.proofs.Laws.{item_three, cleared_kept}
use Rattle.record.specs.Fields.{body_at}
use Rattle.laid.specs.Laid.{Laid, weak_room_lem, laid_of}
use Rattle.mark.specs.Ops.{Ref, ref, other_white}
use Rattle.separate.specs.Separation.{separated}
use Rattle.clearing.specs.Strings.{keep_all}
use Rattle.clearing.specs.Entries.{clear_all, clear_weak_tables}
use Rattle.atomic.specs.Atomic.{marked, finished, flipped, begun, atomic}
use Rattle.step.specs.Step.{start_cycle}
use Rattle.mark_laws.specs.Apart.{Apart, Order, order, apart}
use Rattle.mark_laws.specs.Changes.{tops, past}
use Rattle.mark_laws.specs.Stays.{below}
use Rattle.room_laws.specs.Tallies.{Ample}
use Rattle.room_laws.proofs.Tallies.{ample}
use Rattle.room_laws.proofs.Payments.{whole_long}
use Rattle.room_laws.proofs.Queues.{queue_count}
use Rattle.room_laws.specs.Flips.{Low, low_none, cleared_low}
use Rattle.reach.specs.Reached.{Occupied, Root}
use Rattle.reach.specs.Cycle.{AllWhite, advances}
use Rattle.reach.specs.Oks.{Ok}
use Rattle.reach.specs.Exact.{None}
use Rattle.reach.proofs.Exact.{marked_ok}
use Rattle.atomic_laws.specs.Kept.{Due}
use Rattle.atomic_laws.specs.Bodies.{Bodies, bodies}
use Rattle.atomic_laws.specs.Alikes.{Alike}
use Rattle.atomic_laws.proofs.Alikes.{due_alike, alike_back}
use Rattle.atomic_laws.specs.Notes.{Noted}
use Rattle.atomic_laws.proofs.Notings.{marked_noted}
use Rattle.atomic_laws.specs.Separates.{Sorted}
use Rattle.atomic_laws.proofs.Dues.{due_handle, handle_due}
use Rattle.atomic_laws.proofs.Spares.{keep_all_lem}
use Rattle.atomic_laws.proofs.Survives.{done, H_long}
use Rattle.cycle_laws.specs.Counters.{stored, phase_counter, stored_alike, stored_word, stored_white}
use Rattle.cycle_laws.specs.Singles.{singles}
use Rattle.cycle_laws.specs.Collects.{frame_one, steps_ok, steps_noted, none_v}
use Rattle.sweep_laws.specs.Places.{Rows, rows}
use Rattle.sweep_laws.specs.Turns.{Arenas, InQueue}
use Rattle.sweep_laws.proofs.Collections.{singles_add}
use Rattle.sweep_laws.proofs.Collections as collection
use Rattle.manual.specs.Manual.{LastFirst, LastFirst-none, LastFirst-next, Calls}
use Rattle.manual.specs.Instance.{Object}
use Rattle.manual.specs.Instance as manual
use Rattle.manual.proofs.Agrees.{finalize_exact}
use Rattle.order_laws.specs.Orders.{created, Before, slot_of, Ordered}
use Rattle.order_laws.proofs.Orders.{separated_ordered}
use Rattle.order_laws.specs.Hands.{back_items}
use Rattle.order_laws.proofs.Hands.{finalize_hands}
use Rattle.order_laws.specs.Handed.{ref_of, Falls, Handing, objects}

-- A handle in the list is an item's, and the other way round.
back_out : (l : Lay) (n : ℕ) (u : List ℕ) (r : Ref) → Memᴰ r (map ref_of (back_items l n u)) → (i : ℕ) × (i < n) × (r ≡ ref_of (item_in u (place l.queue i)))
unfolding back_items
back_out l zero u r m = absurd (Memᴰ.not-nil m)
back_out l (suc n) u r m = ⊎_elim (λ e. (n, omega arith, e)) (λ k. let x = back_out l n u r k in (x.0, omega (arith, x.1), x.2)) (Memᴰ.cases_cons m)

back_in : (l : Lay) (n : ℕ) (u : List ℕ) (i : ℕ) → i < n → Memᴰ (ref_of (item_in u (place l.queue i))) (map ref_of (back_items l n u))
unfolding back_items
back_in l zero u i h = absurd (let z : ⊥ = omega (arith, h) in z)
back_in l (suc n) u i h = go (ℕ_discrete i n) (λ k. back_in l n u i k)
  where
    go : Dec (i ≡ n) → (i < n → Memᴰ (ref_of (item_in u (place l.queue i))) (map ref_of (back_items l n u))) → Memᴰ (ref_of (item_in u (place l.queue i))) (ref_of (item_in u (place l.queue n)) ∷ map ref_of (back_items l n u))
    go (yes e) rest = Memᴰ.head (ap (λ (j : ℕ). ref_of (item_in u (place l.queue j))) e)
    go (no e) rest = Memᴰ.tail (rest (omega (arith, h, e)))

-- A queue in order, from its end.
back_falls : (l : Lay) (w : List ℕ) (n : ℕ) (u : List ℕ) → ((i j : ℕ) → i < j → j < n → Before l w (slot_of l u i) (slot_of l u j)) → Falls l w (map ref_of (back_items l n u))
unfolding back_items
back_falls l w zero u h = tt
back_falls l w (suc n) u h = (
  (λ q m. let x = back_out l n u q m in subst (λ (r : Ref). Before l w r.at (slot_of l u n)) (sym x.2) (h x.0 n x.1 (omega arith))),
  back_falls l w n u (λ i j f g. h i j f (omega (arith, g))),
)

module _ (l : Lay) (ok : Laid l) (a : Apart l) (am : Ample l) (y : Bodies l) (r : Rows l) (w b : List ℕ) (long : l.words ≤ length w) (f : AllWhite l w) (none : length_of l.queue w ≡ 0)
    (u : List ℕ) (c : Ok l w b (Root l w b) (Root l w b) None 0 0 0 [] u) (e : length_of l.gray u ≡ 0) (n : Noted l w b u) where
  abbrev o : Order l
  o = order l ok a

  abbrev z : List ℕ
  z = (separated l u).1

  abbrev F : List ℕ
  F = (finished l b u).1

  u_long : l.words ≤ length u
  u_long = whole_long l ok a am w long c.whole

  u_none : length_of l.queue u ≡ 0
  u_none = ap (λ (k : ℕ). min k l.queue.room) (c.marked.kept l.queue.count (tops (omega (arith, queue_count l ok)) (omega (arith, queue_count l ok)))) ∙ none

  s : Sorted l (at u WHITE) u (used l.userdata u) z × Ordered l u z
  s = separated_ordered l ok a am y u u_long u_none

  -- The atomic phase leaves the queue as separation made it.
  queue_then : (k q : ℕ) → InQueue l q → at (begun k (flipped l b F)) q ≡ at z q
  unfolding begun flipped clear_weak_tables
  queue_then k q h =
      get_or-set_other (put CURSOR_SLOT 0 (put CURSOR_ARENA 0 (put ESTIMATE (at x TOTAL - 48 * k) x))) PHASE q 2 0 (off PHASE (omega arith) h)
      ∙ get_or-set_other (put CURSOR_ARENA 0 (put ESTIMATE (at x TOTAL - 48 * k) x)) CURSOR_SLOT q 0 0 (off CURSOR_SLOT (omega arith) h)
      ∙ get_or-set_other (put ESTIMATE (at x TOTAL - 48 * k) x) CURSOR_ARENA q 0 0 (off CURSOR_ARENA (omega arith) h)
      ∙ get_or-set_other x ESTIMATE q (at x TOTAL - 48 * k) 0 (off ESTIMATE (omega arith) h)
      ∙ cleared_kept l.weak B (weak_room_lem l B ok (omega (arith, A_long, low.long))) q (off_count h) (off_weak h)
      ∙ low.word q (under h)
      ∙ ap (λ (v : List ℕ). at v q) (keep_all_lem l ok a (other_white (at F WHITE)) K).0
      ∙ (keep_all_lem l ok a (other_white (at F WHITE)) K).1.word q (off_strings h)
      ∙ get_or-set_other F WHITE q (other_white (at F WHITE)) 0 (off WHITE (omega arith) h)
      ∙ marking h
    where
      K : List ℕ
      K = put WHITE (other_white (at F WHITE)) F

      A : List ℕ
      A = keep_all l (other_white (at F WHITE)) K

      A_long : l.words ≤ length A
      A_long = H_long l ok a am y w b long f none u c e n

      B : List ℕ
      B = clear_all l b (at F WHITE) A

      x : List ℕ
      x = cleared l.weak B

      low : Low l A B
      low = cleared_low l ok a A (at F WHITE) b A low_none

      off : (p : ℕ) → p < 69 → InQueue l q → q ≢ p
      off p g (inl i) d = omega (arith, d, i, g)
      off p g (inr i) d = omega (arith, d, i.0, g, o.header, a)

      off_count : InQueue l q → q ≢ l.weak.count
      off_count (inl i) d = omega (arith, d, i, o.weak)
      off_count (inr i) d = omega (arith, d, i.0, o.weak, o.header, a)

      off_weak : InQueue l q → (q < l.weak.base) ⊎ (l.weak.base + 3 * length_of l.weak B ≤ q)
      off_weak (inl i) = inl (omega (arith, i, o.header, a))
      off_weak (inr i) = inr (omega (arith, i.0, a))

      under : InQueue l q → q < l.boundary
      under (inl i) = omega (arith, i, o.header, a)
      under (inr i) = i.1

      off_strings : InQueue l q → (q < l.strings.base) ⊎ (l.strings.base + l.strings.slots ≤ q)
      off_strings (inl i) = inl (omega (arith, i, o.header))
      off_strings (inr i) = inr (omega (arith, i.0, a))

      marking : InQueue l q → at F q ≡ at z q
      marking (inl i) = (done l ok a am y w b long f none u c e n).marked.kept q (tops (omega (arith, i)) (omega (arith, i)))
      marking (inr i) = (done l ok a am y w b long f none u c e n).marked.kept q (past i.0)

  -- So from words t with that queue: exactly the due, in falling order.
  module _ (t : List ℕ) (same : (q : ℕ) → InQueue l q → at t q ≡ at z q) where
    len : length_of l.queue t ≡ length_of l.queue z
    len = ap (λ (k : ℕ). min k l.queue.room) (same l.queue.count (inl (queue_count l ok)))

    item_then : (i : ℕ) → i < length_of l.queue z → item_in t (place l.queue i) ≡ item_in z (place l.queue i)
    item_then i h =
        item_three (place l.queue i) t z (same (place l.queue i) (inr (omega arith, omega (arith, h, a)))) (same (place l.queue i + 1) (inr (omega arith, omega (arith, h, a)))) (same (place l.queue i + 2) (inr (omega arith, omega (arith, h, a))))

    due_out : (q : Ref) → Memᴰ q (map ref_of (back_items l (length_of l.queue z) t)) → Due l w b q
    due_out q m =
        let x = back_out l (length_of l.queue z) t q m in
        let i = s.0.only (item_in z (place l.queue x.0)) (x.0, x.1, refl) in
        subst (λ (p : Ref). Due l w b p) (sym (x.2 ∙ ap ref_of (item_then x.0 x.1 ∙ i.3))) (handle_due l ok a am y w b long f none u c e i.0 i.1 i.2).0

    due_in : (q : Ref) → Due l w b q → Memᴰ q (map ref_of (back_items l (length_of l.queue z) t))
    due_in q d =
        let h = due_handle l ok a am y w b long f none u c e q d in
        let i = s.0.inside q.at h.0 h.2 in
        let g : ref_of (item_in t (place l.queue i.0)) ≡ q = ap ref_of (item_then i.0 i.1 ∙ i.2) ∙ ap (λ (k : ℕ). ref 4 q.at k) h.1 ∙ ap (λ (k : ℕ). ref k q.at q.gen) (sym d.userdata) in
        subst (λ (p : Ref). Memᴰ p (map ref_of (back_items l (length_of l.queue z) t))) g (back_in l (length_of l.queue z) t i.0 i.1)

    falls_then : Falls l w (map ref_of (back_items l (length_of l.queue z) t))
    falls_then = back_falls l w (length_of l.queue z) t (λ i j g h.
        let x = ap index_of (item_then i (omega (arith, g, h))) in
        let k = ap index_of (item_then j h) in
        subst (λ p. Before l w p (slot_of l t j)) (sym x) (subst (λ p. Before l w (slot_of l z i) p) (sym k) (back (slot_of l z i) (slot_of l z j) (s.1 i j g h))))
      where
        number : (i : ℕ) → created l u i ≡ created l w i
        number i =
            ap (λ (k : ℕ). k + at u (body_at l.userdata i + 4 + 1) * 4294967296) (below o c.marked (body_at l.userdata i + 4) (inr (omega (arith, o.past_userdata))))
            ∙ ap (λ (k : ℕ). at w (body_at l.userdata i + 4) + k * 4294967296) (below o c.marked (body_at l.userdata i + 4 + 1) (inr (omega (arith, o.past_userdata))))

        back : (i j : ℕ) → Before l u i j → Before l w i j
        back i j (inl g) = inl (subst (λ k. k < created l w j) (number i) (subst (λ k. created l u i < k) (number j) g))
        back i j (inr g) = inr (sym (number i) ∙ g.0 ∙ number j, g.1)

-- By single steps from Pause.
module _ (l : Lay) (ok : Laid l) (a : Apart l) (r : Rows l) (am : Ample l) (y : Bodies l) (w b : List ℕ) (long : l.words ≤ length w) (f : AllWhite l w) (none : length_of l.queue w ≡ 0)
    (wide : l.bytes ≤ length b) (pause : at w PHASE ≡ 0) (v : Arenas l w) where
  -- the words before it, with the phase that the first step sets
  abbrev w₁ : List ℕ
  w₁ = stored PHASE 1 w

  long₁ : l.words ≤ length w₁
  long₁ = omega (arith, long, length-set w PHASE 1)

  abbrev m : ℕ
  m = collection.marking l ok a r am y w b long f none wide pause v

  -- the sweep that follows the atomic step
  abbrev k : ℕ
  k = (collection.d l ok a r am y w b long f none wide pause v).steps

  abbrev h₂ : Heap
  h₂ = singles l k (singles l m (heap w b))

  all : singles l (m + k) (heap w b) ≡ h₂
  all = singles_add l m k (heap w b)

  -- the words at the atomic step, before separation and after it
  abbrev C : ℕ
  C = (collection.c l ok a r am y w b long f none wide pause v).steps

  abbrev u₀ : List ℕ
  u₀ = advances l b C (start_cycle l w)

  abbrev u₁ : List ℕ
  u₁ = marked l b u₀

  abbrev z₁ : List ℕ
  z₁ = (separated l u₁).1

  white₁ : AllWhite l w₁
  white₁ = stored_white l ok a PHASE phase_counter 1 f

  none₁ : length_of l.queue w₁ ≡ 0
  none₁ = none_v l ok a am w b long f C none

  ok₁ : Ok l w₁ b (Root l w₁ b) (Root l w₁ b) None 0 0 0 [] u₁ × (length_of l.gray u₁ ≡ 0)
  ok₁ = marked_ok l ok a am w₁ b long₁ u₀ (steps_ok l ok a am w b long f C)

  noted₁ : Noted l w₁ b u₁
  noted₁ = marked_noted l ok a am w₁ b long₁ u₀ (steps_ok l ok a am w b long f C) (steps_noted l ok a am w b long f C)

  abbrev T : List ℕ
  T = (singles l (m + k) (heap w b)).words

  -- At Finalize the queue is as separation made it.
  same : (q : ℕ) → InQueue l q → at T q ≡ at z₁ q
  unfolding atomic
  same q h =
      ap (λ (g : Heap). at g.words q) all
      ∙ (collection.d l ok a r am y w b long f none wide pause v).queue q h
      ∙ ap (λ (g : Heap). at g.words q) (collection.c l ok a r am y w b long f none wide pause v).state
      ∙ queue_then l ok a am y r w₁ b long₁ white₁ none₁ u₁ ok₁.0 ok₁.1 noted₁ (finished l b u₁).0 q h

  -- The words of the phase are not among those that are read.
  number : (i : ℕ) → created l w₁ i ≡ created l w i
  number i =
      ap (λ (n : ℕ). n + at w₁ (body_at l.userdata i + 4 + 1) * 4294967296) (stored_word PHASE 1 w (body_at l.userdata i + 4) (λ e. omega (arith, e, (order l ok a).past_userdata, (order l ok a).header, a)))
      ∙ ap (λ (n : ℕ). at w (body_at l.userdata i + 4) + n * 4294967296) (stored_word PHASE 1 w (body_at l.userdata i + 4 + 1) (λ e. omega (arith, e, (order l ok a).past_userdata, (order l ok a).header, a)))

  before_then : (i j : ℕ) → Before l w₁ i j → Before l w i j
  before_then i j (inl g) = inl (subst (λ n. n < created l w j) (number i) (subst (λ n. created l w₁ i < n) (number j) g))
  before_then i j (inr g) = inr (sym (number i) ∙ g.0 ∙ number j, g.1)

  falls_back : (rs : List Ref) → Falls l w₁ rs → Falls l w rs
  falls_back [] h = tt
  falls_back (x ∷ rs) h = ((λ q i. before_then q.at x.at (h.0 q i)), falls_back rs h.1)

  T_long : l.words ≤ length T
  T_long =
      let x = collection.x l ok a r am y w b long f none wide pause v in
      let d = collection.d l ok a r am y w b long f none wide pause v in
      subst (λ (g : Heap). l.words ≤ length g.words) (sym all) (omega (arith, (d.arenas 0 (omega arith)).long, collection.ready_long l ok a r w b long f v (singles l m (heap w b)) x))

  pub order_handed : Handing l w b
  order_handed = record {
    steps = m + k;
    finalize = finalized_then;
    first = λ i h. before i h (dec_lt i m);
    count = length_of l.queue z₁;
    queued = len l ok a am y r w₁ b long₁ white₁ none₁ u₁ ok₁.0 ok₁.1 noted₁ T same;
    those = λ q. (
      (λ i. due_alike (frame_one l ok) b (alike_back like) q (due_out l ok a am y r w₁ b long₁ white₁ none₁ u₁ ok₁.0 ok₁.1 noted₁ T same q i)),
      (λ d. due_in l ok a am y r w₁ b long₁ white₁ none₁ u₁ ok₁.0 ok₁.1 noted₁ T same q (due_alike (frame_one l ok) b like q d)),
    );
    falls = falls_back (map ref_of (back_items l (length_of l.queue z₁) T)) (falls_then l ok a am y r w₁ b long₁ white₁ none₁ u₁ ok₁.0 ok₁.1 noted₁ T same);
    handed = finalize_hands l ok a (length_of l.queue z₁) (singles l (m + k) (heap w b)) T_long finalized_then (len l ok a am y r w₁ b long₁ white₁ none₁ u₁ ok₁.0 ok₁.1 noted₁ T same);
  }
    where
      like : Alike l w w₁
      like = stored_alike l ok a PHASE phase_counter 1 w

      finalized_then : at T PHASE ≡ 4
      finalized_then = ap (λ (g : Heap). at g.words PHASE) all ∙ (collection.d l ok a r am y w b long f none wide pause v).finalize

      before : (i : ℕ) → i < m + k → Dec (i < m) → at (singles l i (heap w b)).words PHASE ≢ 4
      before i h (yes p) e = omega (arith, e, (collection.c l ok a r am y w b long f none wide pause v).before i p)
      before i h (no p) e =
          let q : i ≡ m + (i - m) = omega (arith, p) in
          (collection.d l ok a r am y w b long f none wide pause v).first (i - m) (omega (arith, h, p))
          (sym (ap (λ (g : Heap). at g.words PHASE) (ap (λ (n : ℕ). singles l n (heap w b)) q ∙ singles_add l m (i - m) (heap w b))) ∙ e)

-- For the layout of any sizes within their ranges: from Pause, every occupied slot in the current white, the queue empty and the six arenas
-- well-formed.
pub planned_handed : (s : Sizes) → SizesOk s → (w b : List ℕ) → (lay_of s).words ≤ length w → (lay_of s).bytes ≤ length b → at w PHASE ≡ 0 → AllWhite (lay_of s) w → length_of (lay_of s).queue w ≡ 0
    → Arenas (lay_of s) w → Handing (lay_of s) w b
planned_handed s h w b long wide pause f none v = order_handed (lay_of s) (laid_of s h) (apart s) (rows s) (ample s) (bodies s) w b long f none wide pause v

-- The manual's order: no two that are to be finalized have one creation number. Then the queue from its end is the list of calls.
module _ (l : Lay) (w b : List ℕ) where
  -- the definitions of specs/Handed.antt, for these
  abbrev Distinct : Type 0
  Distinct = Rattle.order_laws.specs.Handed.Distinct l w b

  object_same : (x q : Object l w b) → x.0 ≡ q.0 → x ≡ q
  object_same x q e = subst (λ (r : Ref). (p : Occupied l w r) → x ≡ (r, p)) e (λ p. ap (λ (t : Occupied l w x.0). (x.0, t)) (le_prop x.1 p)) q.1

  objects_in : (rs : List Ref) (h : (q : Ref) → Memᴰ q rs → Occupied l w q) (x : Object l w b) → Memᴰ x.0 rs → Memᴰ x (objects l w b rs h)
  unfolding objects
  objects_in [] h x i = absurd (Memᴰ.not-nil i)
  objects_in (q ∷ rs) h x i =
      ⊎_elim (λ e. Memᴰ.head (object_same x (q, h q (Memᴰ.head refl)) e)) (λ j. Memᴰ.tail (objects_in rs (λ q i. h q (Memᴰ.tail i)) x j)) (Memᴰ.cases_cons i)

  objects_out : (rs : List Ref) (h : (q : Ref) → Memᴰ q rs → Occupied l w q) (x : Object l w b) → Memᴰ x (objects l w b rs h) → Memᴰ x.0 rs
  unfolding objects
  objects_out [] h x i = absurd (Memᴰ.not-nil i)
  objects_out (q ∷ rs) h x i =
      ⊎_elim (λ e. Memᴰ.head (ap (λ (y : Object l w b). y.0) e)) (λ j. Memᴰ.tail (objects_out rs (λ q i. h q (Memᴰ.tail i)) x j)) (Memᴰ.cases_cons i)

  objects_last : (rs : List Ref) (h : (q : Ref) → Memᴰ q rs → Occupied l w q) → ((q : Ref) → Memᴰ q rs → Due l w b q) → Distinct → Falls l w rs → LastFirst (manual.heap l w b) (objects l w b rs h)
  unfolding objects
  objects_last [] h d n s = LastFirst-none
  objects_last (x ∷ rs) h d n s =
      LastFirst-next (λ q i.
      let j = objects_out rs (λ q i. h q (Memᴰ.tail i)) q i in
      ⊎_elim (λ g. g) (λ g. absurd (apart_from q.0.at x.at (n q.0 x (d q.0 (Memᴰ.tail j)) (d x (Memᴰ.head refl)) g.0) g.1)) (s.0 q.0 j))
      (objects_last rs (λ q i. h q (Memᴰ.tail i)) (λ q i. d q (Memᴰ.tail i)) n s.1)
    where
      apart_from : (i j : ℕ) → i ≡ j → i < j → ⊥
      apart_from i j e g = omega (arith, e, g)

  pub handing_calls : (g : Handing l w b) → Distinct
      → let rs = map ref_of (back_items l g.count (singles l g.steps (heap w b)).words) in Calls (manual.heap l w b) (objects l w b rs (λ q i. ((g.those q).0 i).occupied))
  handing_calls g n =
      let rs = map ref_of (back_items l g.count (singles l g.steps (heap w b)).words) in
      record {
        those = λ x. (
          (λ i. (finalize_exact l w b x).1 ((g.those x.0).0 (objects_out rs (λ q i. ((g.those q).0 i).occupied) x i))),
          (λ t. objects_in rs (λ q i. ((g.those q).0 i).occupied) x ((g.those x.0).1 ((finalize_exact l w b x).0 t))),
        );
        order = objects_last rs (λ q i. ((g.those q).0 i).occupied) (λ q i. (g.those q).0 i) n g.falls;
      }
