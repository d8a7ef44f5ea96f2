-- Separation from an empty queue, slot by slot: exactly the due userdata are gray, finalized and queued, and nothing else that
-- links are read from changes. `w` are the words before it, `c` is the current white. Assumes nothing.
--     Sorted               what holds after k slots
--     due_same             whether a slot that is still to come is due does not change
--     enqueued, passed     a slot that is due, and one that is not
--     separated_sorted     the whole
use Rattle.std.specs.Prelude.{◌≡◌, Bool, true, cond, List, ◌⊎◌, ◌≢◌, ltb, length, Option}
use Rattle.std.proofs.Math.Path.{refl, ap}
use Rattle.std.proofs.Common.{sym, subst, ◌∙◌, true≢false, inl, inr, ⊎_elim, arith, length-set, get_or-set_same, get_or-set_other}
use Rattle.std.proofs.Math.Bool.{false}
use Prim.Native.Nat.{ℕ, min, ◌+◌, ◌*◌, ◌≤◌, ◌<◌}
use Rattle.std.proofs.Math.Decide.{ℕ_discrete, dec_lt}
use Rattle.base.specs.Ways.{if_eq}
use Rattle.base.specs.Words.{at}
use Rattle.value.specs.declared.TableRef.{TableRef}
use Rattle.arena.specs.Slots.{row, known, colour, set_colour, gen, used}
use Rattle.value.specs.declared.UdRef.{UdRef}
use Rattle.value.specs.declared.Value.{Value}
use Rattle.value.specs.Values.{is_nil}
use Rattle.value.specs.Laws.{Outside}
use Rattle.layout.specs.declared.Lay.{Lay}
use Rattle.layout.specs.Places.{WHITE}
use Rattle.lists.specs.declared.Item.{Item}
use Rattle.lists.specs.declared.Item.TheVariants.{Userdata}
use Rattle.lists.specs.Lists.{damage, length_of}
use Rattle.record.specs.Fields.{body_at}
use Rattle.record.specs.Userdata.{ud_meta, ud_finalized, set_ud_finalized}
use Rattle.laid.specs.Laid.{Laid, userdata_words, userdata_room}
use Rattle.modes.specs.Modes.{gc_method}
use Rattle.separate.specs.Separation.{is_due, enqueue, separate_slot, separated, queued}
use Rattle.link_laws.specs.Agrees.{table_same}
use Rattle.link_laws.specs.Reads.{Reads, gc_method_same}
use Rattle.mark_laws.specs.Apart.{Apart, Order, order}
use Rattle.room_laws.specs.Tallies.{Ample}
use Rattle.room_laws.specs.Frames.{OnList}
use Rattle.room_laws.proofs.Walks.{run_along}
use Rattle.room_laws.specs.Queues.{Held}
use Rattle.room_laws.proofs.Queues.{queue_count, held_then, held_none, enqueue_held}
use Rattle.reach.specs.OnLists.{On, on_same, on_none}
use Rattle.atomic_laws.specs.InQueue.{queued_new, queued_old, queued_was, queued_outside}
use Rattle.atomic_laws.specs.Bodies.{Bodies, body_next, Flags, flags_reads}

-- the handle of the userdata in slot i
abbrev pub handle : Lay → List ℕ → ℕ → UdRef
handle l w i = record { 0 = i; 1 = gen l.userdata i w }

-- After the first k slots: those that were due are gray, queued and marked finalized, the others have their colour and mark; nothing
-- else is queued; and past the boundary at most the finalized marks differ.
pub record Sorted (l : Lay) (c : ℕ) (w : List ℕ) (k : ℕ) (u : List ℕ) : Type 0 where
  pub held : Held l w u
  pub flags : Flags l k w u
  pub grayed : (i : ℕ) → i < k → is_due l i c w ≡ true → at u (l.userdata.base + i) ≡ 3
  pub others : (i : ℕ) → i < l.userdata.slots → (k ≤ i) ⊎ (is_due l i c w ≡ false) → at u (l.userdata.base + i) ≡ at w (l.userdata.base + i)
  pub inside : (i : ℕ) → i < k → is_due l i c w ≡ true → On l.queue (Userdata (handle l w i)) u
  pub only : (y : Item) → On l.queue y u → (i : ℕ) × (i < k) × (is_due l i c w ≡ true) × (y ≡ Userdata (handle l w i))
  pub few : length_of l.queue u ≤ k
  pub marks : (i : ℕ) → i < k → is_due l i c w ≡ true → at u (body_at l.userdata i + 6) ≡ 1
  pub unmarked : (i : ℕ) → (k ≤ i) ⊎ (is_due l i c w ≡ false) → at u (body_at l.userdata i + 6) ≡ at w (body_at l.userdata i + 6)

module _ (l : Lay) (ok : Laid l) (a : Apart l) (am : Ample l) (y : Bodies l) (w : List ℕ) (long : l.words ≤ length w) (c : ℕ) where
  abbrev o : Order l
  o = order l ok a

  -- Whether a slot that is still to come is due is read from words that have not changed.
  pub due_same : (k : ℕ) (u : List ℕ) → k < l.userdata.slots → Sorted l c w k u → is_due l k c u ≡ is_due l k c w
  unfolding is_due
  due_same k u h s =
      ap (λ (x : ℕ). if_eq (known x) c (cond (ud_finalized p u) false (cond (is_nil (gc_method l (ud_meta p u) u)) false true)) false) (s.others k h (inl (omega arith)))
      ∙ ap (λ (x : ℕ). if_eq (colour l.userdata k w) c (cond (ltb 0 x) false (cond (is_nil (gc_method l (ud_meta p u) u)) false true)) false) mark
      ∙ ap (λ (t : Option TableRef). if_eq (colour l.userdata k w) c (cond (ud_finalized p w) false (cond (is_nil (gc_method l t u)) false true)) false) meta
      ∙ ap (λ (v : Value). if_eq (colour l.userdata k w) c (cond (ud_finalized p w) false (cond (is_nil v) false true)) false) (gc_method_same reads (ud_meta p w))
    where
      p : ℕ
      p = body_at l.userdata k

      reads : Reads l w u
      reads = flags_reads l ok a y s.held (omega (arith, h)) s.flags

      mark : at u (body_at l.userdata k + 6) ≡ at w (body_at l.userdata k + 6)
      mark = s.flags.past (body_at l.userdata k + 6) (omega (arith, o.past_userdata)) (λ i f e. omega (arith, e, body_next l.userdata 7 i k (userdata_words l ok) f))

      meta : ud_meta (body_at l.userdata k) u ≡ ud_meta (body_at l.userdata k) w
      meta = table_same (reads.userdata k h) (body_at l.userdata k) (omega arith) (omega arith)

  -- A slot that is not due is passed.
  passed : (k : ℕ) (u : List ℕ) → is_due l k c w ≡ false → Sorted l c w k u → Sorted l c w (k + 1) u
  passed k u e s = record {
    held = s.held;
    flags = record { past = λ q f g. s.flags.past q f (λ i h. g i (omega (arith, h))) };
    grayed = λ i f g. s.grayed i (before i f g) g;
    others = λ i f g. s.others i f (⊎_elim (λ h. inl (omega (arith, h))) (λ h. inr h) g);
    inside = λ i f g. s.inside i (before i f g) g;
    only = λ z i. let r = s.only z i in (r.0, omega (arith, r.1), r.2, r.3);
    few = up (length_of l.queue u) s.few;
    marks = λ i f g. s.marks i (before i f g) g;
    unmarked = λ i g. s.unmarked i (⊎_elim (λ h. inl (omega (arith, h))) (λ h. inr h) g);
  }
    where
      up : (n : ℕ) → n ≤ k → n ≤ k + 1
      up n h = omega (arith, h)

      before : (i : ℕ) → i < k + 1 → is_due l i c w ≡ true → i < k
      before i f g = go (ℕ_discrete i k)
        where
          go : Dec (i ≡ k) → i < k
          go (yes z) = absurd (true≢false (sym g ∙ ap (λ (j : ℕ). is_due l j c w) z ∙ e))
          go (no z) = omega (arith, f, z)

  -- A slot that is due is set finalized, gray and queued.
  module _ (start k : ℕ) (u : List ℕ) (h : k < l.userdata.slots) (e : is_due l k c w ≡ true) (s : Sorted l c w k u) where
    abbrev u₁ : List ℕ
    u₁ = set_ud_finalized (body_at l.userdata k) true u

    abbrev u₂ : List ℕ
    u₂ = set_colour l.userdata k 3 u₁

    abbrev u₃ : List ℕ
    u₃ = enqueue l start k u

    u_long : l.words ≤ length u
    u_long = omega (arith, long, s.held.long)

    u₁_long : length u₁ ≡ length u
    u₁_long = length-set u (body_at l.userdata k + 6) 1

    u₂_long : l.words ≤ length u₂
    u₂_long = omega (arith, u_long, u₁_long, length-set u₁ (l.userdata.base + k) 3)

    -- what the two stores leave
    stored : (q : ℕ) → q ≢ l.userdata.base + k → q ≢ body_at l.userdata k + 6 → at u₂ q ≡ at u q
    stored q f g = get_or-set_other u₁ (l.userdata.base + k) q 3 0 f ∙ get_or-set_other u (body_at l.userdata k + 6) q 1 0 g

    low : (q : ℕ) → q ≢ l.userdata.base + k → q < l.boundary → at u₂ q ≡ at u q
    low q f g = stored q f (λ z. omega (arith, z, g, o.past_userdata))

    off_queue : (q : ℕ) → OnList l.queue q → at u₂ q ≡ at u q
    off_queue q (inl f) = low q (λ z. omega (arith, z, f, queue_count l ok, o.header, a)) (omega (arith, f, queue_count l ok, o.header, a))
    off_queue q (inr f) = low q (λ z. omega (arith, z, f.0, h, a)) (omega (arith, f.1, a))

    same_gen : gen l.userdata k u₂ ≡ gen l.userdata k w
    same_gen =
        low (l.userdata.base + l.userdata.slots + k) (λ z. omega (arith, z, h)) (omega (arith, h, a))
        ∙ s.held.kept (l.userdata.base + l.userdata.slots + k) (λ z. omega (arith, z, queue_count l ok, o.header, a)) (inr (omega arith)) (omega (arith, h, a))

    same_length : length_of l.queue u₂ ≡ length_of l.queue u
    same_length = ap (λ (n : ℕ). min n l.queue.room) (off_queue l.queue.count (inl refl))

    room : length_of l.queue u < l.queue.room
    room = fits (length_of l.queue u) l.queue.room s.few am.queue
      where
        fits : (n r : ℕ) → n ≤ k → l.userdata.slots ≤ r → n < r
        fits n r f g = omega (arith, f, g, h)

    room₂ : length_of l.queue u₂ < l.queue.room
    room₂ = subst (λ n. n < l.queue.room) (sym same_length) room

    is_queued : u₃ ≡ queued l start (record { 0 = k; 1 = gen l.userdata k u₂ }) u₂
    unfolding enqueue
    is_queued = refl

    named_same : ◌≡◌ {A = Item} (Userdata (record { 0 = k; 1 = gen l.userdata k u₂ })) (Userdata (handle l w k))
    named_same = ap (λ (g : ℕ). Userdata (record { 0 = k; 1 = g })) same_gen

    -- nothing changes outside the queue but what the two stores wrote
    word : (q : ℕ) → q ≢ l.queue.count → q ≢ damage → Outside l.queue.base (3 * l.queue.room) q → at u₃ q ≡ at u₂ q
    word q f g n = ap (λ (x : List ℕ). at x q) is_queued ∙ queued_outside l ok a start (record { 0 = k; 1 = gen l.userdata k u₂ }) u₂ u₂_long room₂ q f g n

    colour_word : (i : ℕ) → i < l.userdata.slots → at u₃ (l.userdata.base + i) ≡ at u₂ (l.userdata.base + i)
    colour_word i f =
        word (l.userdata.base + i) (λ z. omega (arith, z, queue_count l ok, o.header, a)) (λ z. omega (arith, z, o.header, a)) (inl (omega (arith, f, a)))

    enqueued : Sorted l c w (k + 1) u₃
    enqueued =
        let q = enqueue_held l ok a start k u u_long h room in
        record {
          held = held_then s.held q.0;
          flags = record {
            past = λ x f g.
                word x (λ z. omega (arith, z, f, queue_count l ok, o.header, a)) (λ z. omega (arith, z, f, o.header, a)) (inr (omega (arith, f, a)))
                ∙ stored x (λ z. omega (arith, z, f, h, a)) (g k (omega arith))
                ∙ s.flags.past x f (λ i n. g i (omega (arith, n)));
          };
          grayed = λ i f g. gray i f g (ℕ_discrete i k);
          others = λ i f g. colour_word i f ∙ low (l.userdata.base + i) (λ z. not_k i g (omega (arith, z))) (omega (arith, f, a)) ∙ s.others i f (⊎_elim (λ n. inl (omega (arith, n))) (λ n. inr n) g);
          inside = λ i f g. in_queue i f g (ℕ_discrete i k);
          only = λ z i. from_queue z (subst (λ x. On l.queue z x) is_queued i);
          few = up (length_of l.queue u₃) (length_of l.queue u) q.1 s.few;
          marks = λ i f g. marked i f g (ℕ_discrete i k);
          unmarked = λ i g. mark_word i ∙ other_mark i (λ z. not_k i g z) ∙ s.unmarked i (⊎_elim (λ n. inl (omega (arith, n))) (λ n. inr n) g);
        }
      where
        -- the marks lie past the boundary
        mark_word : (i : ℕ) → at u₃ (body_at l.userdata i + 6) ≡ at u₁ (body_at l.userdata i + 6)
        mark_word i =
            word (body_at l.userdata i + 6) (λ z. omega (arith, z, o.past_userdata, queue_count l ok, o.header, a)) (λ z. omega (arith, z, o.past_userdata, o.header, a)) (inr (omega (arith, o.past_userdata, a)))
            ∙ get_or-set_other u₁ (l.userdata.base + k) (body_at l.userdata i + 6) 3 0 (λ z. omega (arith, z, o.past_userdata, h, a))

        other_mark : (i : ℕ) → (i ≡ k → ⊥) → at u₁ (body_at l.userdata i + 6) ≡ at u (body_at l.userdata i + 6)
        other_mark i d = get_or-set_other u (body_at l.userdata k + 6) (body_at l.userdata i + 6) 1 0 (apart (dec_lt i k))
          where
            apart : Dec (i < k) → body_at l.userdata i + 6 ≢ body_at l.userdata k + 6
            apart (yes n) z = omega (arith, z, body_next l.userdata 7 i k (userdata_words l ok) n)
            apart (no n) z = omega (arith, z, body_next l.userdata 7 k i (userdata_words l ok) (omega (arith, n, d)))

        marked : (i : ℕ) → i < k + 1 → is_due l i c w ≡ true → Dec (i ≡ k) → at u₃ (body_at l.userdata i + 6) ≡ 1
        marked i f g (no z) = mark_word i ∙ other_mark i z ∙ s.marks i (omega (arith, f, z)) g
        marked i f g (yes z) =
            ap (λ (j : ℕ). at u₃ (body_at l.userdata j + 6)) z ∙ mark_word k
            ∙ get_or-set_same u (body_at l.userdata k + 6) 1 0 (within (k * l.userdata.stride) l.userdata.stride (l.userdata.slots * l.userdata.stride) (row l.userdata.stride h) (userdata_words l ok) (userdata_room l u ok u_long).fits)
          where
            within : (x t z : ℕ) → x + t ≤ z → t ≡ 7 → l.userdata.bodies + z ≤ length u → l.userdata.bodies + x + 6 < length u
            within x t z f e n = omega (arith, f, e, n)

        up : (n m : ℕ) → n ≡ m + 1 → m ≤ k → n ≤ k + 1
        up n m f g = omega (arith, f, g)

        not_k : (i : ℕ) → (k + 1 ≤ i) ⊎ (is_due l i c w ≡ false) → i ≡ k → ⊥
        not_k i (inl f) z = omega (arith, f, z)
        not_k i (inr f) z = true≢false (sym e ∙ ap (λ (j : ℕ). is_due l j c w) (sym z) ∙ f)

        gray : (i : ℕ) → i < k + 1 → is_due l i c w ≡ true → Dec (i ≡ k) → at u₃ (l.userdata.base + i) ≡ 3
        gray i f g (yes z) =
            ap (λ (j : ℕ). at u₃ (l.userdata.base + j)) z ∙ colour_word k h
            ∙ get_or-set_same u₁ (l.userdata.base + k) 3 0 (omega (arith, h, u_long, u₁_long, a, o.words))
        gray i f g (no z) =
            let n : i < k = omega (arith, f, z) in
            colour_word i (omega (arith, n, h)) ∙ low (l.userdata.base + i) (λ x. omega (arith, x, n)) (omega (arith, n, h, a)) ∙ s.grayed i n g

        in_queue : (i : ℕ) → i < k + 1 → is_due l i c w ≡ true → Dec (i ≡ k) → On l.queue (Userdata (handle l w i)) u₃
        in_queue i f g (yes z) =
            subst (λ j. On l.queue (Userdata (handle l w j)) u₃) (sym z)
            (subst (λ x. On l.queue x u₃) named_same
            (subst (λ x. On l.queue (Userdata (record { 0 = k; 1 = gen l.userdata k u₂ })) x) (sym is_queued) (queued_new l ok a start (record { 0 = k; 1 = gen l.userdata k u₂ }) u₂ u₂_long room₂)))
        in_queue i f g (no z) =
            subst (λ x. On l.queue (Userdata (handle l w i)) x) (sym is_queued)
            (queued_old l ok a start (record { 0 = k; 1 = gen l.userdata k u₂ }) u₂ u₂_long room₂ (Userdata (handle l w i)) (on_same l.queue (Userdata (handle l w i)) u u₂ off_queue (s.inside i (omega (arith, f, z)) g)))

        from_queue : (z : Item) → On l.queue z (queued l start (record { 0 = k; 1 = gen l.userdata k u₂ }) u₂) → (i : ℕ) × (i < k + 1) × (is_due l i c w ≡ true) × (z ≡ Userdata (handle l w i))
        from_queue z i =
            ⊎_elim (λ j. let r = s.only z (on_same l.queue z u₂ u (λ x n. sym (off_queue x n)) j) in (r.0, omega (arith, r.1), r.2, r.3))
            (λ j. (k, omega arith, e, j ∙ named_same))
            (queued_was l ok a start (record { 0 = k; 1 = gen l.userdata k u₂ }) u₂ u₂_long room₂ z i)

  -- One slot,
  pub slot_sorted : (start k : ℕ) (x : ℕ × List ℕ) → k < used l.userdata w → Sorted l c w k x.1 → Sorted l c w (k + 1) (separate_slot l start c k x).1
  unfolding separate_slot
  slot_sorted start k x h s = go (is_due l k c x.1) refl
    where
      n : k < l.userdata.slots
      n = omega (arith, h)

      go : (d : Bool) → is_due l k c x.1 ≡ d → Sorted l c w (k + 1) (cond d (x.0 + 1, enqueue l start k x.1) x).1
      go true e = enqueued start k x.1 n (sym (due_same k x.1 n s) ∙ e) s
      go false e = passed k x.1 (sym (due_same k x.1 n s) ∙ e) s

  -- none yet
  pub first_sorted : length_of l.queue w ≡ 0 → Sorted l c w 0 w
  first_sorted e = record {
    held = held_none;
    flags = record { past = λ q f g. refl };
    grayed = λ i f g. absurd (let z : ⊥ = omega (arith, f) in z);
    others = λ i f g. refl;
    inside = λ i f g. absurd (let z : ⊥ = omega (arith, f) in z);
    only = λ z i. absurd (on_none l.queue z w e i);
    few = none (length_of l.queue w) e;
    marks = λ i f g. absurd (let z : ⊥ = omega (arith, f) in z);
    unmarked = λ i g. refl;
  }
    where
      none : (n : ℕ) → n ≡ 0 → n ≤ 0
      none n e = omega (arith, e)

-- and all of them.
pub separated_sorted : (l : Lay) → Laid l → Apart l → Ample l → Bodies l → (w : List ℕ) → l.words ≤ length w → length_of l.queue w ≡ 0
    → Sorted l (at w WHITE) w (used l.userdata w) (separated l w).1
unfolding separated
separated_sorted l ok a am y w long e =
    run_along (separate_slot l (length_of l.queue w) (at w WHITE)) (λ k x. Sorted l (at w WHITE) w k x.1) 0 (used l.userdata w) (0, w) (omega arith)
    (λ k x h s. slot_sorted l ok a am y w long (at w WHITE) (length_of l.queue w) k x h s) (first_sorted l ok a am y w long (at w WHITE) e)
