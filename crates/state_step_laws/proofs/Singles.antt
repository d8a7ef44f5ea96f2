-- Every single step keeps the state. The definitions are those of specs/Singles.antt. Assumes nothing.
--     swept_on, swept_past     which phase the sweep's place tells of
--     final_free               a step in Finalize: an item is taken out of the queue, or the cycle ends
--     single_after             a single step; one that hands a finalizer out leaves the phase Finalize
use Rattle.std.specs.Prelude.{◌≡◌, refl, ◌⊎◌, ◌≢◌, length, Some, None, Option}
use Rattle.std.proofs.Common.{sym, ap, ◌∙◌, inl, inr, arith, get_or-set_other}
use Rattle.std.proofs.Math.Path.{subst}
use Rattle.std.proofs.Math.Logic.{⊎_elim}
use mathlib.Core.List.{List, [], ◌∷◌}
use Prim.Native.Nat.{ℕ, min, ◌+◌, ◌-◌, ◌/◌, ◌%◌, ◌≤◌, ◌<◌}
use Rattle.std.proofs.Math.Decide.{ℕ_discrete, dec_lt}
use Rattle.base.specs.Words.{at, put}
use Rattle.base.specs.Heap.{Heap, heap}
use Rattle.arena_laws.specs.Words.{puts_far, puts_at}
use Rattle.arena_laws.specs.Frames.{Untouched, kept_colour, frame_keeps}
use Rattle.layout.specs.declared.Lay.{Lay}
use Rattle.layout.specs.Places.{PROTOTYPES, DAMAGE, PHASE, WHITE, TOTAL, ESTIMATE, THRESHOLD, DEBT, INTERRUPTED}
use Rattle.layout.specs.Layout.{lay_of}
use Rattle.value.specs.Values.{is_nil}
use Rattle.lists.specs.declared.Item.{Item}
use Rattle.lists.specs.declared.Item.TheVariants.{Table, Function, Userdata, Thread, Main, Unknown}
use Rattle.lists.specs.Lists.{length_of, item_at, pop, taken}
use Rattle.lists.proofs.Laws.{pop_none, pop_some, pop_length, pop_long, pop_kept}
use Rattle.laid.specs.Laid.{Laid, queue_room_lem}
use Rattle.mark.specs.Words.{arena_of}
use Rattle.step.specs.declared.Single.{Single}
use Rattle.step.specs.declared.Single.TheVariants.{Cost, Out}
use Rattle.step.specs.Step.{start_cycle, propagate_step, costs, method_of, finalize, finalize_item, end_cycle, finalized, finalize_step, in_bytes, single_step}
use Rattle.sweep_step.specs.Sweeping.{sweep_strings, sweep_others}
use Rattle.mark_laws.specs.Apart.{Apart, Order, order, arena_header, arena_lists}
use Rattle.room_laws.specs.Tallies.{Ample}
use Rattle.room_laws.proofs.Queues.{queue_count}
use Rattle.atomic_laws.specs.Bodies.{Bodies}
use Rattle.sweep_laws.specs.Places.{Rows, top_is}
use Rattle.sweep_laws.proofs.Turns.{strings_step, others_step}
use Rattle.sweep_laws.specs.Finalizes.{Far, Wrote}
use Rattle.sweep_laws.proofs.Finalizes.{item_words}
use Rattle.state_laws.specs.State.{Swept, State, mains_same, sum_same, nested_same, sizes_same}
use Rattle.state_laws.specs.Plains.{eq_both, cond_both}
use Rattle.state_laws.specs.Rooms.{pop_room}
use Rattle.state_step_laws.specs.Marks.{Free}
use Rattle.state_step_laws.proofs.Marks.{start_free, propagate_free}
use Rattle.state_step_laws.specs.Sweeps.{sweep_free}
use Rattle.state_step_laws.specs.Singles.{Late}

-- During the sweep its place is in an arena,
pub swept_on : {l : Lay} {w : List ℕ} (t : Swept l w) → (at w PHASE ≡ 2) ⊎ (at w PHASE ≡ 3) → t.arena ≤ 5
swept_on {l} {w} t f = go (dec_lt t.arena 6)
  where
    go : Dec (t.arena < 6) → t.arena ≤ 5
    go (yes h) = omega (arith, h)
    go (no h) =
        let e : t.arena ≡ 6 = omega (arith, h, t.most) in
        absurd (⊎_elim (λ z. ⊎_elim (λ y. let k : ⊥ = omega (arith, y, z) in k) (λ y. let k : ⊥ = omega (arith, y, z) in k) f) (λ z. ⊎_elim (λ y. let k : ⊥ = omega (arith, y, z) in k) (λ y. let k : ⊥ = omega (arith, y, z) in k) f) (t.ended e))

-- and else past the last, at Pause or Finalize.
pub swept_past : {l : Lay} {w : List ℕ} (t : Swept l w) → at w PHASE ≢ 2 → at w PHASE ≢ 3 → (t.arena ≡ 6) × ((at w PHASE ≡ 0) ⊎ (at w PHASE ≡ 4))
swept_past {l} {w} t c d = go (ℕ_discrete t.arena 0) (dec_lt t.arena 6)
  where
    go : Dec (t.arena ≡ 0) → Dec (t.arena < 6) → (t.arena ≡ 6) × ((at w PHASE ≡ 0) ⊎ (at w PHASE ≡ 4))
    go (yes e) h = absurd (c (t.strings e).0)
    go (no e) (yes h) = absurd (d (t.others (omega (arith, e)) (omega (arith, h))).0)
    go (no e) (no h) = let k : t.arena ≡ 6 = omega (arith, h, t.most) in (k, t.ended k)

late : (x : Single × List ℕ) → at x.1 PHASE ≡ 4 → Late x
late (Cost c, u) e = tt
late (Out y v, u) e = e

-- An item's turn leaves the total.
item_total : (l : Lay) (x : Item) (v : List ℕ) → at (finalized l (Some x, v)).1 TOTAL ≡ at v TOTAL
unfolding finalize_item finalize
item_total l (Userdata r) v =
    cond_both (λ (y : Single × List ℕ). at y.1 TOTAL ≡ at v TOTAL) (is_nil (method_of l r v)) _ _
    (λ e. get_or-set_other v ESTIMATE TOTAL _ 0 (omega arith))
    (λ e. get_or-set_other (put THRESHOLD _ v) (THRESHOLD + 1) TOTAL _ 0 (omega arith) ∙ get_or-set_other v THRESHOLD TOTAL _ 0 (omega arith))
item_total l (Table r) v = refl
item_total l (Function r) v = refl
item_total l (Thread r) v = refl
item_total l Main v = refl
item_total l Unknown v = refl

module _ (l : Lay) (ok : Laid l) (a : Apart l) (r : Rows l) where
  abbrev o : Order l
  o = order l ok a

  -- the definitions of specs/Singles.antt, for these
  abbrev Final : (h g : Heap) → Type 0
  Final = Rattle.state_step_laws.specs.Singles.Final l ok a r

  module _ (w b : List ℕ) (c : Free l (heap w b)) (p : at w PHASE ≡ 4) where
    abbrev s : State l (heap w b)
    s = c.state

    -- Such a step writes, beside the queue, the phase and words of pacing.
    final_state : (u : List ℕ) → length u ≡ length w → ((x : ℕ) → Far x → x ≢ 72 → (x < l.queue.base) ⊎ (l.boundary ≤ x) → at u x ≡ at w x)
        → at u TOTAL ≡ at w TOTAL → at u l.queue.count ≤ l.queue.room → (at u PHASE ≡ 4) ⊎ ((at u PHASE ≡ 0) × (length_of l.queue u ≡ 0)) → Free l (heap u b)
    final_state u e word total fits f = record {
      state = record {
        sizes = ap lay_of (sizes_same w u (λ x h. low x (inl (omega (arith, h))) (omega (arith, h)))) ∙ s.sizes;
        long = omega (arith, s.long, e);
        wide = s.wide;
        whole = low DAMAGE (inl (omega arith)) (omega arith) ∙ s.whole;
        low = omega (arith, s.low, now);
        high = omega (arith, s.high, now);
        arenas = λ k g. (frame_keeps (same k g) (s.arenas k g)).0;
        out = λ d. none;
        empty = λ g. ⊎_elim (λ z. absurd (let y : ⊥ = omega (arith, g, z) in y)) (λ z. z.1) f;
        paid = λ g. absurd (⊎_elim (λ z. let y : ⊥ = omega (arith, g, z) in y) (λ z. let y : ⊥ = omega (arith, g, z.0) in y) f);
        swept = λ d. record {
          arena = 6;
          slot = 0;
          most = omega arith;
          strings = λ z. absurd (let y : ⊥ = omega (arith, z) in y);
          others = λ z y. absurd (let x : ⊥ = omega (arith, y) in x);
          ended = λ z. ⊎_elim (λ y. inr y) (λ y. inl y.0) f;
          within = λ g. absurd (let y : ⊥ = omega (arith, g) in y);
          white = λ k i g h z n.
              kept_colour (same k g) i h ∙ t.white k i g h (inl (omega (arith, g, last))) (λ y. n (kept_colour (same k g) i h ∙ y)) ∙ sym now;
        };
        lists = record {
          gray = subst (λ (n : ℕ). n ≤ l.gray.room) (sym (low l.gray.count (inr (inr (omega (arith, o.gray)))) (omega (arith, o.gray)))) s.lists.gray;
          grayagain = subst (λ (n : ℕ). n ≤ l.grayagain.room) (sym (low l.grayagain.count (inr (inr (omega (arith, o.grayagain)))) (omega (arith, o.grayagain)))) s.lists.grayagain;
          weak = subst (λ (n : ℕ). n ≤ l.weak.room) (sym (low l.weak.count (inr (inr (omega (arith, o.weak)))) (omega (arith, o.weak)))) s.lists.weak;
          queue = fits;
        };
        mains = mains_same w u (λ x g h. low x (inl (omega (arith, h))) (omega (arith, h))) s.mains;
        sum = sum_same l w u total (λ k g. (same k g).header ((arena_of l k).top + 2) (omega arith) (omega arith)) s.sum;
        nested = nested_same ok a s u (low PROTOTYPES (inl (omega arith)) (omega arith)) (λ x g h. word x (inr (inr (omega (arith, g, o.header, a)))) (λ z. omega (arith, z, g, o.header, a)) (inr g));
      };
      none = none;
    }
      where
        low : (x : ℕ) → Far x → x < 72 → at u x ≡ at w x
        low x d g = word x d (omega (arith, g)) (inl (omega (arith, g, o.header, a)))

        now : at u WHITE ≡ at w WHITE
        now = low WHITE (inr (inl refl)) (omega arith)

        none : at u INTERRUPTED ≡ 0
        none = low INTERRUPTED (inr (inr (omega arith))) (omega arith) ∙ c.none

        same : (k : ℕ) → k ≤ 5 → Untouched (arena_of l k) w u
        same k g = record {
          long = e;
          header = λ x h q. word x (inr (inr (omega (arith, h, top_is l ok a r k g)))) (omega (arith, h, top_is l ok a r k g)) (inl (omega (arith, q, g, top_is l ok a r k g, o.header, a)));
          cells = λ x h q. word x (inr (inr (omega (arith, h, arena_header l o k g)))) (omega (arith, h, arena_header l o k g)) (inl (omega (arith, q, arena_lists l o k g, a)));
        }

        t : Swept l w
        t = s.swept (λ z. omega (arith, z, p))

        last : t.arena ≡ 6
        last = (swept_past t (λ z. omega (arith, z, p)) (λ z. omega (arith, z, p))).0

    room : 91 ≤ length w
    room = omega (arith, s.long, o.words, o.header, a)

    -- the queue's count stays then
    queue_same : {E : Type 0} {v u : List ℕ} → Wrote E v u → length_of l.queue u ≡ length_of l.queue v
    queue_same t = ap (λ (n : ℕ). min n l.queue.room) (t.word l.queue.count (inr (inr (omega (arith, queue_count l ok)))))

    count_same : {E : Type 0} {v u : List ℕ} → Wrote E v u → at u l.queue.count ≡ at v l.queue.count
    count_same t = t.word l.queue.count (inr (inr (omega (arith, queue_count l ok))))

    -- The end of the cycle, where the queue is empty.
    end_free : length_of l.queue w ≡ 0 → Final (heap w b) (heap (end_cycle w) b)
    end_free e =
        let t = item_words {E = Unit {0}} l w room None (λ z. tt) in
        record { free = final_state (end_cycle w) t.long (λ x f d g. t.word x f) total (subst (λ (k : ℕ). k ≤ l.queue.room) (sym (count_same t)) s.lists.queue) (inr (done, queue_same t ∙ e)); phase = inl done }
      where
        n : ℕ
        n = 9223372036854775808

        total : at (end_cycle w) TOTAL ≡ at w TOTAL
        total = puts_far ((DEBT + 1, n / 4294967296) ∷ (DEBT, n % 4294967296) ∷ (PHASE, 0) ∷ []) w TOTAL ((λ z. omega (arith, z)), ((λ z. omega (arith, z)), ((λ z. omega (arith, z)), tt)))

        done : at (end_cycle w) PHASE ≡ 0
        done = puts_at ((DEBT + 1, n / 4294967296) ∷ (DEBT, n % 4294967296) ∷ []) PHASE 0 [] w ((λ z. omega (arith, z)), ((λ z. omega (arith, z)), tt)) (omega (arith, room))

    -- An item is taken out.
    item_free : (x : Item) (v : List ℕ) → length v ≡ length w → ((q : ℕ) → q ≢ 72 → (q < l.queue.base) ⊎ (l.boundary ≤ q) → at v q ≡ at w q) → length_of l.queue v + 1 ≡ length_of l.queue w
        → at v l.queue.count ≤ l.queue.room → Final (heap w b) (heap (finalized l (Some x, v)).1 b) × (at (finalized l (Some x, v)).1 PHASE ≡ 4)
    item_free x v e word n fits =
        let t = item_words {E = ⊥} l v (omega (arith, room, e)) (Some x) (λ z. never z) in
        let phase : at (finalized l (Some x, v)).1 PHASE ≡ 4 = ⊎_elim (λ z. z) (λ z. absurd z.1) t.phase ∙ word PHASE (omega arith) (inl (omega (arith, o.header, a))) ∙ p in (
          record {
            free = final_state (finalized l (Some x, v)).1 (t.long ∙ e) (λ q f d g. t.word q f ∙ word q d g) (item_total l x v ∙ word TOTAL (omega arith) (inl (omega (arith, o.header, a)))) (subst (λ (k : ℕ). k ≤ l.queue.room) (sym (count_same t)) fits) (inl phase);
            phase = inr (phase, ap (λ (k : ℕ). k + 1) (queue_same t) ∙ n);
          },
          phase,
        )
      where
        gotten : Option Item → ℕ
        gotten None = 0
        gotten (Some y) = 1

        never : Some x ≡ None → ⊥
        never z = let k : ◌≡◌ {A = ℕ} 1 0 = ap gotten z in omega (arith, k)

    pub final_free : Final (heap w b) (heap (finalize_step l w).1 b) × Late (finalize_step l w)
    unfolding finalize_step
    final_free = go (ℕ_discrete (length_of l.queue w) 0)
      where
        P : Option Item × List ℕ → Type 0
        P x = Final (heap w b) (heap (finalized l x).1 b) × Late (finalized l x)

        go : Dec (length_of l.queue w ≡ 0) → Final (heap w b) (heap (finalized l (pop l.queue w)).1 b) × Late (finalized l (pop l.queue w))
        go (yes e) = subst P (sym (pop_none l.queue w e)) (end_free e, tt)
        go (no d) =
            let q = pop_some l.queue w d in
            let v : List ℕ = taken l.queue (length_of l.queue w - 1) w in
            let x : Item = item_at l.queue (length_of l.queue w - 1) w in
            let is : (pop l.queue w).1 ≡ v = ap (λ (y : Option Item × List ℕ). y.1) q in
            let fits = queue_room_lem l w ok s.long in
            let m = item_free x v (ap length (sym is) ∙ pop_long l.queue w fits)
            (λ y f g. ap (λ (u : List ℕ). at u y) (sym is) ∙ pop_kept l.queue w fits y (λ z. f (omega (arith, z, queue_count l ok))) (⊎_elim (λ z. inl z) (λ z. inr (omega (arith, z, a))) g))
            (less (length_of l.queue v) (length_of l.queue w) (ap (λ (u : List ℕ). length_of l.queue u) (sym is) ∙ pop_length l.queue w fits) d)
            (subst (λ (u : List ℕ). at u l.queue.count ≤ l.queue.room) is (pop_room l.queue w fits s.lists.queue)) in
            subst P (sym q) (m.0, late (finalized l (Some x, v)) m.1)
          where
            less : (x y : ℕ) → x ≡ y - 1 → y ≢ 0 → x + 1 ≡ y
            less x y e d = omega (arith, e, d)

  module _ (am : Ample l) (y : Bodies l) where
    -- the definitions of specs/Singles.antt, for these
    abbrev After : Single × Heap → Type 0
    After = Rattle.state_step_laws.specs.Singles.After l ok a r am y

    final_after : (b : List ℕ) (x : Single × List ℕ) → Free l (heap x.1 b) → Late x → After (in_bytes x b)
    final_after b (Cost n, u) c e = c
    final_after b (Out z v, u) c e = (c, e)

    -- Every single step.
    pub single_after : (h : Heap) → Free l h → After (single_step l h)
    unfolding single_step
    single_after h c =
        eq_both After (at h.words PHASE) 0 (Cost 0, heap (start_cycle l h.words) h.bytes) _ (λ e. start_free l ok a r am (omega (arith, e)) s)
        (λ d. eq_both After (at h.words PHASE) 1 (costs (propagate_step l h.bytes h.words) h.bytes) _ (λ e. propagate_free l ok a r am y h.words h.bytes s e)
        (λ d₁. eq_both After (at h.words PHASE) 2 (Cost 10, sweep_strings l h) _ (λ e. subst (λ (g : Heap). Free l g) (strings_step l h e) (sweep_free l ok a r h c (s.swept d₁) (swept_on (s.swept d₁) (inl e))).free)
        (λ d₂. eq_both After (at h.words PHASE) 3 (Cost 800, sweep_others l h) _ (λ e. subst (λ (g : Heap). Free l g) (others_step l h e) (sweep_free l ok a r h c (s.swept d₁) (swept_on (s.swept d₁) (inr e))).free)
        (λ d₃.
        let p : at h.words PHASE ≡ 4 = ⊎_elim (λ z. absurd (d z)) (λ z. z) (swept_past (s.swept d₁) d₂ d₃).1 in
        let m = final_free h.words h.bytes c p in
        final_after h.bytes (finalize_step l h.words) m.0.free m.1))))
      where
        s : State l h
        s = c.state
