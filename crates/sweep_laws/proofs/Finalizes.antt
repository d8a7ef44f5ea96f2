-- A single step in Finalize takes an item out of the queue, and may write words of pacing or end the cycle: it leaves the arenas.
-- Assumes nothing.
--     item_words                     what it writes
--     past_step                      so what the sweep freed stays
--     past_less                      it makes the queue shorter, or ends the cycle
use Rattle.std.specs.Prelude.{◌≡◌, refl, Bool, true, false, cond, ◌⊎◌, ◌≢◌, List, [], ◌∷◌, Some, None, Option}
use Rattle.std.proofs.Common.{sym, ◌∙◌, ⊎_elim, arith}
use Rattle.std.proofs.Math.Path.{subst, ap}
use Rattle.std.proofs.Math.Logic.{inl, inr}
use Prim.Native.Nat.{ℕ, min, ◌+◌, ◌-◌, ◌*◌, ◌/◌, ◌%◌, ◌≤◌, ◌<◌}
use Rattle.std.proofs.Math.Decide.{ℕ_discrete}
use Rattle.std.proofs.Math.ListN.{length}
use Rattle.base.specs.Ways.{eq_no}
use Rattle.base.specs.Words.{at}
use Rattle.base.specs.Heap.{Heap, heap}
use Rattle.lists.specs.declared.Item.{Item}
use Rattle.arena_laws.specs.Words.{puts_length, puts_far, puts_at}
use Rattle.value.specs.Values.{is_nil}
use Rattle.layout.specs.declared.List.{List as Queue}
use Rattle.layout.specs.declared.Lay.{Lay}
use Rattle.layout.specs.Places.{PHASE, WHITE, TOTAL, ESTIMATE, THRESHOLD, DEBT}
use Rattle.lists.specs.declared.Item.TheVariants.{Table, Function, Userdata, Thread, Main, Unknown}
use Rattle.lists.specs.Lists.{damage, length_of, pop}
use Rattle.lists.proofs.Laws.{pop_none, pop_some, pop_length, pop_long, pop_kept}
use Rattle.laid.specs.Laid.{Laid, queue_room_lem}
use Rattle.pacing.specs.Pacing.{lowered}
use Rattle.sweep_step.specs.Sweeping.{sweep_strings, sweep_others}
use Rattle.step.specs.declared.Single.{Single}
use Rattle.step.specs.declared.Single.TheVariants.{Cost, Out}
use Rattle.step.specs.Step.{start_cycle, propagate_step, costs, in_bytes, method_of, handed_out, lower_estimate, finalize, finalize_item, end_cycle, finalized, finalize_step, single_step}
use Rattle.mark_laws.specs.Apart.{Apart, Order, order, arena_header, arena_lists}
use Rattle.room_laws.specs.Tallies.{Ample}
use Rattle.room_laws.proofs.Queues.{queue_count}
use Rattle.reach.specs.Cycle.{AllWhite}
use Rattle.atomic_laws.specs.Bodies.{Bodies}
use Rattle.sweep_laws.specs.Places.{Rows, top_is, body_past}
use Rattle.sweep_laws.specs.Turns.{Arenas}
use Rattle.sweep_laws.proofs.Collections.{ready_long}
use Rattle.sweep_laws.specs.Mixtures.{Past, past}
use Rattle.sweep_laws.proofs.Mixtures.{past_same}
use Rattle.sweep_laws.specs.Finalizes.{Far, Wrote}

wrote_none : {E : Type 0} {w : List ℕ} → Wrote E w w
wrote_none = record { long = refl; word = λ x f. refl; phase = inl refl }

-- a far word is none of 53 and 59 to 63
off : {x : ℕ} → Far x → (p : ℕ) → ((p ≡ 53) ⊎ ((59 ≤ p) × (p < 64))) → x ≢ p
off (inl f) p (inl g) e = omega (arith, e, f, g)
off (inl f) p (inr g) e = omega (arith, e, f, g.0)
off (inr (inl f)) p (inl g) e = omega (arith, e, f, g)
off (inr (inl f)) p (inr g) e = omega (arith, e, f, g.0)
off (inr (inr f)) p (inl g) e = omega (arith, e, f, g)
off (inr (inr f)) p (inr g) e = omega (arith, e, f, g.1)

-- The estimate is lowered,
lower_wrote : {E : Type 0} (w : List ℕ) → Wrote E w (lower_estimate w)
lower_wrote w =
    let cs : List (ℕ × ℕ) = (ESTIMATE, lowered (at w ESTIMATE)) ∷ [] in
    record {
      long = puts_length cs w;
      word = λ x f. puts_far cs w x (off f ESTIMATE (inr (omega arith, omega arith)), tt);
      phase = inl (puts_far cs w PHASE ((λ e. omega (arith, e)), tt));
    }

-- or the threshold is set,
handed_wrote : {E : Type 0} (w : List ℕ) → Wrote E w (handed_out w)
handed_wrote w =
    let n : ℕ = at w TOTAL + 1024 in
    let cs : List (ℕ × ℕ) = (THRESHOLD + 1, n / 4294967296) ∷ (THRESHOLD, n % 4294967296) ∷ [] in
    record {
      long = puts_length cs w;
      word = λ x f. puts_far cs w x (off f (THRESHOLD + 1) (inr (omega arith, omega arith)), (off f THRESHOLD (inr (omega arith, omega arith)), tt));
      phase = inl (puts_far cs w PHASE ((λ e. omega (arith, e)), ((λ e. omega (arith, e)), tt)));
    }

-- or the cycle ends: Pause, and no debt.
pub end_phase : (w : List ℕ) → 91 ≤ length w → at (end_cycle w) PHASE ≡ 0
end_phase w h =
    let n : ℕ = 9223372036854775808 in
    puts_at ((DEBT + 1, n / 4294967296) ∷ (DEBT, n % 4294967296) ∷ []) PHASE 0 [] w ((λ e. omega (arith, e)), ((λ e. omega (arith, e)), tt)) (omega (arith, h))

end_wrote : {E : Type 0} (w : List ℕ) → 91 ≤ length w → E → Wrote E w (end_cycle w)
end_wrote w h k =
    let n : ℕ = 9223372036854775808 in
    let c₁ : ℕ × ℕ = (DEBT + 1, n / 4294967296) in
    let c₂ : ℕ × ℕ = (DEBT, n % 4294967296) in
    let cs : List (ℕ × ℕ) = c₁ ∷ c₂ ∷ (PHASE, 0) ∷ [] in
    record {
      long = puts_length cs w;
      word = λ x f. puts_far cs w x (off f (DEBT + 1) (inr (omega arith, omega arith)), (off f DEBT (inr (omega arith, omega arith)), (off f PHASE (inl refl), tt)));
      phase = inr (end_phase w h, k);
    }

-- An item's turn.
pub item_words : {E : Type 0} (l : Lay) (w : List ℕ) → 91 ≤ length w → (y : Option Item) → (y ≡ None → E) → Wrote E w (finalized l (y, w)).1
unfolding finalize_item finalize
item_words l w h None k = end_wrote w h (k refl)
item_words l w h (Some (Table r)) k = wrote_none
item_words l w h (Some (Function r)) k = wrote_none
item_words l w h (Some (Thread r)) k = wrote_none
item_words l w h (Some Main) k = wrote_none
item_words l w h (Some Unknown) k = wrote_none
item_words {E} l w h (Some (Userdata r)) k = go (is_nil (method_of l r w))
  where
    go : (d : Bool) → Wrote E w (cond {A = Single × List ℕ} d (Cost 100, lower_estimate w) (Out r (method_of l r w), handed_out w)).1
    go true = lower_wrote w
    go false = handed_wrote w

-- Nothing is popped from an empty list alone.
abbrev gotten : Option Item → ℕ
gotten None = 0
gotten (Some x) = 1

pub pop_empty : (q : Queue) (w : List ℕ) → (pop q w).0 ≡ None → length_of q w ≡ 0
pop_empty q w e = go (ℕ_discrete (length_of q w) 0)
  where
    go : Dec (length_of q w ≡ 0) → length_of q w ≡ 0
    go (yes z) = z
    go (no d) = absurd (let t : ◌≡◌ {A = ℕ} 1 0 = sym (ap (λ (p : Option Item × List ℕ). gotten p.0) (pop_some q w d)) ∙ ap gotten e in omega (arith, t))

-- At Finalize a single step is that.
pub finalize_step_lem : (l : Lay) (h : Heap) → at h.words PHASE ≡ 4 → single_step l h ≡ in_bytes (finalize_step l h.words) h.bytes
unfolding single_step
finalize_step_lem l h e =
    sym
    (eq_no (at h.words PHASE) 0 (Cost 0, heap (start_cycle l h.words) h.bytes) _ (in_bytes (finalize_step l h.words) h.bytes) (λ z. omega (arith, z, e))
    (eq_no (at h.words PHASE) 1 (costs (propagate_step l h.bytes h.words) h.bytes) _ (in_bytes (finalize_step l h.words) h.bytes) (λ z. omega (arith, z, e))
    (eq_no (at h.words PHASE) 2 (Cost 10, sweep_strings l h) _ (in_bytes (finalize_step l h.words) h.bytes) (λ z. omega (arith, z, e))
    (eq_no (at h.words PHASE) 3 (Cost 800, sweep_others l h) _ (in_bytes (finalize_step l h.words) h.bytes) (λ z. omega (arith, z, e)) refl))))

module _ (l : Lay) (ok : Laid l) (a : Apart l) (r : Rows l) (am : Ample l) (y : Bodies l) (w b : List ℕ) (long : l.words ≤ length w) (f : AllWhite l w) (none : length_of l.queue w ≡ 0)
    (v : Arenas l w) where
  abbrev o : Order l
  o = order l ok a

  -- the words are as many
  pub past_long : {h : Heap} → Past l ok a r am y w b long f none v h → l.words ≤ length h.words
  past_long (past h₀ x s) = omega (arith, s.size, ready_long l ok a r w b long f v h₀ x)

  -- What the sweep freed stays.
  pub past_step : (h : Heap) → Past l ok a r am y w b long f none v h → at h.words PHASE ≡ 4 → Past l ok a r am y w b long f none v (single_step l h).1
  unfolding finalize_step
  past_step h s e =
      subst (λ (t : Heap). Past l ok a r am y w b long f none v t) (sym (ap (λ (t : Single × Heap). t.1) (finalize_step_lem l h e)))
      (past_same l ok a r am y w b long f none v h (heap u h.bytes) s (t.long ∙ p_long) (low WHITE (inr (inl refl)) (omega arith)) (low damage (inl (omega arith)) (omega arith))
      (⊎_elim (λ z. inl (z ∙ p_word PHASE (omega arith) (inl (omega (arith, o.header, a))) ∙ e)) (λ z. inr (z.0, ap (λ (n : ℕ). min n l.queue.room) (t.word l.queue.count (inr (inr (omega (arith, queue_count l ok))))) ∙ pop_length l.queue h.words (queue_room_lem l h.words ok h_long) ∙ omega (arith, z.1))) t.phase)
      (λ k c. record {
        cells = record {
          long = t.long ∙ p_long;
          header = λ x g q. high x (omega (arith, g, top_is l ok a r k c)) (inl (omega (arith, q, c, top_is l ok a r k c, o.header, a)));
          cells = λ x g q. high x (omega (arith, g, arena_header l o k c)) (inl (omega (arith, q, arena_lists l o k c, a)));
        };
        bodies = λ x g q. high x (omega (arith, g, body_past l ok a r k c, o.header, a)) (inr (omega (arith, g, body_past l ok a r k c, a)));
        size = refl;
        texts = λ x g. refl;
      }))
    where
      h_long : l.words ≤ length h.words
      h_long = past_long s

      p : Option Item × List ℕ
      p = pop l.queue h.words

      u : List ℕ
      u = (finalized l (pop l.queue h.words)).1

      p_long : length (pop l.queue h.words).1 ≡ length h.words
      p_long = pop_long l.queue h.words (queue_room_lem l h.words ok h_long)

      t : Wrote (length_of l.queue h.words ≡ 0) (pop l.queue h.words).1 (finalized l (pop l.queue h.words)).1
      t = item_words l (pop l.queue h.words).1 (omega (arith, p_long, h_long, o.words, o.header, a)) (pop l.queue h.words).0 (pop_empty l.queue h.words)

      p_word : (x : ℕ) → x ≢ 72 → (x < l.queue.base) ⊎ (l.queue.base + 3 * l.queue.room ≤ x) → at (pop l.queue h.words).1 x ≡ at h.words x
      p_word x d q = pop_kept l.queue h.words (queue_room_lem l h.words ok h_long) x (λ z. d (omega (arith, z, queue_count l ok))) q

      low : (x : ℕ) → Far x → x < 72 → at (finalized l (pop l.queue h.words)).1 x ≡ at h.words x
      low x d g = t.word x d ∙ p_word x (omega (arith, g)) (inl (omega (arith, g, o.header, a)))

      high : (x : ℕ) → 73 ≤ x → (x < l.queue.base) ⊎ (l.queue.base + 3 * l.queue.room ≤ x) → at (finalized l (pop l.queue h.words)).1 x ≡ at h.words x
      high x g q = t.word x (inr (inr (omega (arith, g)))) ∙ p_word x (omega (arith, g)) q

  -- The cycle ends if the queue is empty; else it is shorter by one.
  pub past_less : (h : Heap) → Past l ok a r am y w b long f none v h → at h.words PHASE ≡ 4
      → (at (single_step l h).1.words PHASE ≡ 0) ⊎ ((at (single_step l h).1.words PHASE ≡ 4) × (length_of l.queue (single_step l h).1.words + 1 ≡ length_of l.queue h.words))
  unfolding finalize_step
  past_less h s e =
      subst (λ (x : Heap). (at x.words PHASE ≡ 0) ⊎ ((at x.words PHASE ≡ 4) × (length_of l.queue x.words + 1 ≡ length_of l.queue h.words))) (sym (ap (λ (x : Single × Heap). x.1) (finalize_step_lem l h e)))
      (go (ℕ_discrete (length_of l.queue h.words) 0))
    where
      h_long : l.words ≤ length h.words
      h_long = past_long s

      p_long : length (pop l.queue h.words).1 ≡ length h.words
      p_long = pop_long l.queue h.words (queue_room_lem l h.words ok h_long)

      u : List ℕ
      u = (finalized l (pop l.queue h.words)).1

      ended : length_of l.queue h.words ≡ 0 → at u PHASE ≡ 0
      ended z =
          ap (λ (x : Option Item × List ℕ). at (finalized l x).1 PHASE) (pop_none l.queue h.words z)
          ∙ end_phase h.words (omega (arith, h_long, o.words, o.header, a))

      go : Dec (length_of l.queue h.words ≡ 0) → (at u PHASE ≡ 0) ⊎ ((at u PHASE ≡ 4) × (length_of l.queue u + 1 ≡ length_of l.queue h.words))
      go (yes z) = inl (ended z)
      go (no d) =
          let t = item_words {E = ⊥} l (pop l.queue h.words).1 (omega (arith, p_long, h_long, o.words, o.header, a)) (pop l.queue h.words).0 (λ z. d (pop_empty l.queue h.words z)) in
          inr (
            ⊎_elim (λ z. z) (λ z. absurd z.1) t.phase
                ∙ pop_kept l.queue h.words (queue_room_lem l h.words ok h_long) PHASE (λ z. omega (arith, z, queue_count l ok)) (inl (omega (arith, o.header, a)))
                ∙ e,
            last (length_of l.queue u) (length_of l.queue h.words)
                (ap (λ (n : ℕ). min n l.queue.room) (t.word l.queue.count (inr (inr (omega (arith, queue_count l ok))))) ∙ pop_length l.queue h.words (queue_room_lem l h.words ok h_long)) d,
          )
        where
          last : (n m : ℕ) → n ≡ m - 1 → m ≢ 0 → n + 1 ≡ m
          last n m f d = omega (arith, f, d)
