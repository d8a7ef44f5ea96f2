-- A single step of the sweep keeps the state, and goes on. Assumes nothing.
--     white_clean, clean_white     an arena that is swept below a slot: its occupied slots there have the current white
--     sweep_word, sweep_sum     words of the header that such a step leaves; the total
--     Sweeping, sweep_free     the step, and where it comes to
use Rattle.std.specs.Prelude.{◌≡◌, cond, ◌⊎◌, ◌≢◌, length}
use Rattle.std.proofs.Math.Path.{refl, subst}
use Rattle.std.proofs.Common.{sym, ap, ◌∙◌, inl, inr, arith}
use mathlib.Core.List.Memᴰ
use mathlib.Core.List.{List, [], ◌∷◌}
use Prim.Native.Nat.{ℕ, suc, ◌+◌, ◌-◌, ◌*◌, ◌≤◌, ◌<◌}
use Rattle.std.proofs.Math.Decide.{ℕ_discrete, dec_lt}
use Rattle.base.specs.Ways.{if_lt}
use Rattle.base.specs.Words.{at, put}
use Rattle.base.specs.Heap.{Heap}
use Rattle.arena.specs.declared.Arena.{Arena}
use Rattle.arena.specs.Slots.{colour, fresh, count, sweep_partial}
use Rattle.arena_laws.specs.Words.{puts_far, puts_at}
use Rattle.arena_laws.specs.Chain.{WellFormed}
use Rattle.arena_laws.specs.Changes.{Outside}
use Rattle.arena_laws.specs.Sweeps.{Sweeps, sweep_does}
use Rattle.layout.specs.declared.Lay.{Lay}
use Rattle.layout.specs.Places.{PROTOTYPES, DAMAGE, PHASE, WHITE, CURSOR_ARENA, CURSOR_SLOT, TOTAL, ESTIMATE, INTERRUPTED, QUEUE}
use Rattle.layout.specs.Layout.{lay_of}
use Rattle.laid.specs.Laid.{Laid}
use Rattle.mark.specs.Ops.{other_white}
use Rattle.mark.specs.Words.{arena_of}
use Rattle.sweep_step.specs.declared.SweepCursor.{SweepCursor}
use Rattle.sweep_step.specs.Cursor.{start, advanced, next_arena, cursor_at, put_cursor}
use Rattle.sweep_step.specs.Sweeping.{arena_at, size_at, taken, sweep_arena, strings_moved, sweep_strings, others_moved, sweep_others}
use Rattle.step.specs.Step.{single_step}
use Rattle.mark_laws.specs.Apart.{Apart, Order, order, arena_lists}
use Rattle.atomic_laws.proofs.Survives.{other_white_lem}
use Rattle.sweep_laws.specs.Places.{Rows, six_room, top_is, low_outside, header_outside, arena_at_lem}
use Rattle.sweep_laws.specs.Batches.{Clean, clean_none}
use Rattle.sweep_laws.specs.Turns.{To, Stage, Progress}
use Rattle.sweep_laws.proofs.Turns.{strings_step, others_step, stage_step}
use Rattle.state_laws.specs.State.{worth, Sum, Swept, State, state_parted, mains_same, nested_same, lists_same, sizes_same}
use Rattle.state_laws.specs.Takes.{kind_size}
use Rattle.state_laws.proofs.Takes.{worth_more}
use Rattle.state_laws.specs.Plains.{cond_both, lt_both}
use Rattle.state_step_laws.specs.Sums.{cleaned_count, size_at_lem}
use Rattle.state_step_laws.specs.Marks.{Free}

-- Where the occupied slots below n have the current white, the arena is swept below n already.
white_clean : (a : Arena) (dead white n : ℕ) (h : Heap) (v : WellFormed a h.words) → n ≤ fresh a h.words → 1 ≤ dead → dead ≢ white
    → ((i : ℕ) → i < n → colour a i h.words ≢ 0 → colour a i h.words ≡ white) → Clean a dead white n h h v.free
white_clean a dead white n h v within low d whites = record {
  long = refl;
  size = refl;
  within = within;
  end = refl;
  gone = [];
  falls = tt;
  is = λ i. ((λ m. absurd (Memᴰ.not-nil m)), (λ q. absurd (d (sym q.1 ∙ whites i q.0 (λ z. omega (arith, low, z, q.1))))));
  keeps = v;
  chain = refl;
  died = λ i m. absurd (Memᴰ.not-nil m);
  painted = λ i p q z. whites i p q;
  idle = λ i l e. e;
  left = λ i l p. refl;
  aged = λ i m. absurd (Memᴰ.not-nil m);
  gens = λ i l m. refl;
  extents = λ i l m. refl;
  zeroed = λ i k m. absurd (Memᴰ.not-nil m);
  erased = λ z i k m. absurd (Memᴰ.not-nil m);
  bodies = λ i k l m p. refl;
  texts = λ i k l m p. refl;
}

-- And where it was swept below n, they have it.
clean_white : {a : Arena} {dead white n : ℕ} {h g : Heap} {before : List ℕ} → Clean a dead white n h g before → (i : ℕ) → i < a.slots → i < n → colour a i g.words ≢ 0
    → colour a i g.words ≡ white
clean_white {a} {dead} {white} {n} {h} {g} c i s p d = go (ℕ_discrete (colour a i h.words) 0) (ℕ_discrete (colour a i h.words) dead)
  where
    go : Dec (colour a i h.words ≡ 0) → Dec (colour a i h.words ≡ dead) → colour a i g.words ≡ white
    go (yes e) z = absurd (d (c.idle i s e))
    go (no e) (yes z) = absurd (d (c.died i ((c.is i).1 (p, z))))
    go (no e) (no z) = c.painted i p e z

-- Phase and cursor are written.
record Moved (u v : List ℕ) : Type 0 where
  total : at v TOTAL ≡ at u TOTAL
  high : (x : ℕ) → 73 ≤ x → at v x ≡ at u x

moved_then : {u v t : List ℕ} → Moved u v → Moved v t → Moved u t
moved_then p q = record { total = q.total ∙ p.total; high = λ x f. q.high x f ∙ p.high x f }

cursor_moved : (c : SweepCursor) (u : List ℕ) → Moved u (put_cursor c u)
cursor_moved c u =
    let cs : List (ℕ × ℕ) = (CURSOR_SLOT, c.slot_position) ∷ (CURSOR_ARENA, c.arena_index) ∷ [] in
    record {
      total = puts_far cs u TOTAL ((λ e. omega (arith, e)), ((λ e. omega (arith, e)), tt));
      high = λ x f. puts_far cs u x ((λ e. omega (arith, e, f)), ((λ e. omega (arith, e, f)), tt));
    }

phase_moved : (n : ℕ) (u : List ℕ) → Moved u (put PHASE n u)
phase_moved n u = record {
  total = puts_far ((PHASE, n) ∷ []) u TOTAL ((λ e. omega (arith, e)), tt);
  high = λ x f. puts_far ((PHASE, n) ∷ []) u x ((λ e. omega (arith, e, f)), tt);
}

module _ (l : Lay) (ok : Laid l) (a : Apart l) (r : Rows l) where
  abbrev o : Order l
  o = order l ok a

  -- Words past the estimate that are of no arena stay.
  module _ (h : Heap) (s : State l h) (x : ℕ) (f : 60 ≤ x) (g : (k : ℕ) → k ≤ 5 → Outside (arena_of l k) x) where
    other : (k : ℕ) → k ≤ 5 → (from : ℕ) → at (sweep_partial (arena_of l k) (other_white (at h.words WHITE)) (at h.words WHITE) from 80 h).1.words x ≡ at h.words x
    other k i from =
        (sweep_does (arena_of l k) (other_white (at h.words WHITE)) (at h.words WHITE) from 80 h (six_room l ok a r h.words s.long k i) (s.arenas k i)
        (other_white_lem (at h.words WHITE) s.low s.high).0 s.low (omega (arith, s.high))
        ).cleaned.outside x (g k i)

    off : (p : ℕ) → p < 60 → x ≢ p
    off p h e = omega (arith, f, h, e)

    -- total and estimate, cursor, phase
    taken_word : (n : ℕ) (w : List ℕ) → at (taken n w) x ≡ at w x
    unfolding taken
    taken_word n w =
        let w₁ : List ℕ = put TOTAL (at w TOTAL - n) w in
        puts_far ((ESTIMATE, at w₁ ESTIMATE - n) ∷ (TOTAL, at w TOTAL - n) ∷ []) w x (off ESTIMATE (omega arith), (off TOTAL (omega arith), tt))

    cursor_word : (c : SweepCursor) (w : List ℕ) → at (put_cursor c w) x ≡ at w x
    cursor_word c w =
        puts_far ((CURSOR_SLOT, c.slot_position) ∷ (CURSOR_ARENA, c.arena_index) ∷ []) w x (off CURSOR_SLOT (omega arith), (off CURSOR_ARENA (omega arith), tt))

    phase_word : (n : ℕ) (w : List ℕ) → at (put PHASE n w) x ≡ at w x
    phase_word n w = puts_far ((PHASE, n) ∷ []) w x (off PHASE (omega arith), tt)

    strings_word : at (sweep_strings l h).words x ≡ at h.words x
    unfolding sweep_strings sweep_arena strings_moved
    strings_word =
        let q = sweep_partial l.strings (other_white (at h.words WHITE)) (at h.words WHITE) (at h.words CURSOR_SLOT) 80 h in
        let w = taken (q.0.freed * 48) q.1.words in
        cond_both (λ (u : List ℕ). at u x ≡ at h.words x) q.0.done (put PHASE 3 (put_cursor start w)) (put_cursor (advanced (cursor_at h.words) q.0.next) w)
        (λ e. phase_word 3 (put_cursor start w) ∙ cursor_word start w ∙ taken_word (q.0.freed * 48) q.1.words ∙ other 0 (omega arith) (at h.words CURSOR_SLOT))
        (λ e. cursor_word (advanced (cursor_at h.words) q.0.next) w ∙ taken_word (q.0.freed * 48) q.1.words ∙ other 0 (omega arith) (at h.words CURSOR_SLOT))

    others_word : at h.words CURSOR_ARENA ≤ 4 → at (sweep_others l h).words x ≡ at h.words x
    unfolding sweep_others sweep_arena others_moved
    others_word i =
        let b : Arena = arena_at l (at h.words CURSOR_ARENA) in
        let q = sweep_partial b (other_white (at h.words WHITE)) (at h.words WHITE) (at h.words CURSOR_SLOT) 80 h in
        let n : ℕ = q.0.freed * size_at (at h.words CURSOR_ARENA) in
        let w = taken n q.1.words in
        let c = cursor_at h.words in
        let rest : at w x ≡ at h.words x =
        taken_word n q.1.words
        ∙ subst (λ (b : Arena). at (sweep_partial b (other_white (at h.words WHITE)) (at h.words WHITE) (at h.words CURSOR_SLOT) 80 h).1.words x ≡ at h.words x) (sym (arena_at_lem l (at h.words CURSOR_ARENA) i))
        (other (suc (at h.words CURSOR_ARENA)) (omega (arith, i)) (at h.words CURSOR_SLOT)) in
        cond_both (λ (u : List ℕ). at u x ≡ at h.words x) q.0.done (if_lt (at h.words CURSOR_ARENA) 4 (put_cursor (next_arena c) w) (put PHASE 4 w)) (put_cursor (advanced c q.0.next) w)
        (λ e. lt_both (λ (u : List ℕ). at u x ≡ at h.words x) (at h.words CURSOR_ARENA) 4 (put_cursor (next_arena c) w) (put PHASE 4 w) (λ z. cursor_word (next_arena c) w ∙ rest) (λ z. phase_word 4 w ∙ rest))
        (λ e. cursor_word (advanced c q.0.next) w ∙ rest)

    -- So a single step of the sweep leaves them.
    sweep_word : (t : Swept l h.words) → t.arena ≤ 5 → at (single_step l h).1.words x ≡ at h.words x
    sweep_word t i = go (ℕ_discrete t.arena 0)
      where
        go : Dec (t.arena ≡ 0) → at (single_step l h).1.words x ≡ at h.words x
        go (yes e) = ap (λ (y : Heap). at y.words x) (strings_step l h (t.strings e).0) ∙ strings_word
        go (no e) = let m = t.others (omega (arith, e)) i in ap (λ (y : Heap). at y.words x) (others_step l h m.0) ∙ others_word (omega (arith, m.1, i))

  -- What a batch of arena k frees is taken off the total.
  module _ (h : Heap) (s : State l h) where
    batch_sum : (k : ℕ) → k ≤ 5 → (from : ℕ) (v : List ℕ)
        → at v TOTAL ≡ at h.words TOTAL - (sweep_partial (arena_of l k) (other_white (at h.words WHITE)) (at h.words WHITE) from 80 h).0.freed * kind_size k
        → ((x : ℕ) → 73 ≤ x → x < 91 → at v x ≡ at (sweep_partial (arena_of l k) (other_white (at h.words WHITE)) (at h.words WHITE) from 80 h).1.words x)
        → Sum l v
    batch_sum k i from v e word =
        let c = does.cleaned in
        let w = worth_more l ok a r k freed i h.words v (ap (λ (n : ℕ). n + freed) (counted k i) ∙ cleaned_count (s.arenas k i) (other_white_lem white s.low s.high).0 s.low c)
        (λ j f d. counted j f ∙ c.outside ((arena_of l j).top + 2) (header_outside l ok a r k j i f (λ z. d (sym z)) ((arena_of l j).top + 2) (omega arith) (omega arith))) in
        record {
          total = less (at v TOTAL) (at h.words TOTAL) (freed * kind_size k) (worth l v) (worth l h.words) e s.sum.total w;
          most = lower (at v TOTAL) (at h.words TOTAL) (freed * kind_size k) e s.sum.most;
        }
      where
        white : ℕ
        white = at h.words WHITE

        freed : ℕ
        freed = (sweep_partial (arena_of l k) (other_white (at h.words WHITE)) (at h.words WHITE) from 80 h).0.freed

        does : Sweeps (arena_of l k) (other_white (at h.words WHITE)) (at h.words WHITE) from 80 h (s.arenas k i).free (sweep_partial (arena_of l k) (other_white (at h.words WHITE)) (at h.words WHITE) from 80 h)
        does =
            sweep_does (arena_of l k) (other_white (at h.words WHITE)) (at h.words WHITE) from 80 h (six_room l ok a r h.words s.long k i) (s.arenas k i)
            (other_white_lem (at h.words WHITE) s.low s.high).0 s.low (omega (arith, s.high))

        counted : (j : ℕ) → j ≤ 5 → count (arena_of l j) v ≡ count (arena_of l j) (sweep_partial (arena_of l k) (other_white (at h.words WHITE)) (at h.words WHITE) from 80 h).1.words
        counted j f = word ((arena_of l j).top + 2) (omega (arith, top_is l ok a r j f)) (omega (arith, f, top_is l ok a r j f))

        less : (x y d p q : ℕ) → x ≡ y - d → y ≡ q → p + d ≡ q → x ≡ p
        less x y d p q e f g = omega (arith, e, f, g)

        lower : (x y d : ℕ) → x ≡ y - d → y ≤ 2147483647 → x ≤ 2147483647
        lower x y d e f = omega (arith, e, f)

    -- the words of the header that a step writes beside the batch
    taken_total : (n : ℕ) (u : List ℕ) → 91 ≤ length u → (at (taken n u) TOTAL ≡ at u TOTAL - n) × ((x : ℕ) → 73 ≤ x → at (taken n u) x ≡ at u x)
    unfolding taken
    taken_total n u f =
        let u₁ : List ℕ = put TOTAL (at u TOTAL - n) u in (
          puts_at ((ESTIMATE, at u₁ ESTIMATE - n) ∷ []) TOTAL (at u TOTAL - n) [] u ((λ e. omega (arith, e)), tt) (omega (arith, f)),
          λ x g. puts_far ((ESTIMATE, at u₁ ESTIMATE - n) ∷ (TOTAL, at u TOTAL - n) ∷ []) u x ((λ e. omega (arith, e, g)), ((λ e. omega (arith, e, g)), tt)),
        )

    -- a batch and then these
    moved_sum : (k : ℕ) → k ≤ 5 → (size : ℕ) → size ≡ kind_size k → (from : ℕ) (v : List ℕ)
        → Moved (taken ((sweep_partial (arena_of l k) (other_white (at h.words WHITE)) (at h.words WHITE) from 80 h).0.freed * size) (sweep_partial (arena_of l k) (other_white (at h.words WHITE)) (at h.words WHITE) from 80 h).1.words) v
        → Sum l v
    moved_sum k i size e from v m =
        let q = sweep_partial (arena_of l k) (other_white (at h.words WHITE)) (at h.words WHITE) from 80 h in
        let t = taken_total (q.0.freed * size) q.1.words (omega (arith, long, s.long, o.words, o.header, a)) in
        batch_sum k i from v
        (m.total ∙ t.0 ∙ ap (λ (n : ℕ). n - q.0.freed * size) (outside TOTAL (omega arith)) ∙ ap (λ (n : ℕ). at h.words TOTAL - q.0.freed * n) e)
        (λ x f g. m.high x f ∙ t.1 x f)
      where
        does : Sweeps (arena_of l k) (other_white (at h.words WHITE)) (at h.words WHITE) from 80 h (s.arenas k i).free (sweep_partial (arena_of l k) (other_white (at h.words WHITE)) (at h.words WHITE) from 80 h)
        does =
            sweep_does (arena_of l k) (other_white (at h.words WHITE)) (at h.words WHITE) from 80 h (six_room l ok a r h.words s.long k i) (s.arenas k i)
            (other_white_lem (at h.words WHITE) s.low s.high).0 s.low (omega (arith, s.high))

        long : length (sweep_partial (arena_of l k) (other_white (at h.words WHITE)) (at h.words WHITE) from 80 h).1.words ≡ length h.words
        long = does.cleaned.long

        outside : (x : ℕ) → x < 73 → at (sweep_partial (arena_of l k) (other_white (at h.words WHITE)) (at h.words WHITE) from 80 h).1.words x ≡ at h.words x
        outside x f = does.cleaned.outside x (low_outside l ok a r k x i f)

    strings_sum : Sum l (sweep_strings l h).words
    unfolding sweep_strings sweep_arena strings_moved
    strings_sum =
        let q = sweep_partial l.strings (other_white (at h.words WHITE)) (at h.words WHITE) (at h.words CURSOR_SLOT) 80 h in
        let w = taken (q.0.freed * 48) q.1.words in
        cond_both (λ (u : List ℕ). Sum l u) q.0.done (put PHASE 3 (put_cursor start w)) (put_cursor (advanced (cursor_at h.words) q.0.next) w)
        (λ e. moved_sum 0 (omega arith) 48 refl (at h.words CURSOR_SLOT) _ (moved_then (cursor_moved start w) (phase_moved 3 (put_cursor start w))))
        (λ e. moved_sum 0 (omega arith) 48 refl (at h.words CURSOR_SLOT) _ (cursor_moved (advanced (cursor_at h.words) q.0.next) w))

    others_sum : at h.words CURSOR_ARENA ≤ 4 → Sum l (sweep_others l h).words
    unfolding sweep_others sweep_arena others_moved
    others_sum i = subst P (sym (arena_at_lem l (at h.words CURSOR_ARENA) i)) there
      where
        c : SweepCursor
        c = cursor_at h.words

        size : ℕ
        size = size_at (at h.words CURSOR_ARENA)

        -- by the arena that is swept
        P : Arena → Type 0
        P b =
            Sum l (cond (sweep_partial b (other_white (at h.words WHITE)) (at h.words WHITE) (at h.words CURSOR_SLOT) 80 h).0.done
            (if_lt (at h.words CURSOR_ARENA) 4
            (put_cursor (next_arena (cursor_at h.words)) (taken ((sweep_partial b (other_white (at h.words WHITE)) (at h.words WHITE) (at h.words CURSOR_SLOT) 80 h).0.freed * size_at (at h.words CURSOR_ARENA)) (sweep_partial b (other_white (at h.words WHITE)) (at h.words WHITE) (at h.words CURSOR_SLOT) 80 h).1.words))
            (put PHASE 4 (taken ((sweep_partial b (other_white (at h.words WHITE)) (at h.words WHITE) (at h.words CURSOR_SLOT) 80 h).0.freed * size_at (at h.words CURSOR_ARENA)) (sweep_partial b (other_white (at h.words WHITE)) (at h.words WHITE) (at h.words CURSOR_SLOT) 80 h).1.words)))
            (put_cursor (advanced (cursor_at h.words) (sweep_partial b (other_white (at h.words WHITE)) (at h.words WHITE) (at h.words CURSOR_SLOT) 80 h).0.next) (taken ((sweep_partial b (other_white (at h.words WHITE)) (at h.words WHITE) (at h.words CURSOR_SLOT) 80 h).0.freed * size_at (at h.words CURSOR_ARENA)) (sweep_partial b (other_white (at h.words WHITE)) (at h.words WHITE) (at h.words CURSOR_SLOT) 80 h).1.words)))

        there : P (arena_of l (suc (at h.words CURSOR_ARENA)))
        there =
            let k : ℕ = suc (at h.words CURSOR_ARENA) in
            let q = sweep_partial (arena_of l k) (other_white (at h.words WHITE)) (at h.words WHITE) (at h.words CURSOR_SLOT) 80 h in
            let w = taken (q.0.freed * size) q.1.words in
            let small : k ≤ 5 = omega (arith, i) in
            let e = size_at_lem (at h.words CURSOR_ARENA) i in
            cond_both (λ (u : List ℕ). Sum l u) q.0.done _ _
            (λ z. lt_both (λ (u : List ℕ). Sum l u) (at h.words CURSOR_ARENA) 4 (put_cursor (next_arena c) w) (put PHASE 4 w)
            (λ y. moved_sum k small size e (at h.words CURSOR_SLOT) _ (cursor_moved (next_arena c) w)) (λ y. moved_sum k small size e (at h.words CURSOR_SLOT) _ (phase_moved 4 w)))
            (λ z. moved_sum k small size e (at h.words CURSOR_SLOT) _ (cursor_moved (advanced c q.0.next) w))

    -- So after a step of the sweep the total is again the sum.
    sweep_sum : (t : Swept l h.words) → t.arena ≤ 5 → Sum l (single_step l h).1.words
    sweep_sum t i = go (ℕ_discrete t.arena 0)
      where
        go : Dec (t.arena ≡ 0) → Sum l (single_step l h).1.words
        go (yes e) = subst (λ (y : Heap). Sum l y.words) (sym (strings_step l h (t.strings e).0)) strings_sum
        go (no e) = let m = t.others (omega (arith, e)) i in subst (λ (y : Heap). Sum l y.words) (sym (others_step l h m.0)) (others_sum (omega (arith, m.1, i)))

  -- What a step of the sweep comes to: it is further on; the queue is as long as it was.
  pub record Sweeping (h g : Heap) (j n : ℕ) : Type 0 where
    pub swept : Swept l g.words
    pub free : Free l g
    pub on : Progress j n swept.arena swept.slot
    pub queue : at g.words QUEUE ≡ at h.words QUEUE

  module _ (h : Heap) (c : Free l h) (t : Swept l h.words) (i : t.arena ≤ 5) where
    abbrev s : State l h
    s = c.state

    abbrev g : Heap
    g = (single_step l h).1

    whites : (1 ≤ other_white (at h.words WHITE)) × (other_white (at h.words WHITE) ≤ 4) × (other_white (at h.words WHITE) ≢ at h.words WHITE)
    whites = other_white_lem (at h.words WHITE) s.low s.high

    -- a prototype is in no arena
    proto_outside : (k x : ℕ) → k ≤ 5 → l.boundary ≤ x → x < l.stack.base → Outside (arena_of l k) x
    proto_outside k x z f q = record {
      header = inr (omega (arith, f, z, top_is l ok a r k z, o.header, a));
      cells = inr (omega (arith, f, arena_lists l o k z, a));
      bodies = inl (omega (arith, q, (state_parted s).bodies k z));
    }

    -- The stage of the sweep, begun here.
    stage : Stage l h c.state.arenas t.arena t.slot h
    stage = record {
      long = refl;
      first = λ x p. refl;
      queue = λ x p. refl;
      white = refl;
      most = t.most;
      strings = t.strings;
      others = t.others;
      ended = λ e. absurd (let z : ⊥ = omega (arith, e, i) in z);
      done = λ k j p.
          white_clean (arena_of l k) _ _ (fresh (arena_of l k) h.words) h (s.arenas k j) (omega arith) whites.0 whites.2
          (λ x q. t.white k x j (omega (arith, q, (s.arenas k j).within)) (inl p));
      now = λ j.
          white_clean (arena_of l t.arena) _ _ t.slot h (s.arenas t.arena j) (t.within j) whites.0 whites.2
          (λ x q. t.white t.arena x j (omega (arith, q, t.within j, (s.arenas t.arena j).within)) (inr (refl, q)));
      rest = λ k j p. clean_none (arena_of l k) _ _ h (s.arenas k j);
    }

    pub sweep_free : Sweeping h (single_step l h).1 t.arena t.slot
    sweep_free = go (stage_step l ok a r h s.arenas s.long s.low s.high t.arena t.slot h i stage)
      where
        go : (j : ℕ) × (n : ℕ) × Stage l h c.state.arenas j n (single_step l h).1 × Progress t.arena t.slot j n → Sweeping h (single_step l h).1 t.arena t.slot
        go (j, n, e, p) = record { swept = next; free = record { state = after; none = none }; on = p; queue = sweep_word h s QUEUE (omega arith) (λ k f. low_outside l ok a r k QUEUE f (omega arith)) t i }
          where
            none : at (single_step l h).1.words INTERRUPTED ≡ 0
            none = sweep_word h s INTERRUPTED (omega arith) (λ k f. low_outside l ok a r k INTERRUPTED f (omega arith)) t i ∙ c.none

            -- each arena is swept to some slot
            each : (k : ℕ) (f : k ≤ 5) → (m : ℕ) × To l k m h (single_step l h).1 (s.arenas k f).free
            each k f = pick (dec_lt k j) (dec_lt j k)
              where
                pick : Dec (k < j) → Dec (j < k) → (m : ℕ) × To l k m h (single_step l h).1 (s.arenas k f).free
                pick (yes z) y = (fresh (arena_of l k) h.words, e.done k f z)
                pick (no z) (yes y) = (0, e.rest k f y)
                pick (no z) (no y) =
                    let q : j ≡ k = omega (arith, z, y) in
                    (n, subst (λ (k : ℕ). (f : k ≤ 5) → To l k n h (single_step l h).1 (s.arenas k f).free) q (λ f. e.now f) f)

            phase : (2 ≤ at (single_step l h).1.words PHASE)
            phase = pick (ℕ_discrete j 0) (dec_lt j 6)
              where
                pick : Dec (j ≡ 0) → Dec (j < 6) → 2 ≤ at (single_step l h).1.words PHASE
                pick (yes z) y = omega (arith, (e.strings z).0)
                pick (no z) (yes y) = omega (arith, (e.others (omega (arith, z)) (omega (arith, y))).0)
                pick (no z) (no y) = omega (arith, e.ended (omega (arith, y, e.most)))

            white : (k x : ℕ) (f : k ≤ 5) → x < (arena_of l k).slots → (k < j) ⊎ ((k ≡ j) × (x < n)) → colour (arena_of l k) x (single_step l h).1.words ≢ 0
                → colour (arena_of l k) x (single_step l h).1.words ≡ at h.words WHITE
            white k x f q (inl z) d = below (dec_lt x (fresh (arena_of l k) h.words))
              where
                below : Dec (x < fresh (arena_of l k) h.words) → colour (arena_of l k) x (single_step l h).1.words ≡ at h.words WHITE
                below (yes y) = clean_white (e.done k f z) x q y d
                below (no y) = absurd (d ((e.done k f z).keeps.unused x (omega (arith, y, (e.done k f z).end)) q))
            white k x f q (inr z) d =
                subst (λ (y : ℕ). y ≤ 5 → x < (arena_of l y).slots → colour (arena_of l y) x (single_step l h).1.words ≢ 0 → colour (arena_of l y) x (single_step l h).1.words ≡ at h.words WHITE) (sym z.0)
                (λ f q d. clean_white (e.now f) x q z.1 d) f q d

            next : Swept l (single_step l h).1.words
            next = record {
              arena = j;
              slot = n;
              most = e.most;
              strings = e.strings;
              others = e.others;
              ended = λ z. inr (e.ended z);
              within = λ f. omega (arith, (e.now f).within, (e.now f).end);
              white = λ k x f q z d. white k x f q z d ∙ sym e.white;
            }

            after : State l (single_step l h).1
            after = record {
              sizes = ap lay_of (sizes_same h.words (single_step l h).1.words (λ x q. e.first x (omega (arith, q)))) ∙ s.sizes;
              long = omega (arith, s.long, e.long);
              wide = omega (arith, s.wide, (each 0 (omega arith)).1.size);
              whole = e.first DAMAGE (omega arith) ∙ s.whole;
              low = omega (arith, s.low, e.white);
              high = omega (arith, s.high, e.white);
              arenas = λ k f. (each k f).1.keeps;
              out = λ d. none;
              empty = λ f. absurd (let z : ⊥ = omega (arith, f, phase) in z);
              paid = λ f. absurd (let z : ⊥ = omega (arith, f, phase) in z);
              swept = λ d. next;
              lists = lists_same ok a h.words (single_step l h).1.words (λ x f q. sweep_word h s x (omega (arith, f)) (λ k z. low_outside l ok a r k x z (omega (arith, q))) t i) s.lists;
              mains = mains_same h.words (single_step l h).1.words (λ x f q. e.first x (omega (arith, q))) s.mains;
              sum = sweep_sum h s t i;
              nested = nested_same ok a s (single_step l h).1.words (e.first PROTOTYPES (omega arith))
                  (λ x f q. sweep_word h s x (omega (arith, f, o.header, a)) (λ k z. proto_outside k x z f q) t i);
            }
