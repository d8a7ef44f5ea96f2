-- A sweep in which nothing is dead leaves the heap, but the phase, the cursor and the words of pacing. Assumes nothing.
--     visit_idle, sweep_idle     one slot, and a batch
--     arena_white                an arena in which every occupied slot has the current white
--     step_idle                  a single step of such a sweep
use Rattle.std.specs.Prelude.{◌≡◌, refl, Bool, true, false, cond, ◌⊎◌, ◌≢◌, List, ℕ, zero, suc, min, ◌+◌, ◌-◌, ◌*◌, ◌≤◌, ◌<◌, ltb, length}
use Rattle.std.proofs.Math.Path.{sym, subst, ap}
use Rattle.std.proofs.Common.{◌∙◌, inl, inr, ⊎_elim, arith, length-set, get_or-set_same}
use Rattle.std.proofs.Math.Decide.{ℕ_discrete, dec_lt}
use Rattle.std.proofs.Math.Seq.{get_or-set_other}
use Rattle.std.proofs.lemmas.List.{set-get_or}
use Rattle.base.specs.Loop.{scan, scans}
use Rattle.base.specs.Ways.{if_eq, if_lt, eq_yes, eq_no, lt_yes, lt_no}
use Rattle.base.specs.Words.{at, put}
use Rattle.base.specs.Heap.{Heap, heap}
use Rattle.arena.specs.declared.Arena.{Arena}
use Rattle.arena.specs.declared.Sweep.{Sweep}
use Rattle.arena.specs.declared.Swept.{Swept}
use Rattle.arena.specs.Slots.{known, colour, gen, used, set_colour, free_slot, visit, visits, to_see, sweep_partial}
use Rattle.arena_laws.specs.Words.{le_is}
use Rattle.layout.specs.declared.Lay.{Lay}
use Rattle.layout.specs.Places.{PHASE, WHITE, CURSOR_ARENA, CURSOR_SLOT, TOTAL, ESTIMATE}
use Rattle.laid.specs.Laid.{Laid}
use Rattle.mark.specs.Ops.{other_white}
use Rattle.mark.specs.Words.{arena_of, colour_w}
use Rattle.sweep_step.specs.declared.SweepCursor.{SweepCursor}
use Rattle.sweep_step.specs.Cursor.{start, advanced, next_arena, cursor_at, put_cursor}
use Rattle.sweep_step.specs.Sweeping.{arena_at, size_at, taken, sweep_arena, strings_moved, sweep_strings, others_moved, sweep_others}
use Rattle.step.specs.Step.{single_step}
use Rattle.mark_laws.specs.Apart.{Apart, Order, order}
use Rattle.mark_laws.specs.Colours.{shade_parts}
use Rattle.reach.specs.Reached.{Occupied}
use Rattle.reach.specs.Cycle.{AllWhite}
use Rattle.atomic_laws.proofs.Dues.{shade_colour}
use Rattle.atomic_laws.proofs.Survives.{other_white_lem}
use Rattle.sweep_laws.specs.Places.{arena_at_lem}
use Rattle.sweep_laws.proofs.Turns.{strings_step, others_step}
use Rattle.sweep_laws.specs.Collections.{slot_at}
use Rattle.full_laws.specs.Calm.{Calm, calm_put, calm_whites}

-- A slot that is free, or has the white that is painted.
abbrev pub Plain : Arena → ℕ → List ℕ → ℕ → Type 0
Plain a white w i = (colour a i w ≡ 0) ⊎ (at w (a.base + i) ≡ white)

-- A visit leaves the heap,
visit_idle : (a : Arena) (dead white i : ℕ) (s : Sweep) (h : Heap) → 1 ≤ white → white ≤ 4 → white ≢ dead → Plain a white h.words i → (visit a dead white i s h).1 ≡ h
unfolding visit
visit_idle a dead white i s h low high d (inl e) = ap (λ (x : Sweep × Heap). x.1) (sym (eq_yes (colour a i h.words) 0 (s, h) _ (s, h) e refl))
visit_idle a dead white i s h low high d (inr e) =
    ap (λ (x : Sweep × Heap). x.1)
    (sym (eq_no (colour a i h.words) 0 (s, h) _ _ (λ z. omega (arith, z, is, low)) (eq_no (colour a i h.words) dead _ (record { left = s.left - 1; freed = s.freed }, heap (set_colour a i white h.words) h.bytes) _ (λ z. d (sym is ∙ z)) refl)))
    ∙ ap (λ (x : List ℕ). heap x h.bytes) (ap (λ (n : ℕ). put (a.base + i) n h.words) (sym e) ∙ set-get_or h.words (a.base + i) 0)
  where
    is : colour a i h.words ≡ white
    is = ap (λ (n : ℕ). known n) e ∙ le_is white 4 high

-- so does any number,
scans_idle : (a : Arena) (dead white : ℕ) → 1 ≤ white → white ≤ 4 → white ≢ dead → (n k : ℕ) (s : Sweep) (h : Heap) → ((i : ℕ) → i < k + n → Plain a white h.words i) → (scans to_see (visits a dead white) n k (s, h)).1.1 ≡ h
unfolding scans
scans_idle a dead white low high d zero k s h p = refl
scans_idle a dead white low high d (suc n) k s h p =
    go (ltb 0 s.left)
    (scans_idle a dead white low high d n (k + 1) (visit a dead white k s h).0 (visit a dead white k s h).1
    (λ i f. subst (λ (x : Heap). Plain a white x.words i) (sym (visit_idle a dead white k s h low high d (p k (omega arith)))) (p i (omega (arith, f)))))
  where
    go : (c : Bool) → (scans to_see (visits a dead white) n (k + 1) (visit a dead white k s h)).1.1 ≡ (visit a dead white k s h).1
        → (elim c as (λ _. ℕ × (Sweep × Heap)) [ true ↦ scans to_see (visits a dead white) n (k + 1) (visit a dead white k s h) | false ↦ (k, (s, h)) ]).1.1 ≡ h
    go false e = refl
    go true e = e ∙ visit_idle a dead white k s h low high d (p k (omega arith))

-- and so does a batch.
pub sweep_idle : (a : Arena) (dead white from max : ℕ) (h : Heap) → 1 ≤ white → white ≤ 4 → white ≢ dead → ((i : ℕ) → i < used a h.words → Plain a white h.words i) → (sweep_partial a dead white from max h).1 ≡ h
unfolding sweep_partial scan scans
sweep_idle a dead white from max h low high d p = go (dec_lt from (used a h.words))
  where
    go : Dec (from < used a h.words) → (scans to_see (visits a dead white) (used a h.words - from) from (record { left = max; freed = 0 }, h)).1.1 ≡ h
    go (yes f) = scans_idle a dead white low high d (used a h.words - from) from (record { left = max; freed = 0 }) h (λ i g. p i (below i (used a h.words) g f))
      where
        below : (i n : ℕ) → i < from + (n - from) → from < n → i < n
        below i n g f = omega (arith, g, f)
    go (no f) =
        ap (λ (n : ℕ). (scans to_see (visits a dead white) n from (record { left = max; freed = 0 }, h)).1.1) (none (used a h.words) f)
      where
        none : (n : ℕ) → (from < n → ⊥) → n - from ≡ 0
        none n f = omega (arith, f)

-- Every slot of an arena is free or has the current white.
pub arena_white : (l : Lay) (w : List ℕ) → AllWhite l w → (k i : ℕ) → i < used (arena_of l k) w → Plain (arena_of l k) (at w WHITE) w i
arena_white l w f k i h = go (ℕ_discrete (colour (arena_of l k) i w) 0)
  where
    e : colour_w l (slot_at l w k i) w ≡ colour (arena_of l k) i w
    e = shade_colour (arena_of l k) i (gen (arena_of l k) i w) w h refl

    some : (n m : ℕ) → n ≡ m → m ≢ 0 → 1 ≤ n
    some n m e d = omega (arith, e, d)

    go : Dec (colour (arena_of l k) i w ≡ 0) → Plain (arena_of l k) (at w WHITE) w i
    go (yes z) = inl z
    go (no d) =
        let p : Occupied l w (slot_at l w k i) = some (colour_w l (slot_at l w k i) w) (colour (arena_of l k) i w) e d in
        inr (sym (shade_parts (arena_of l k) i (gen (arena_of l k) i w) w p).2 ∙ f.white (slot_at l w k i) p)

module _ (l : Lay) (ok : Laid l) (a : Apart l) (w : List ℕ) (long : l.words ≤ length w) (f : AllWhite l w) where
  abbrev o : Order l
  o = order l ok a

  -- the arena at the cursor is one of the six
  at_some : (k : ℕ) → (j : ℕ) × (arena_at l k ≡ arena_of l j)
  unfolding arena_at
  at_some k = go (dec_lt k 5)
    where
      go : Dec (k < 5) → (j : ℕ) × (arena_at l k ≡ arena_of l j)
      go (yes h) = (suc k, arena_at_lem l k (omega (arith, h)))
      go (no h) = (
        5,
        sym (eq_no k 0 l.tables _ l.threads (λ e. omega (arith, e, h)) (eq_no k 1 l.functions _ l.threads (λ e. omega (arith, e, h))
            (eq_no k 2 l.upvalues _ l.threads (λ e. omega (arith, e, h)) (eq_no k 3 l.userdata _ l.threads (λ e. omega (arith, e, h)) refl)))),
      )

  -- A heap of such words, after some steps.
  module _ (h : Heap) (s : Calm l w h.words) where
    abbrev u : List ℕ
    u = h.words

    u_long : l.words ≤ length u
    u_long = omega (arith, long, s.long)

    same_white : at u WHITE ≡ at w WHITE
    same_white = s.word WHITE (inr (inl refl))

    low : 1 ≤ at u WHITE
    low = omega (arith, same_white, f.low)

    high : at u WHITE ≤ 2
    high = omega (arith, same_white, f.high)

    taken_calm : (n : ℕ) {x : List ℕ} → Calm l w x → Calm l w (taken n x)
    unfolding taken
    taken_calm n {x} c = calm_put l ok a ESTIMATE (omega arith) (omega arith) (λ e. omega (arith, e)) _ (calm_put l ok a TOTAL (omega arith) (omega arith) (λ e. omega (arith, e)) _ c)

    taken_phase : (n : ℕ) (x : List ℕ) → at (taken n x) PHASE ≡ at x PHASE
    unfolding taken
    taken_phase n x = get_or-set_other (put TOTAL (at x TOTAL - n) x) ESTIMATE PHASE _ 0 (λ e. omega (arith, e)) ∙ get_or-set_other x TOTAL PHASE (at x TOTAL - n) 0 (λ e. omega (arith, e))

    cursor_calm : (c : SweepCursor) {x : List ℕ} → Calm l w x → Calm l w (put_cursor c x)
    cursor_calm c x = calm_put l ok a CURSOR_SLOT (omega arith) (omega arith) (λ e. omega (arith, e)) _ (calm_put l ok a CURSOR_ARENA (omega arith) (omega arith) (λ e. omega (arith, e)) _ x)

    cursor_phase : (c : SweepCursor) (x : List ℕ) → at (put_cursor c x) PHASE ≡ at x PHASE
    cursor_phase c x = get_or-set_other (put CURSOR_ARENA c.arena_index x) CURSOR_SLOT PHASE _ 0 (λ e. omega (arith, e)) ∙ get_or-set_other x CURSOR_ARENA PHASE _ 0 (λ e. omega (arith, e))

    phase_calm : (n : ℕ) {x : List ℕ} → Calm l w x → Calm l w (put PHASE n x)
    phase_calm n x = calm_put l ok a PHASE (omega arith) (omega arith) (λ e. omega (arith, e)) n x

    phase_set : (n : ℕ) {x : List ℕ} → Calm l w x → at (put PHASE n x) PHASE ≡ n
    phase_set n {x} c = get_or-set_same x PHASE n 0 (omega (arith, long, c.long, o.words, o.header, a))

    -- A batch leaves the heap, but total and estimate.
    batch : (x : Arena) (j size from : ℕ) → x ≡ arena_of l j → let y = sweep_arena x size from h in
        Calm l w y.1.words × (y.1.bytes ≡ h.bytes) × (at y.1.words PHASE ≡ at u PHASE)
    unfolding sweep_arena
    batch x j size from e =
        let q = sweep_idle x (other_white (at u WHITE)) (at u WHITE) from 80 h low (omega (arith, high)) (λ z. (other_white_lem (at u WHITE) low high).2 (sym z))
        (subst (λ (y : Arena). (i : ℕ) → i < used y u → Plain y (at u WHITE) u i) (sym e) plain) in
        let y = sweep_partial x (other_white (at u WHITE)) (at u WHITE) from 80 h in (
          taken_calm (y.0.freed * size) (subst (λ (g : Heap). Calm l w g.words) (sym q) s),
          ap (λ (g : Heap). g.bytes) q,
          taken_phase (y.0.freed * size) y.1.words ∙ ap (λ (g : Heap). at g.words PHASE) q,
        )
      where
        plain : (i : ℕ) → i < used (arena_of l j) u → Plain (arena_of l j) (at u WHITE) u i
        plain i p = arena_white l u (calm_whites l ok a s f) j i p

    -- A single step of the sweep: of the phase it is known where it leads.
    pub step_idle : ((at u PHASE ≡ 2) ⊎ (at u PHASE ≡ 3)) → Calm l w (single_step l h).1.words × ((single_step l h).1.bytes ≡ h.bytes)
        × ((at (single_step l h).1.words PHASE ≡ 2) ⊎ ((at (single_step l h).1.words PHASE ≡ 3) ⊎ (at (single_step l h).1.words PHASE ≡ 4)))
    unfolding sweep_strings strings_moved sweep_others others_moved
    step_idle (inl p) =
        subst Good (sym (strings_step l h p)) (go y.0.done)
      where
        Good : Heap → Type 0
        Good g = Calm l w g.words × (g.bytes ≡ h.bytes) × ((at g.words PHASE ≡ 2) ⊎ ((at g.words PHASE ≡ 3) ⊎ (at g.words PHASE ≡ 4)))

        c : SweepCursor
        c = cursor_at u

        y : Swept × Heap
        y = sweep_arena l.strings 48 (at u CURSOR_SLOT) h

        b : Calm l w y.1.words × (y.1.bytes ≡ h.bytes) × (at y.1.words PHASE ≡ at u PHASE)
        b = batch l.strings 0 48 (at u CURSOR_SLOT) refl

        go : (d : Bool) → Good (heap (cond d (put PHASE 3 (put_cursor start y.1.words)) (put_cursor (advanced c y.0.next) y.1.words)) y.1.bytes)
        go true = let x = cursor_calm start b.0 in (phase_calm 3 x, b.1, inr (inl (phase_set 3 x)))
        go false = (cursor_calm (advanced c y.0.next) b.0, b.1, inl (cursor_phase (advanced c y.0.next) y.1.words ∙ b.2 ∙ p))
    step_idle (inr p) =
        subst Good (sym (others_step l h p)) (go y.0.done (dec_lt (at u CURSOR_ARENA) 4))
      where
        Good : Heap → Type 0
        Good g = Calm l w g.words × (g.bytes ≡ h.bytes) × ((at g.words PHASE ≡ 2) ⊎ ((at g.words PHASE ≡ 3) ⊎ (at g.words PHASE ≡ 4)))

        c : SweepCursor
        c = cursor_at u

        y : Swept × Heap
        y = sweep_arena (arena_at l (at u CURSOR_ARENA)) (size_at (at u CURSOR_ARENA)) (at u CURSOR_SLOT) h

        b : Calm l w y.1.words × (y.1.bytes ≡ h.bytes) × (at y.1.words PHASE ≡ at u PHASE)
        b = let j = at_some (at u CURSOR_ARENA) in batch (arena_at l (at u CURSOR_ARENA)) j.0 (size_at (at u CURSOR_ARENA)) (at u CURSOR_SLOT) j.1

        next : List ℕ
        next = put_cursor (next_arena c) y.1.words

        go : (d : Bool) → Dec (at u CURSOR_ARENA < 4) → Good (heap (cond d (if_lt (at u CURSOR_ARENA) 4 (put_cursor (next_arena c) y.1.words) (put PHASE 4 y.1.words)) (put_cursor (advanced c y.0.next) y.1.words)) y.1.bytes)
        go false k = (cursor_calm (advanced c y.0.next) b.0, b.1, inr (inl (cursor_phase (advanced c y.0.next) y.1.words ∙ b.2 ∙ p)))
        go true (yes k) =
            subst (λ (x : List ℕ). Good (heap x y.1.bytes)) (lt_yes (at u CURSOR_ARENA) 4 (put_cursor (next_arena c) y.1.words) (put PHASE 4 y.1.words) _ k refl)
            (cursor_calm (next_arena c) b.0, b.1, inr (inl (cursor_phase (next_arena c) y.1.words ∙ b.2 ∙ p)))
        go true (no k) =
            subst (λ (x : List ℕ). Good (heap x y.1.bytes)) (lt_no (at u CURSOR_ARENA) 4 (put_cursor (next_arena c) y.1.words) (put PHASE 4 y.1.words) _ (omega (arith, k)) refl)
            (phase_calm 4 b.0, b.1, inr (inr (phase_set 4 b.0)))
