-- A sweep of one arena leaves the words and bytes of the five others. Assumes nothing.
--     Rows, rows            the bodies of the arenas stand one after the other; the layout of any sizes has it
--     six_room              each arena has room in the words
--     arena_at_lem              the arena at the cursor
--     low_same, swept_same  words below 73 change; another arena is swept
use Rattle.std.specs.Prelude.{◌≡◌, refl, List, ◌⊎◌, ◌≢◌, length}
use Rattle.std.proofs.Math.Path.{ap}
use Rattle.std.proofs.Common.{subst, ◌∙◌, inl, inr, arith}
use Rattle.std.proofs.Math.Logic.{⊎_elim}
use Prim.Native.Nat.{ℕ, zero, suc, ◌+◌, ◌*◌, ◌≤◌, ◌<◌}
use Rattle.std.proofs.Math.Decide.{dec_lt}
use Rattle.base.specs.Ways.{if_eq, eq_either}
use Rattle.base.specs.Loop.{run_over, scan_over, scan_keeps}
use Rattle.base.specs.Words.{at, clear, clear_one}
use Rattle.base.specs.Heap.{Heap, heap}
use Rattle.arena.specs.declared.Arena.{Arena}
use Rattle.arena.specs.declared.Sweep.{Sweep}
use Rattle.arena.specs.Slots.{Room, used, emptied, free_slot, visit, visits, to_see, sweep_partial}
use Rattle.arena_laws.specs.Words.{le_or_lt}
use Rattle.arena_laws.specs.Changes.{Outside}
use Rattle.arena_laws.specs.Sweeps.{Cleaned}
use Rattle.layout.specs.declared.Sizes.{Sizes}
use Rattle.layout.specs.declared.Lay.{Lay}
use Rattle.layout.specs.Layout.{lay_of}
use Rattle.laid.specs.Laid.{Laid, strings_room, tables_room, functions_room, upvalues_room, userdata_room, threads_room}
use Rattle.mark.specs.Words.{arena_of}
use Rattle.sweep_step.specs.Sweeping.{arena_at}
use Rattle.mark_laws.specs.Apart.{Apart, Order, order, arena_header, arena_before, arena_lists}
use Rattle.sweep_laws.specs.Batches.{Same}

-- The bodies of each arena end where those of the next begin, or before.
pub record Rows (l : Lay) : Type 0 where
  pub strings : l.strings.bodies + l.strings.slots * l.strings.stride ≤ l.tables.bodies
  pub tables : l.tables.bodies + l.tables.slots * l.tables.stride ≤ l.functions.bodies
  pub functions : l.functions.bodies + l.functions.slots * l.functions.stride ≤ l.upvalues.bodies
  pub upvalues : l.upvalues.bodies + l.upvalues.slots * l.upvalues.stride ≤ l.userdata.bodies
  pub userdata : l.userdata.bodies + l.userdata.slots * l.userdata.stride ≤ l.threads.bodies

-- The layout of any sizes has it.
pub rows : (s : Sizes) → Rows (lay_of s)
unfolding lay_of
rows s = record { strings = omega arith; tables = omega arith; functions = omega arith; upvalues = omega arith; userdata = omega arith }

-- Only strings have bytes.
pub no_width : (l : Lay) → Laid l → (k : ℕ) → 1 ≤ k → (arena_of l k).width ≡ 0
unfolding Laid
no_width l ok zero h = absurd (let z : ⊥ = omega (arith, h) in z)
no_width l ok (suc zero) h = ok.tables.width
no_width l ok (suc (suc zero)) h = ok.functions.width
no_width l ok (suc (suc (suc zero))) h = ok.upvalues.width
no_width l ok (suc (suc (suc (suc zero)))) h = ok.userdata.width
no_width l ok (suc (suc (suc (suc (suc zero))))) h = ok.threads.width
no_width l ok (suc (suc (suc (suc (suc (suc k)))))) h = refl

-- The arena at the cursor, once the strings are swept.
pub arena_at_lem : (l : Lay) (k : ℕ) → k ≤ 4 → arena_at l k ≡ arena_of l (suc k)
unfolding arena_at if_eq
arena_at_lem l zero h = refl
arena_at_lem l (suc zero) h = refl
arena_at_lem l (suc (suc zero)) h = refl
arena_at_lem l (suc (suc (suc zero))) h = refl
arena_at_lem l (suc (suc (suc (suc zero)))) h = refl
arena_at_lem l (suc (suc (suc (suc (suc k))))) h = absurd (let z : ⊥ = omega (arith, h) in z)

-- A sweep of an arena without bytes leaves all bytes.
module _ (a : Arena) (e : a.width ≡ 0) (dead white start max : ℕ) (h : Heap) where
  nothing_cleared : (p : ℕ) (b : List ℕ) → clear p a.width b ≡ b
  unfolding clear
  nothing_cleared p b = ap (λ (n : ℕ). clear p n b) e ∙ run_over (clear_one p) 0 0 b (omega arith)

  visit_bytes : (i : ℕ) (p : Sweep × Heap) → p.1.bytes ≡ h.bytes → (visits a dead white i p).1.bytes ≡ h.bytes
  unfolding visit free_slot emptied
  visit_bytes i p q =
      eq_either P _ 0 _ _ q (eq_either P _ dead _ _ (nothing_cleared (i * a.width) p.1.bytes ∙ q) q)
    where
      P : Sweep × Heap → Type 0
      P x = x.1.bytes ≡ h.bytes

  pub swept_bytes : (sweep_partial a dead white start max h).1.bytes ≡ h.bytes
  unfolding sweep_partial
  swept_bytes =
      ⊎_elim
      (λ q. scan_keeps to_see (visits a dead white) (λ (p : Sweep × Heap). p.1.bytes ≡ h.bytes) start (used a h.words) first q (λ j t i p. visit_bytes j t p) refl)
      (λ q. ap (λ (x : ℕ × (Sweep × Heap)). x.1.1.bytes) (scan_over to_see (visits a dead white) start (used a h.words) first (omega (arith, q))))
      (le_or_lt start (used a h.words))
    where
      first : Sweep × Heap
      first = (record { left = max; freed = 0 }, h)

module _ (l : Lay) (ok : Laid l) (a : Apart l) (r : Rows l) where
  abbrev o : Order l
  o = order l ok a

  abbrev bodies : ℕ → ℕ
  bodies k = (arena_of l k).bodies

  abbrev ends : ℕ → ℕ
  ends k = (arena_of l k).bodies + (arena_of l k).slots * (arena_of l k).stride

  -- Each arena has room in the words.
  pub six_room : (w : List ℕ) → l.words ≤ length w → (k : ℕ) → k ≤ 5 → Room (arena_of l k) w
  six_room w h zero i = strings_room l w ok h
  six_room w h (suc zero) i = tables_room l w ok h
  six_room w h (suc (suc zero)) i = functions_room l w ok h
  six_room w h (suc (suc (suc zero))) i = upvalues_room l w ok h
  six_room w h (suc (suc (suc (suc zero)))) i = userdata_room l w ok h
  six_room w h (suc (suc (suc (suc (suc zero))))) i = threads_room l w ok h
  six_room w h (suc (suc (suc (suc (suc (suc k)))))) i = absurd (let z : ⊥ = omega (arith, i) in z)

  -- the three words of each in the header
  pub top_is : (k : ℕ) → k ≤ 5 → (arena_of l k).top ≡ 73 + 3 * k
  top_is zero i = o.top_strings
  top_is (suc zero) i = o.top_tables
  top_is (suc (suc zero)) i = o.top_functions
  top_is (suc (suc (suc zero))) i = o.top_upvalues
  top_is (suc (suc (suc (suc zero)))) i = o.top_userdata
  top_is (suc (suc (suc (suc (suc zero))))) i = o.top_threads
  top_is (suc (suc (suc (suc (suc (suc k)))))) i = absurd (let z : ⊥ = omega (arith, i) in z)

  -- all bodies lie past the boundary
  pub body_past : (k : ℕ) → k ≤ 5 → l.boundary ≤ bodies k
  body_past zero i = o.past_strings
  body_past (suc zero) i = o.past_tables
  body_past (suc (suc zero)) i = o.past_functions
  body_past (suc (suc (suc zero))) i = o.past_upvalues
  body_past (suc (suc (suc (suc zero)))) i = o.past_userdata
  body_past (suc (suc (suc (suc (suc zero))))) i = o.past_threads
  body_past (suc (suc (suc (suc (suc (suc k)))))) i = absurd (let z : ⊥ = omega (arith, i) in z)

  rows_next : (k : ℕ) → k < 5 → ends k ≤ bodies (suc k)
  rows_next zero i = r.strings
  rows_next (suc zero) i = r.tables
  rows_next (suc (suc zero)) i = r.functions
  rows_next (suc (suc (suc zero))) i = r.upvalues
  rows_next (suc (suc (suc (suc zero)))) i = r.userdata
  rows_next (suc (suc (suc (suc (suc k))))) i = absurd (let z : ⊥ = omega (arith, i) in z)

  -- the bodies of an arena end before those of each later one begin
  rows_before : (k d : ℕ) → k < d → d ≤ 5 → ends k ≤ bodies d
  rows_before k zero i j = absurd (let z : ⊥ = omega (arith, i) in z)
  rows_before k (suc d) i j = go (dec_lt k d) (λ f. rows_before k d f (omega (arith, j)))
    where
      below : (x y z : ℕ) → x ≤ y → y ≤ z → x ≤ z
      below x y z f g = omega (arith, f, g)

      more : (x y z : ℕ) → x + y ≤ z → x ≤ z
      more x y z f = omega (arith, f)

      go : Dec (k < d) → (k < d → ends k ≤ bodies d) → ends k ≤ bodies (suc d)
      go (yes f) rest = below (ends k) (bodies d) (bodies (suc d)) (rest f) (more (bodies d) ((arena_of l d).slots * (arena_of l d).stride) (bodies (suc d)) (rows_next d (omega (arith, j))))
      go (no f) rest =
          let e : d ≡ k = omega (arith, i, f) in
          subst (λ (x : ℕ). ends x ≤ bodies (suc d)) e (rows_next d (omega (arith, j)))

  -- What is arena k's is outside arena j.
  module _ (j k : ℕ) (i : j ≤ 5) (g : k ≤ 5) (d : j ≢ k) where
    pub header_outside : (x : ℕ) → (arena_of l k).top ≤ x → x < (arena_of l k).top + 3 → Outside (arena_of l j) x
    header_outside x p q = record {
      header = go (dec_lt k j);
      cells = inl (omega (arith, q, top_is k g, arena_header l o j i, g));
      bodies = inl (omega (arith, q, top_is k g, body_past j i, o.header, a, g));
    }
      where
        go : Dec (k < j) → (x < (arena_of l j).top) ⊎ ((arena_of l j).top + 3 ≤ x)
        go (yes f) = inl (omega (arith, f, q, top_is k g, top_is j i))
        go (no f) = inr (omega (arith, f, d, p, top_is k g, top_is j i))

    pub cells_outside : (x : ℕ) → (arena_of l k).base ≤ x → x < (arena_of l k).base + 4 * (arena_of l k).slots → Outside (arena_of l j) x
    cells_outside x p q = record {
      header = inr (omega (arith, p, top_is j i, arena_header l o k g, i));
      cells = go (dec_lt k j);
      bodies = inl (omega (arith, q, arena_lists l o k g, body_past j i, a));
    }
      where
        go : Dec (k < j) → (x < (arena_of l j).base) ⊎ ((arena_of l j).base + 4 * (arena_of l j).slots ≤ x)
        go (yes f) = inl (omega (arith, q, arena_before l o k j f i))
        go (no f) = inr (omega (arith, p, arena_before l o j k (omega (arith, f, d)) g))

    bodies_outside : (x : ℕ) → bodies k ≤ x → x < ends k → Outside (arena_of l j) x
    bodies_outside x p q = record {
      header = inr (omega (arith, p, top_is j i, body_past k g, o.header, a, i));
      cells = inr (omega (arith, p, arena_lists l o j i, body_past k g, a));
      bodies = go (dec_lt k j);
    }
      where
        less : (x y z : ℕ) → x < y → y ≤ z → x < z
        less x y z f g = omega (arith, f, g)

        most : (x y z : ℕ) → y ≤ z → z ≤ x → y ≤ x
        most x y z f g = omega (arith, f, g)

        go : Dec (k < j) → (x < bodies j) ⊎ (ends j ≤ x)
        go (yes f) = inl (less x (ends k) (bodies j) q (rows_before k j f i))
        go (no f) = inr (most x (ends j) (bodies k) (rows_before j k (omega (arith, f, d)) g) p)

    -- No byte is of two arenas: only strings have some.
    swept_texts : (dead white start max : ℕ) (h : Heap) (x : ℕ) → x < (arena_of l k).slots * (arena_of l k).width
        → at (sweep_partial (arena_of l j) dead white start max h).1.bytes x ≡ at h.bytes x
    swept_texts dead white start max h x p = go (dec_lt 0 k)
      where
        none : (s w : ℕ) → w ≡ 0 → x < s * w → ⊥
        none s w e q = omega (arith, subst (λ (y : ℕ). x < s * y) e q)

        go : Dec (0 < k) → at (sweep_partial (arena_of l j) dead white start max h).1.bytes x ≡ at h.bytes x
        go (yes f) = absurd (none (arena_of l k).slots (arena_of l k).width (no_width l ok k f) p)
        go (no f) = ap (λ (b : List ℕ). at b x) (swept_bytes (arena_of l j) (no_width l ok j (omega (arith, f, d))) dead white start max h)

    -- A sweep of arena j leaves arena k as it was.
    pub swept_same : (dead white start max next freed seen : ℕ) (h : Heap) (before : List ℕ)
        → Cleaned (arena_of l j) dead white start next freed seen h (sweep_partial (arena_of l j) dead white start max h).1 before
        → Same (arena_of l k) h (sweep_partial (arena_of l j) dead white start max h).1
    swept_same dead white start max next freed seen h before c = record {
      cells = record {
        long = c.long;
        header = λ x p q. c.outside x (header_outside x p q);
        cells = λ x p q. c.outside x (cells_outside x p q);
      };
      bodies = λ x p q. c.outside x (bodies_outside x p q);
      size = c.size;
      texts = λ x p. swept_texts dead white start max h x p;
    }

  -- A word below an arena's three words of the header is outside the arena.
  pub low_outside : (j x : ℕ) → j ≤ 5 → x < 73 → Outside (arena_of l j) x
  low_outside j x i p = record {
    header = inl (omega (arith, p, top_is j i));
    cells = inl (omega (arith, p, arena_header l o j i));
    bodies = inl (omega (arith, p, body_past j i, o.header, a));
  }

  -- What changes words below 73 alone leaves each arena as it was.
  pub low_same : (k : ℕ) → k ≤ 5 → (w u b : List ℕ) → length u ≡ length w → ((x : ℕ) → 73 ≤ x → at u x ≡ at w x) → Same (arena_of l k) (heap w b) (heap u b)
  low_same k g w u b e h = record {
    cells = record {
      long = e;
      header = λ x p q. h x (omega (arith, p, top_is k g));
      cells = λ x p q. h x (omega (arith, p, arena_header l o k g));
    };
    bodies = λ x p q. h x (omega (arith, p, body_past k g, o.header, a));
    size = refl;
    texts = λ x p. refl;
  }
