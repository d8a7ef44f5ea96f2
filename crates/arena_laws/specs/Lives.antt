-- A handle whose slot was freed names nothing until the slot was freed 2^32 times. Assumes nothing.
use Rattle.std.proofs.Math.Path.{◌≡◌, sym, subst}
use Rattle.std.specs.Prelude.{refl, ◌⊎◌, ◌≢◌, ℕ, ◌+◌, ◌*◌, ◌%◌, ◌^◌, ◌≤◌, ◌<◌, length, Some, None}
use Rattle.std.proofs.Common.{ap, ◌∙◌, inl, inr, arith}
use Rattle.std.proofs.Math.Logic.{⊎_elim}
use mathlib.Core.List.{List, [], ◌∷◌}
use Rattle.std.proofs.Math.Decide.{ℕ_discrete}
use Rattle.base.specs.Ways.{if_le, if_eq, le_yes, le_no, eq_yes, eq_no}
use Rattle.base.specs.Words.{at}
use Rattle.base.specs.Heap.{Heap, heap}
use Rattle.arena.specs.Slots.{Room, colour, set_colour, gen, link, head, fresh, count, used, named, take_slot, freed, sweep_partial}
use Rattle.arena.specs.declared.Arena.{Arena}
use Rattle.arena_laws.specs.Words.{le_or_lt}
use Rattle.arena_laws.specs.Chain.{WellFormed}
use Rattle.arena_laws.specs.Changes.{Becomes, painted_is, room_after}
use Rattle.arena_laws.specs.Names.{Names, named_tells, named_old, named_at, named_either}
use Rattle.arena_laws.specs.Keeps.{paint_keeps, own_colour, other_colour, other_gen}
use Rattle.arena_laws.specs.Frames.{Untouched, frame_keeps, kept_fresh, kept_colour, kept_gen}
use Rattle.arena_laws.specs.Takes.{Made, take-answers}
use Rattle.arena_laws.specs.Frees.{Gone, free_gone, free_refuses}
use Rattle.arena_laws.specs.Sweeps.{Cleaned, sweep_does}

-- What is done to an arena: a slot taken in colour c with a record of n words, what a handle names freed, an occupied slot
-- painted, a sweep; and all else, that leaves the header and the cells of the slots.
pub data Op (a : Arena) : Type 0 where
  take : (c n : ℕ) → 1 ≤ c → c ≤ 4 → Op a
  free : (i g : ℕ) → Op a
  paint : (i c : ℕ) → 1 ≤ c → c ≤ 4 → Op a
  sweep : (dead white start max : ℕ) → 0 < dead → 1 ≤ white → white ≤ 4 → Op a
  other : (f : Heap → Heap) → ((h : Heap) → Untouched a h.words (f h).words) → Op a

-- slot i takes colour c, if it is occupied
unfoldable pub painted : Arena → ℕ → ℕ → List ℕ → List ℕ
painted a i c w = if_le (used a w) i w (if_eq (colour a i w) 0 w (set_colour a i c w))

-- the heap after it
abbrev pub does : (a : Arena) → Op a → Heap → Heap
does a (take c n _ _) h = heap (take_slot a c n h.words).1 h.bytes
does a (free i g) h = (freed a i g h).1
does a (paint i c _ _) h = heap (painted a i c h.words) h.bytes
does a (sweep dead white start max _ _ _) h = (sweep_partial a dead white start max h).1
does a (other f _) h = f h

-- the heap after several of them, in order
abbrev pub after : (a : Arena) → List (Op a) → Heap → Heap
after a [] h = h
after a (o ∷ os) h = after a os (does a o h)

-- slot i was freed: it was occupied and is free
unfoldable pub freed_one : Arena → ℕ → List ℕ → List ℕ → ℕ
freed_one a i w w' = if_eq (colour a i w) 0 0 (if_eq (colour a i w') 0 1 0)

-- how often slot i is freed
abbrev pub frees : (a : Arena) → ℕ → List (Op a) → Heap → ℕ
frees a i [] h = 0
frees a i (o ∷ os) h = freed_one a i h.words (does a o h).words + frees a i os (does a o h)

-- What each of them keeps: the arena is well-formed, the fresh index does not fall, and the generation of a slot
-- below it rises by 1 modulo 2^32 if the slot is freed, and stays if not.
pub record Step (a : Arena) (w w' : List ℕ) : Type 0 where
  pub long : length w' ≡ length w
  pub keeps : WellFormed a w'
  pub grows : fresh a w ≤ fresh a w'
  pub ages : (i : ℕ) → i < fresh a w → gen a i w < 2 ^ 32 → gen a i w' ≡ (gen a i w + freed_one a i w w') % 2 ^ 32

module _ (a : Arena) (i : ℕ) (w w' : List ℕ) where
  -- a slot that stays occupied, or was free, is not freed
  not_freed : (colour a i w ≢ 0 → colour a i w' ≢ 0) → freed_one a i w w' ≡ 0
  unfolding freed_one
  not_freed h = go (ℕ_discrete (colour a i w) 0)
    where
      go : Dec (colour a i w ≡ 0) → ◌≡◌ {A = ℕ} (if_eq (colour a i w) 0 0 (if_eq (colour a i w') 0 1 0)) 0
      go (yes e) = sym (eq_yes (colour a i w) 0 0 (if_eq (colour a i w') 0 1 0) 0 e refl)
      go (no e) = sym (eq_no (colour a i w) 0 0 (if_eq (colour a i w') 0 1 0) 0 e (eq_no (colour a i w') 0 1 0 0 (h e) refl))

  -- one that was occupied and is free is freed once
  is_freed : colour a i w ≢ 0 → colour a i w' ≡ 0 → freed_one a i w w' ≡ 1
  unfolding freed_one
  is_freed h e = sym (eq_no (colour a i w) 0 0 (if_eq (colour a i w') 0 1 0) 1 h (eq_yes (colour a i w') 0 1 0 1 e refl))

  -- a generation that stays, and one that rises
  stays : gen a i w < 2 ^ 32 → gen a i w' ≡ gen a i w → (colour a i w ≢ 0 → colour a i w' ≢ 0) → gen a i w' ≡ (gen a i w + freed_one a i w w') % 2 ^ 32
  stays l e h = omega (arith, not_freed h)

  rises : gen a i w' ≡ (gen a i w + 1) % 2 ^ 32 → colour a i w ≢ 0 → colour a i w' ≡ 0 → gen a i w' ≡ (gen a i w + freed_one a i w w') % 2 ^ 32
  rises e h z = omega (arith, is_freed h z)

module _ (a : Arena) (h : Heap) (r : Room a h.words) (v : WellFormed a h.words) where
  abbrev w : List ℕ
  w = h.words

  -- nothing done
  none : Step a w w
  none = record { long = refl; keeps = v; grows = omega arith; ages = λ i l b. stays a i w w b refl (λ z. z) }

  -- a slot taken
  taken : (c n i g : ℕ) (w' : List ℕ) → 1 ≤ c → Made a c n w w' i g → Step a w w'
  taken c n i g w' c₁ m = record {
    long = m.long;
    keeps = m.keeps;
    grows = m.grows;
    ages = λ j l b. stays a j w w' b (m.gens j l) (λ z y. z (sym (m.colours j (omega (arith, v.within)) (λ e. z (ap (λ (k : ℕ). colour a k w) e ∙ m.was))) ∙ y));
  }

  -- a slot freed
  gone : (i g : ℕ) (h' : Heap) (fl : List ℕ) → named a i g w ≡ Some i → Gone a i h h' fl → Step a w h'.words
  gone i g h' fl e m = record {
    long = m.long;
    keeps = m.keeps;
    grows = omega (arith, m.fresh);
    ages = λ j l b. go j l b (ℕ_discrete j i);
  }
    where
      go : (j : ℕ) → j < fresh a w → gen a j w < 2 ^ 32 → Dec (j ≡ i) → gen a j h'.words ≡ (gen a j w + freed_one a j w h'.words) % 2 ^ 32
      go j l b (yes q) =
          subst (λ (k : ℕ). gen a k h'.words ≡ (gen a k w + freed_one a k w h'.words) % 2 ^ 32) (sym q)
          (rises a i w h'.words m.gen (named_tells a i g w e).occupied m.colour)
      go j l b (no q) =
          stays a j w h'.words b (m.gens j (omega (arith, v.within)) q) (λ z y. z (sym (m.colours j (omega (arith, v.within)) q) ∙ y))

  -- an occupied slot painted
  coloured : (i c : ℕ) → 1 ≤ c → c ≤ 4 → i < fresh a w → colour a i w ≢ 0 → Step a w (set_colour a i c w)
  coloured i c c₁ c₄ f n = record {
    long = b.long;
    keeps = (paint_keeps r v c (gen a i w) (link a i w) (at w (a.base + 3 * a.slots + i)) f n c₁ c₄ b).0;
    grows = omega (arith, b.fresh);
    ages = λ j l s. go j l s (ℕ_discrete j i);
  }
    where
      hs : i < a.slots
      hs = omega (arith, v.within)

      b : Becomes a i 0 w (set_colour a i c w)
          (record { head = head a w; fresh = fresh a w; count = count a w; colour = c; gen = gen a i w; link = link a i w; extent = at w (a.base + 3 * a.slots + i) })
      b = painted_is a i w r hs c

      own : colour a i (set_colour a i c w) ≡ c
      own = own_colour r hs b c₄

      go : (j : ℕ) → j < fresh a w → gen a j w < 2 ^ 32 → Dec (j ≡ i) → gen a j (set_colour a i c w) ≡ (gen a j w + freed_one a j w (set_colour a i c w)) % 2 ^ 32
      go j l s (yes q) =
          stays a j w (set_colour a i c w) s
          (ap (λ (k : ℕ). gen a k (set_colour a i c w)) q ∙ b.gen ∙ ap (λ (k : ℕ). gen a k w) (sym q))
          (λ z. omega (arith, own, ap (λ (k : ℕ). colour a k (set_colour a i c w)) q))
      go j l s (no q) =
          stays a j w (set_colour a i c w) s (other_gen r hs b j (omega (arith, v.within)) q) (λ z y. z (sym (other_colour r hs b j (omega (arith, v.within)) q) ∙ y))

  -- a slot painted if it is occupied
  paints : (i c : ℕ) → 1 ≤ c → c ≤ 4 → Step a w (painted a i c w)
  unfolding painted
  paints i c c₁ c₄ =
      ⊎_elim
      (λ past. subst (λ (u : List ℕ). Step a w u) (le_yes (used a w) i w (if_eq (colour a i w) 0 w (set_colour a i c w)) w past refl) none)
      (λ below. go below (ℕ_discrete (colour a i w) 0))
      (le_or_lt (used a w) i)
    where
      go : i < used a w → Dec (colour a i w ≡ 0) → Step a w (if_le (used a w) i w (if_eq (colour a i w) 0 w (set_colour a i c w)))
      go l (yes z) =
          subst (λ (u : List ℕ). Step a w u) (le_no (used a w) i w (if_eq (colour a i w) 0 w (set_colour a i c w)) w l (eq_yes (colour a i w) 0 w (set_colour a i c w) w z refl)) none
      go l (no z) =
          subst (λ (u : List ℕ). Step a w u)
          (le_no (used a w) i w (if_eq (colour a i w) 0 w (set_colour a i c w)) (set_colour a i c w) l (eq_no (colour a i w) 0 w (set_colour a i c w) (set_colour a i c w) z refl))
          (coloured i c c₁ c₄ (omega arith) z)

  -- a sweep
  cleaned : (dead white start next f seen : ℕ) (h' : Heap) (fl : List ℕ) → 0 < dead → 1 ≤ white → Cleaned a dead white start next f seen h h' fl → Step a w h'.words
  cleaned dead white start next f seen h' fl d₁ c₁ m = record {
    long = m.long;
    keeps = m.keeps;
    grows = omega (arith, m.fresh);
    ages = λ i l b. ⊎_elim (λ y. outside i l b (inr y)) (λ y. ⊎_elim (λ x. inside i l b x y (ℕ_discrete (colour a i w) dead)) (λ x. outside i l b (inl x)) (le_or_lt start i)) (le_or_lt next i);
  }
    where
      outside : (i : ℕ) → i < fresh a w → gen a i w < 2 ^ 32 → (i < start) ⊎ (next ≤ i) → gen a i h'.words ≡ (gen a i w + freed_one a i w h'.words) % 2 ^ 32
      outside i l b o =
          stays a i w h'.words b
          (m.gens i (omega (arith, v.within)) (λ y. let q = (m.is i).0 y in ⊎_elim (λ x. omega (arith, q.0)) (λ x. omega (arith, q.1)) o))
          (λ z y. z (sym (m.left i (omega (arith, v.within)) o) ∙ y))

      inside : (i : ℕ) → i < fresh a w → gen a i w < 2 ^ 32 → start ≤ i → i < next → Dec (colour a i w ≡ dead) → gen a i h'.words ≡ (gen a i w + freed_one a i w h'.words) % 2 ^ 32
      inside i l b x y (yes e) =
          let q = (m.is i).1 (x, y, l, e) in
          rises a i w h'.words (m.aged i q) (omega arith) (m.died i q)
      inside i l b x y (no e) =
          stays a i w h'.words b (m.gens i (omega (arith, v.within)) (λ q. e ((m.is i).0 q).3))
          (λ z. omega (arith, m.painted i x y (omega (arith, v.within)) z e))

  -- each of them
  pub step : (o : Op a) → Step a w (does a o h).words
  step (take c n c₁ c₄) =
      ⊎_elim
      (λ q. taken c n q.0 q.1 (take_slot a c n w).1 c₁ q.3)
      (λ q. subst (λ (u : List ℕ). Step a w u) (sym (ap (λ x. x.1) q.0)) none)
      (take-answers a c n w r v c₁ c₄)
  step (free i g) =
      ⊎_elim
      (λ e. gone i g (freed a i g h).1 v.free e (free_gone a i h r v g e))
      (λ e. subst (λ (u : Heap). Step a w u.words) (sym (ap (λ x. x.1) (free_refuses a i h r g e))) none)
      (named_either a i g w)
  step (paint i c c₁ c₄) = paints i c c₁ c₄
  step (sweep dead white start max d₁ c₁ c₄) =
      let s = sweep_does a dead white start max h r v d₁ c₁ c₄ in
      cleaned dead white start _ _ s.seen (sweep_partial a dead white start max h).1 v.free d₁ c₁ s.cleaned
  step (other f keep) =
      let u = keep h in
      record {
        long = u.long;
        keeps = (frame_keeps u v).0;
        grows = omega (arith, kept_fresh u);
        ages = λ i l b.
            let q : i < a.slots = omega (arith, v.within) in
            stays a i w (f h).words b (kept_gen u i q) (λ z y. z (sym (kept_colour u i q) ∙ y));
      }

-- After any of them the arena is well-formed, and the generation of a slot has risen, modulo 2^32, as often as the slot was freed.
pub record Lived (a : Arena) (i : ℕ) (os : List (Op a)) (h : Heap) : Type 0 where
  pub long : length (after a os h).words ≡ length h.words
  pub keeps : WellFormed a (after a os h).words
  pub grows : fresh a h.words ≤ fresh a (after a os h).words
  pub gen : gen a i (after a os h).words ≡ (gen a i h.words + frees a i os h) % 2 ^ 32

-- So it is after any of them.
pub lives : (a : Arena) (i : ℕ) (os : List (Op a)) (h : Heap) → Room a h.words → WellFormed a h.words → i < fresh a h.words → gen a i h.words < 2 ^ 32 → Lived a i os h
lives a i [] h r v l b = record { long = refl; keeps = v; grows = omega arith; gen = omega arith }
lives a i (o ∷ os) h r v l b =
    let s = step a h r v o in
    let x = s.ages i l b in
    let t = lives a i os (does a o h) (room_after s.long r) s.keeps (omega (arith, s.grows)) (omega arith) in
    record {
      long = t.long ∙ s.long;
      keeps = t.keeps;
      grows = omega (arith, s.grows, t.grows);
      gen = omega (arith, x, t.gen);
    }

-- A handle that named a slot names nothing after the slot was freed, until it was freed 2^32 times.
pub stale_until : (a : Arena) (i g : ℕ) (os : List (Op a)) (h : Heap) → Room a h.words → WellFormed a h.words → g < 2 ^ 32 → named a i g h.words ≡ Some i
    → 1 ≤ frees a i os h → frees a i os h < 2 ^ 32 → named a i g (after a os h).words ≡ None
stale_until a i g os h r v b e f₁ f₂ =
    let t : Names a i g h.words = named_tells a i g h.words e in
    let l = lives a i os h r v (omega (arith, t.below)) (omega (arith, t.gen)) in
    named_old a i g (after a os h).words (omega (arith, l.gen, t.gen))

-- while its slot is not freed, an occupied slot stays occupied
stays_occupied : (a : Arena) (i : ℕ) (os : List (Op a)) (h : Heap) → colour a i h.words ≢ 0 → frees a i os h ≡ 0 → colour a i (after a os h).words ≢ 0
stays_occupied a i [] h n e = n
stays_occupied a i (o ∷ os) h n e =
    stays_occupied a i os (does a o h) (λ z. omega (arith, is_freed a i h.words (does a o h).words n z)) (omega arith)

-- and a handle that named it names it still
pub names_until : (a : Arena) (i g : ℕ) (os : List (Op a)) (h : Heap) → Room a h.words → WellFormed a h.words → g < 2 ^ 32 → named a i g h.words ≡ Some i
    → frees a i os h ≡ 0 → named a i g (after a os h).words ≡ Some i
names_until a i g os h r v b e f =
    let t : Names a i g h.words = named_tells a i g h.words e in
    let l = lives a i os h r v (omega (arith, t.below)) (omega (arith, t.gen)) in
    named_at a i g (after a os h).words (omega (arith, t.below, l.grows, l.keeps.within)) (omega (arith, l.gen, t.gen)) (stays_occupied a i os h t.occupied f)
