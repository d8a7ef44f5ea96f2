-- A sweep visits slots upward from the start: what it frees, paints and leaves of a well-formed arena. Assumes nothing.
-- It ends when max occupied ones were seen, or at the end, the fresh index.
use Rattle.std.specs.Prelude.{◌≡◌, refl, true, false, ◌⊎◌, ◌≢◌, ◌↔◌, ℕ, zero, suc, ◌+◌, ◌-◌, ◌*◌, ◌%◌, ◌^◌, ◌≤◌, ◌<◌, length, leb}
use Rattle.std.proofs.Common.{sym, subst, ap, ◌∙◌, inl, inr, ⊎_elim, arith, leb-true, leb-false}
use mathlib.Core.List.Memᴰ
use mathlib.Core.List.{List, [], ◌∷◌, ◌++◌, Memᴰ}
use Rattle.std.proofs.Math.Decide.{ℕ_discrete}
use Rattle.base.specs.Loop.{scan, scan_turn, scan_over, scan_stop}
use Rattle.base.specs.Ways.{if_eq, eq_yes, eq_no}
use Rattle.base.specs.Words.{at, bounded}
use Rattle.base.specs.Heap.{Heap, heap}
use Rattle.arena.specs.Slots.{Room, Wide, colour, extent, set_colour, gen, head, link, fresh, count, used, free_slot, visit, visits, to_see, sweep_partial}
use Rattle.arena.specs.declared.Arena.{Arena}
use Rattle.arena.specs.declared.Sweep.{Sweep}
use Rattle.arena.specs.declared.Swept.{Swept}
use Rattle.arena_laws.specs.Words.{le_or_lt}
use Rattle.arena_laws.specs.Counts.{one, one_free, one_occupied, tally, tally_none, tally_last, colours}
use Rattle.arena_laws.specs.Chain.{Chain, Falling, WellFormed}
use Rattle.arena_laws.specs.Changes.{Outside, Becomes, painted_is, room_after}
use Rattle.arena_laws.specs.Keeps.{paint_keeps, own_colour, other_colour, other_gen, other_extent, other_word, other_outside}
use Rattle.arena_laws.specs.Frees.{Gone, slot_gone, extent_within}

-- The heap h became h' by a sweep of the slots from `start` below `next`, of which the occupied ones are counted by `seen`.
-- `freed` were freed. The chain held the slots `before`.
pub record Cleaned (a : Arena) (dead white start next freed seen : ℕ) (h h' : Heap) (before : List ℕ) : Type 0 where
  pub long : length h'.words ≡ length h.words
  -- it went upward, to the fresh index at most
  pub begun : start ≤ next
  pub ends : (next ≤ fresh a h.words) ⊎ (next ≡ start)
  -- the slots that were freed, the last first: those visited in the old white
  pub gone : List ℕ
  pub falls : Falling gone
  pub is : (i : ℕ) → Memᴰ i gone ↔ ((start ≤ i) × (i < next) × (i < fresh a h.words) × (colour a i h.words ≡ dead))
  pub many : freed ≡ length gone
  -- the chain leads through them and then on as before
  pub keeps : WellFormed a h'.words
  pub chain : keeps.free ≡ gone ++ before
  -- they are free; other occupied slots visited took the new white; all others kept their colour
  pub died : (i : ℕ) → Memᴰ i gone → colour a i h'.words ≡ 0
  pub painted : (i : ℕ) → start ≤ i → i < next → i < a.slots → colour a i h.words ≢ 0 → colour a i h.words ≢ dead → colour a i h'.words ≡ white
  pub idle : (i : ℕ) → i < a.slots → colour a i h.words ≡ 0 → colour a i h'.words ≡ 0
  pub left : (i : ℕ) → i < a.slots → (i < start) ⊎ (next ≤ i) → colour a i h'.words ≡ colour a i h.words
  -- those freed have the next generation, all others their own
  pub aged : (i : ℕ) → Memᴰ i gone → gen a i h'.words ≡ (gen a i h.words + 1) % 2 ^ 32
  pub gens : (i : ℕ) → i < a.slots → (Memᴰ i gone → ⊥) → gen a i h'.words ≡ gen a i h.words
  pub extents : (i : ℕ) → i < a.slots → (Memᴰ i gone → ⊥) → extent a i h'.words ≡ extent a i h.words
  -- the words of the records of those freed, and their bytes, are 0; the bodies and bytes of all others stay, and so does every word outside the arena
  pub zeroed : (i k : ℕ) → Memᴰ i gone → k < extent a i h.words → at h'.words (a.bodies + i * a.stride + k) ≡ 0
  pub erased : Wide a h.bytes → (i k : ℕ) → Memᴰ i gone → k < a.width → at h'.bytes (i * a.width + k) ≡ 0
  pub bodies : (i k : ℕ) → (Memᴰ i gone → ⊥) → k < a.stride → at h'.words (a.bodies + i * a.stride + k) ≡ at h.words (a.bodies + i * a.stride + k)
  pub texts : (i k : ℕ) → (Memᴰ i gone → ⊥) → k < a.width → at h'.bytes (i * a.width + k) ≡ at h.bytes (i * a.width + k)
  pub outside : (x : ℕ) → Outside a x → at h'.words x ≡ at h.words x
  pub size : length h'.bytes ≡ length h.bytes
  -- so many occupied ones were visited
  pub visited : seen ≡ tally (colours a h.words) start (next - start)
  pub fresh : fresh a h'.words ≡ fresh a h.words

module _ (a : Arena) (dead white start : ℕ) (h₀ : Heap) (r : Room a h₀.words) (v : WellFormed a h₀.words) (d₁ : 0 < dead) (c₁ : 1 ≤ white) (c₄ : white ≤ 4) where
  abbrev w : List ℕ
  w = h₀.words

  -- the sweep so far, at slot n
  abbrev So_far : ℕ → ℕ → Sweep → Heap → Type 0
  So_far max n s h = (seen : ℕ) × (s.left + seen ≡ max) × Cleaned a dead white start n s.freed seen h₀ h v.free

  begins : Cleaned a dead white start start 0 0 h₀ h₀ v.free
  begins = record {
    long = refl;
    fresh = refl;
    begun = omega arith;
    ends = inr refl;
    gone = [];
    falls = tt;
    is = λ i. ((λ m. absurd (Memᴰ.not-nil m)), (λ q. absurd (omega (arith, q.0, q.1))));
    many = refl;
    keeps = v;
    chain = refl;
    died = λ i m. absurd (Memᴰ.not-nil m);
    painted = λ i p q. absurd (omega arith);
    idle = λ i l e. e;
    left = λ i l o. refl;
    aged = λ i m. absurd (Memᴰ.not-nil m);
    gens = λ i l m. refl;
    extents = λ i l m. refl;
    zeroed = λ i k m. absurd (Memᴰ.not-nil m);
    erased = λ z i k m. absurd (Memᴰ.not-nil m);
    bodies = λ i k m l. refl;
    texts = λ i k m l. refl;
    outside = λ x y. refl;
    size = refl;
    visited =
        let z : start - start ≡ 0 = omega arith in
        sym (ap (tally (colours a w) start) z ∙ tally_none (colours a w) start);
  }

  module _ (n f seen : ℕ) (h : Heap) (o : Cleaned a dead white start n f seen h₀ h v.free) (b : n < fresh a w) where
    hs : n < a.slots
    hs = omega (arith, v.within)

    now : Room a h.words
    now = room_after o.long r

    same : colour a n h.words ≡ colour a n w
    same = o.left n hs (inr (omega arith))

    not_yet : Memᴰ n o.gone → ⊥
    not_yet m = omega (arith, ((o.is n).0 m).1)

    one_more : tally (colours a w) start (n + 1 - start) ≡ tally (colours a w) start (n - start) + one (colour a n w)
    one_more =
        let x : n + 1 - start ≡ n - start + 1 = omega (arith, o.begun) in
        let y : start + (n - start) ≡ n = omega (arith, o.begun) in
        ap (tally (colours a w) start) x ∙ tally_last (colours a w) (n - start) start ∙ ap (λ (k : ℕ). tally (colours a w) start (n - start) + one (colour a k w)) y

    -- a free slot is passed
    passed : colour a n w ≡ 0 → Cleaned a dead white start (n + 1) f seen h₀ h v.free
    passed e = record {
      long = o.long;
      fresh = o.fresh;
      begun = omega (arith, o.begun);
      ends = inl (omega arith);
      gone = o.gone;
      falls = o.falls;
      is = λ i. (
        (λ m. let q = (o.is i).0 m in (q.0, omega (arith, q.1), q.2, q.3)),
        (λ q. (o.is i).1 (q.0, not_n i q.1 (λ z. omega (arith, ap (λ (k : ℕ). colour a k w) z, q.3)), q.2, q.3)),
      );
      many = o.many;
      keeps = o.keeps;
      chain = o.chain;
      died = o.died;
      painted = λ i p q l z d. o.painted i p (not_n i q (λ y. z (ap (λ (k : ℕ). colour a k w) y ∙ e))) l z d;
      idle = o.idle;
      left = λ i l x. o.left i l (⊎_elim (λ y. inl y) (λ y. inr (omega arith)) x);
      aged = o.aged;
      gens = o.gens;
      extents = o.extents;
      zeroed = o.zeroed;
      erased = o.erased;
      bodies = o.bodies;
      texts = o.texts;
      outside = o.outside;
      size = o.size;
      visited = omega (arith, o.visited, one_more, one_free (colour a n w) e);
    }
      where
        not_n : (i : ℕ) → i < n + 1 → (i ≡ n → ⊥) → i < n
        not_n i q z = omega (arith, z)

    -- one in the old white is freed
    dies : colour a n w ≢ 0 → colour a n w ≡ dead → Cleaned a dead white start (n + 1) (f + 1) (seen + 1) h₀ (free_slot a n h) v.free
    dies z e = record {
      long = g.long ∙ o.long;
      fresh = g.fresh ∙ o.fresh;
      begun = omega (arith, o.begun);
      ends = inl (omega arith);
      gone = n ∷ o.gone;
      falls = ((λ j m. ((o.is j).0 m).1), o.falls);
      is = λ i. (
        (λ m. ⊎_elim (λ y. own i y) (λ y. let q = (o.is i).0 y in (q.0, omega (arith, q.1), q.2, q.3)) (Memᴰ.cases_cons m)),
        (λ q. back i q (ℕ_discrete i n)),
      );
      many = ap (λ (k : ℕ). k + 1) o.many ∙ omega arith;
      keeps = g.keeps;
      chain = g.chain ∙ ap (λ (l : List ℕ). n ∷ l) o.chain;
      died = λ i m. ⊎_elim (λ y. ap (λ (k : ℕ). colour a k (free_slot a n h).words) y ∙ g.colour) (λ y. g.colours i (small i y) (differs i y) ∙ o.died i y) (Memᴰ.cases_cons m);
      painted = λ i p q l x d.
          let y : i ≢ n = λ y. d (ap (λ (k : ℕ). colour a k w) y ∙ e) in
          g.colours i l y ∙ o.painted i p (omega arith) l x d;
      idle = λ i l x. g.colours i l (λ y. z (ap (λ (k : ℕ). colour a k w) (sym y) ∙ x)) ∙ o.idle i l x;
      left = λ i l x. g.colours i l (⊎_elim (λ y. omega (arith, o.begun)) (λ y. omega arith) x) ∙ o.left i l (⊎_elim (λ y. inl y) (λ y. inr (omega arith)) x);
      aged = λ i m.
          ⊎_elim
          (λ y.
          ap (λ (k : ℕ). gen a k (free_slot a n h).words) y ∙ g.gen
          ∙ ap (λ (k : ℕ). (k + 1) % 2 ^ 32) (o.gens n hs not_yet ∙ ap (λ (k : ℕ). gen a k w) (sym y)))
          (λ y. g.gens i (small i y) (differs i y) ∙ o.aged i y)
          (Memᴰ.cases_cons m);
      gens = λ i l m. g.gens i l (λ y. m (Memᴰ.head y)) ∙ o.gens i l (λ y. m (Memᴰ.tail y));
      extents = λ i l m. g.extents i l (λ y. m (Memᴰ.head y)) ∙ o.extents i l (λ y. m (Memᴰ.tail y));
      zeroed = λ i k m l. ⊎_elim (λ y. zero_own i k y l) (λ y. g.bodies i k (differs i y) (omega (arith, extent_within a i w)) ∙ o.zeroed i k y l) (Memᴰ.cases_cons m);
      erased = λ z i k m l.
          ⊎_elim
          (λ y. ap (λ (j : ℕ). at (free_slot a n h).bytes (j * a.width + k)) y ∙ g.erased (omega (arith, o.size)) k l)
          (λ y. g.texts i k (differs i y) l ∙ o.erased z i k y l)
          (Memᴰ.cases_cons m);
      bodies = λ i k m l. g.bodies i k (λ y. m (Memᴰ.head y)) l ∙ o.bodies i k (λ y. m (Memᴰ.tail y)) l;
      texts = λ i k m l. g.texts i k (λ y. m (Memᴰ.head y)) l ∙ o.texts i k (λ y. m (Memᴰ.tail y)) l;
      outside = λ x y. g.outside x y ∙ o.outside x y;
      size = g.size ∙ o.size;
      visited = omega (arith, o.visited, one_more, one_occupied (colour a n w) z);
    }
      where
        g : Gone a n h (free_slot a n h) o.keeps.free
        g = slot_gone a n h now o.keeps (omega (arith, o.fresh)) (λ y. z (sym same ∙ y))

        small : (i : ℕ) → Memᴰ i o.gone → i < a.slots
        small i m = omega (arith, ((o.is i).0 m).2, v.within)

        differs : (i : ℕ) → Memᴰ i o.gone → i ≢ n
        differs i m = omega (arith, ((o.is i).0 m).1)

        zero_own : (i k : ℕ) → i ≡ n → k < extent a i w → at (free_slot a n h).words (a.bodies + i * a.stride + k) ≡ 0
        zero_own i k y l =
            ap (λ (j : ℕ). at (free_slot a n h).words (a.bodies + j * a.stride + k)) y
            ∙ g.zeroed k (omega (arith, o.extents n hs not_yet, ap (λ (j : ℕ). extent a j w) y))

        own : (i : ℕ) → i ≡ n → (start ≤ i) × (i < n + 1) × (i < fresh a w) × (colour a i w ≡ dead)
        own i y = (omega (arith, o.begun), omega arith, omega arith, ap (λ (k : ℕ). colour a k w) y ∙ e)

        back : (i : ℕ) → (start ≤ i) × (i < n + 1) × (i < fresh a w) × (colour a i w ≡ dead) → Dec (i ≡ n) → Memᴰ i (n ∷ o.gone)
        back i q (yes y) = Memᴰ.head y
        back i q (no y) = Memᴰ.tail ((o.is i).1 (q.0, omega (arith, q.1), q.2, q.3))

    -- any other occupied one takes the new white
    lives : colour a n w ≢ 0 → colour a n w ≢ dead → Cleaned a dead white start (n + 1) f (seen + 1) h₀ (heap (set_colour a n white h.words) h.bytes) v.free
    lives z e = record {
      long = g.long ∙ o.long;
      fresh = g.fresh ∙ o.fresh;
      begun = omega (arith, o.begun);
      ends = inl (omega arith);
      gone = o.gone;
      falls = o.falls;
      is = λ i. (
        (λ m. let q = (o.is i).0 m in (q.0, omega (arith, q.1), q.2, q.3)),
        (λ q. (o.is i).1 (q.0, not_n i q.1 (λ y. e (ap (λ (k : ℕ). colour a k w) (sym y) ∙ q.3)), q.2, q.3)),
      );
      many = o.many;
      keeps = k.0;
      chain = k.1 ∙ o.chain;
      died = λ i m. other_colour now hs g i (small i m) (differs i m) ∙ o.died i m;
      painted = λ i p q l x d. paint i p q l x d (ℕ_discrete i n);
      idle = λ i l x. other_colour now hs g i l (λ y. z (ap (λ (k : ℕ). colour a k w) (sym y) ∙ x)) ∙ o.idle i l x;
      left = λ i l x. other_colour now hs g i l (⊎_elim (λ y. omega (arith, o.begun)) (λ y. omega arith) x) ∙ o.left i l (⊎_elim (λ y. inl y) (λ y. inr (omega arith)) x);
      aged = λ i m. other_gen now hs g i (small i m) (differs i m) ∙ o.aged i m;
      gens = λ i l m. kept i l (ℕ_discrete i n) ∙ o.gens i l m;
      extents = λ i l m. sized i l (ℕ_discrete i n) ∙ o.extents i l m;
      zeroed = λ i k m l. word (a.bodies + i * a.stride + k) (omega arith) ∙ o.zeroed i k m l;
      erased = o.erased;
      bodies = λ i k m l. word (a.bodies + i * a.stride + k) (omega arith) ∙ o.bodies i k m l;
      texts = o.texts;
      outside = λ x y. other_outside now hs g (omega arith) x y ∙ o.outside x y;
      size = o.size;
      visited = omega (arith, o.visited, one_more, one_occupied (colour a n w) z);
    }
      where
        g : Becomes a n 0 h.words (set_colour a n white h.words)
            (record {
              head = head a h.words;
              fresh = fresh a h.words;
              count = count a h.words;
              colour = white;
              gen = gen a n h.words;
              link = link a n h.words;
              extent = at h.words (a.base + 3 * a.slots + n);
            })
        g = painted_is a n h.words now hs white

        k : (v' : WellFormed a (set_colour a n white h.words)) × (v'.free ≡ o.keeps.free)
        k = paint_keeps now o.keeps white (gen a n h.words) (link a n h.words) (at h.words (a.base + 3 * a.slots + n)) (omega (arith, o.fresh)) (λ y. z (sym same ∙ y)) c₁ c₄ g

        not_n : (i : ℕ) → i < n + 1 → (i ≡ n → ⊥) → i < n
        not_n i q y = omega (arith, y)

        small : (i : ℕ) → Memᴰ i o.gone → i < a.slots
        small i m = omega (arith, ((o.is i).0 m).2, v.within)

        differs : (i : ℕ) → Memᴰ i o.gone → i ≢ n
        differs i m = omega (arith, ((o.is i).0 m).1)

        paint : (i : ℕ) → start ≤ i → i < n + 1 → i < a.slots → colour a i w ≢ 0 → colour a i w ≢ dead → Dec (i ≡ n) → colour a i (set_colour a n white h.words) ≡ white
        paint i p q l x d (yes y) = ap (λ (j : ℕ). colour a j (set_colour a n white h.words)) y ∙ own_colour now hs g c₄
        paint i p q l x d (no y) = other_colour now hs g i l y ∙ o.painted i p (omega arith) l x d

        word : (x : ℕ) → a.bodies ≤ x → at (set_colour a n white h.words) x ≡ at h.words x
        word x l = other_word now hs g x l (⊎_elim (λ p. inr (omega arith)) (λ p. inl p) (le_or_lt (a.bodies + n * a.stride) x))

        sized : (i : ℕ) → i < a.slots → Dec (i ≡ n) → extent a i (set_colour a n white h.words) ≡ extent a i h.words
        sized i l (yes y) =
            ap (λ (j : ℕ). extent a j (set_colour a n white h.words)) y ∙ ap (λ (x : ℕ). bounded x a.stride) g.extent ∙ ap (λ (j : ℕ). extent a j h.words) (sym y)
        sized i l (no y) = other_extent now hs g i l y

        kept : (i : ℕ) → i < a.slots → Dec (i ≡ n) → gen a i (set_colour a n white h.words) ≡ gen a i h.words
        kept i l (yes y) = ap (λ (j : ℕ). gen a j (set_colour a n white h.words)) y ∙ g.gen ∙ ap (λ (j : ℕ). gen a j h.words) (sym y)
        kept i l (no y) = other_gen now hs g i l y

  -- one visit
  turn : (max n : ℕ) (p : Sweep × Heap) → 0 < p.0.left → n < fresh a w → So_far max n p.0 p.1 → So_far max (n + 1) (visits a dead white n p).0 (visits a dead white n p).1
  unfolding visit
  turn max n p l b o = go (ℕ_discrete (colour a n w) 0) (ℕ_discrete (colour a n w) dead)
    where
      e : colour a n p.1.words ≡ colour a n w
      e = same n p.0.freed o.0 p.1 o.2 b

      dying : Sweep × Heap
      dying = (record { left = p.0.left - 1; freed = p.0.freed + 1 }, free_slot a n p.1)

      living : Sweep × Heap
      living = (record { left = p.0.left - 1; freed = p.0.freed }, heap (set_colour a n white p.1.words) p.1.bytes)

      P : Sweep × Heap → Type 0
      P q = So_far max (n + 1) q.0 q.1

      go : Dec (colour a n w ≡ 0) → Dec (colour a n w ≡ dead) → P (visit a dead white n p.0 p.1)
      go (yes z) y =
          subst P (eq_yes (colour a n p.1.words) 0 p (if_eq (colour a n p.1.words) dead dying living) p (e ∙ z) refl)
          (o.0, o.1, passed n p.0.freed o.0 p.1 o.2 b z)
      go (no z) (yes y) =
          subst P
          (eq_no (colour a n p.1.words) 0 p (if_eq (colour a n p.1.words) dead dying living) dying (λ x. z (sym e ∙ x))
          (eq_yes (colour a n p.1.words) dead dying living dying (e ∙ y) refl))
          (o.0 + 1, omega (arith, o.1), dies n p.0.freed o.0 p.1 o.2 b z y)
      go (no z) (no y) =
          subst P
          (eq_no (colour a n p.1.words) 0 p (if_eq (colour a n p.1.words) dead dying living) living (λ x. z (sym e ∙ x))
          (eq_no (colour a n p.1.words) dead dying living living (λ x. y (sym e ∙ x)) refl))
          (o.0 + 1, omega (arith, o.1), lives n p.0.freed o.0 p.1 o.2 b z y)

  -- all visits, and why they stopped
  abbrev Swept_to : ℕ → ℕ × (Sweep × Heap) → Type 0
  Swept_to max q = So_far max q.0 q.1.0 q.1.1 × ((q.1.0.left ≤ 0) ⊎ (used a w ≤ q.0))

  goes : (k max n : ℕ) (p : Sweep × Heap) → used a w ≤ n + k → So_far max n p.0 p.1 → Swept_to max (scan to_see (visits a dead white) n (used a w) p)
  goes zero max n p h o = subst (Swept_to max) (sym (scan_over to_see (visits a dead white) n (used a w) p (omega arith))) (o, inr (omega arith))
  goes (suc k) max n p h o =
      ⊎_elim
      (λ over. subst (Swept_to max) (sym (scan_over to_see (visits a dead white) n (used a w) p over)) (o, inr over))
      (λ below.
      ⊎_elim
      (λ stop. subst (Swept_to max) (sym (scan_stop to_see (visits a dead white) n (used a w) p stop)) (o, inl stop))
      (λ going.
      subst (Swept_to max) (sym (scan_turn to_see (visits a dead white) n (used a w) p below going))
      (goes k max (n + 1) (visits a dead white n p) (omega arith) (turn max n p going (omega arith) o)))
      (le_or_lt p.0.left 0))
      (le_or_lt (used a w) n)

-- the links after a sweep lead through the slots freed, and then on as before
pub sweep_links : {a : Arena} {dead white start next freed seen : ℕ} {h h' : Heap} {before : List ℕ} (m : Cleaned a dead white start next freed seen h h' before)
    → Chain a h'.words (m.gone ++ before) (head a h'.words)
sweep_links {a} {h' = h'} m = subst (λ (is : List ℕ). Chain a h'.words is (head a h'.words)) m.chain m.keeps.chain

-- The answer of a sweep: what it cleaned; and if it is not done, exactly max occupied slots were visited.
pub record Sweeps (a : Arena) (dead white start max : ℕ) (h : Heap) (before : List ℕ) (q : Swept × Heap) : Type 0 where
  pub seen : ℕ
  pub cleaned : Cleaned a dead white start q.0.next q.0.freed seen h q.1 before
  pub most : seen ≤ max
  -- done means next position at or past the end, the fresh index
  pub done : q.0.done ≡ leb (fresh a h.words) q.0.next
  pub ended : q.0.done ≡ true → fresh a h.words ≤ q.0.next
  pub unfinished : q.0.done ≡ false → (q.0.next < fresh a h.words) × (seen ≡ max)

-- A sweep of a well-formed arena does this.
pub sweep_does : (a : Arena) (dead white start max : ℕ) (h : Heap) → Room a h.words → (v : WellFormed a h.words) → 0 < dead → 1 ≤ white → white ≤ 4
    → Sweeps a dead white start max h v.free (sweep_partial a dead white start max h)
unfolding sweep_partial
sweep_does a dead white start max h r v d₁ c₁ c₄ =
    let w : List ℕ = h.words in
    let first : Sweep × Heap = (record { left = max; freed = 0 }, h) in
    let q = scan to_see (visits a dead white) start (used a w) first in
    let u : used a w ≡ fresh a w = omega (arith, v.within) in
    let g = goes a dead white start h r v d₁ c₁ c₄ (used a w) max start first (omega arith) (0, omega arith, begins a dead white start h r v d₁ c₁ c₄) in
    record {
      seen = g.0.0;
      cleaned = g.0.2;
      most = omega (arith, g.0.1);
      done = ap (λ (e : ℕ). leb e q.0) u;
      ended = λ e. omega (arith, leb-true (used a w) q.0 e);
      unfinished = λ e.
          let l : q.0 < used a w = leb-false (used a w) q.0 e in
          (omega arith, ⊎_elim (λ y. omega (arith, g.0.1)) (λ y. absurd (omega arith)) g.1);
    }
