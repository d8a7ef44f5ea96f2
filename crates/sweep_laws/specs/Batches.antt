-- One arena swept in batches, each from where the one before it ended: what is freed, painted and left, as for one sweep of the
-- whole. Between two batches words elsewhere may change. Assumes nothing.
--     Clean            the arena after its slots below n were swept
--     clean_none       none yet
--     clean_cleaned    a batch from slot n on: the slots below it are not touched again
--     Same, clean_same     words and bytes elsewhere change
--     batches, batches_clean     any number of batches of any sizes
use Rattle.std.specs.Prelude.{◌≡◌, refl, ◌≢◌, ◌↔◌, ℕ, ◌+◌, ◌*◌, ◌%◌, ◌^◌, ◌≤◌, ◌<◌, length}
use Rattle.std.proofs.Common.{sym, subst, ap, ◌∙◌, inl, inr, ⊎_elim, arith}
use mathlib.Core.List.Memᴰ
use mathlib.Core.List.{List, [], ◌∷◌, ◌++◌, append_assoc, Memᴰ}
use Rattle.base.specs.Words.{at, bounded}
use Rattle.base.specs.Heap.{Heap}
use Rattle.arena.specs.Slots.{Room, Wide, row, colour, extent, gen, fresh, sweep_partial}
use Rattle.arena.specs.declared.Arena.{Arena}
use Rattle.arena_laws.specs.Words.{le_or_lt}
use Rattle.arena_laws.specs.Chain.{Falling, WellFormed}
use Rattle.arena_laws.specs.Changes.{room_after}
use Rattle.arena_laws.specs.Frees.{extent_within}
use Rattle.arena_laws.specs.Frames.{Untouched, kept_fresh, kept_colour, kept_gen, frame_keeps}
use Rattle.arena_laws.specs.Sweeps.{Cleaned, sweep_does}

-- The heap h became h', the slots below n were swept. The chain held the slots `before`.
pub record Clean (a : Arena) (dead white n : ℕ) (h h' : Heap) (before : List ℕ) : Type 0 where
  pub long : length h'.words ≡ length h.words
  pub size : length h'.bytes ≡ length h.bytes
  -- the end, the fresh index, stays
  pub within : n ≤ fresh a h.words
  pub end : fresh a h'.words ≡ fresh a h.words
  -- the slots that were freed, each once, the last first: those in the old white
  pub gone : List ℕ
  pub falls : Falling gone
  pub is : (i : ℕ) → Memᴰ i gone ↔ ((i < n) × (colour a i h.words ≡ dead))
  -- the chain leads through them and then on as before
  pub keeps : WellFormed a h'.words
  pub chain : keeps.free ≡ gone ++ before
  -- they are free; other occupied slots took the new white; a free slot is free, and one that is not swept yet has its colour
  pub died : (i : ℕ) → Memᴰ i gone → colour a i h'.words ≡ 0
  pub painted : (i : ℕ) → i < n → colour a i h.words ≢ 0 → colour a i h.words ≢ dead → colour a i h'.words ≡ white
  pub idle : (i : ℕ) → i < a.slots → colour a i h.words ≡ 0 → colour a i h'.words ≡ 0
  pub left : (i : ℕ) → i < a.slots → n ≤ i → colour a i h'.words ≡ colour a i h.words
  -- those freed have the next generation, all others their own
  pub aged : (i : ℕ) → Memᴰ i gone → gen a i h'.words ≡ (gen a i h.words + 1) % 2 ^ 32
  pub gens : (i : ℕ) → i < a.slots → (Memᴰ i gone → ⊥) → gen a i h'.words ≡ gen a i h.words
  pub extents : (i : ℕ) → i < a.slots → (Memᴰ i gone → ⊥) → extent a i h'.words ≡ extent a i h.words
  -- the words of the records of those freed, as sized, and their bytes, are 0; the bodies and bytes of all others stay
  pub zeroed : (i k : ℕ) → Memᴰ i gone → k < extent a i h.words → at h'.words (a.bodies + i * a.stride + k) ≡ 0
  pub erased : Wide a h.bytes → (i k : ℕ) → Memᴰ i gone → k < a.width → at h'.bytes (i * a.width + k) ≡ 0
  pub bodies : (i k : ℕ) → i < a.slots → (Memᴰ i gone → ⊥) → k < a.stride → at h'.words (a.bodies + i * a.stride + k) ≡ at h.words (a.bodies + i * a.stride + k)
  pub texts : (i k : ℕ) → i < a.slots → (Memᴰ i gone → ⊥) → k < a.width → at h'.bytes (i * a.width + k) ≡ at h.bytes (i * a.width + k)

-- None is swept yet.
pub clean_none : (a : Arena) (dead white : ℕ) (h : Heap) (v : WellFormed a h.words) → Clean a dead white 0 h h v.free
clean_none a dead white h v = record {
  long = refl;
  size = refl;
  within = omega arith;
  end = refl;
  gone = [];
  falls = tt;
  is = λ i. ((λ m. absurd (Memᴰ.not-nil m)), (λ q. absurd (let z : ⊥ = omega (arith, q.0) in z)));
  keeps = v;
  chain = refl;
  died = λ i m. absurd (Memᴰ.not-nil m);
  painted = λ i p. absurd (let z : ⊥ = omega (arith, p) in z);
  idle = λ i l e. e;
  left = λ i l p. refl;
  aged = λ i m. absurd (Memᴰ.not-nil m);
  gens = λ i l m. refl;
  extents = λ i l m. refl;
  zeroed = λ i k m. absurd (Memᴰ.not-nil m);
  erased = λ z i k m. absurd (Memᴰ.not-nil m);
  bodies = λ i k l m p. refl;
  texts = λ i k l m p. refl;
}

-- Two falling lists, all of the first above all of the second, are one.
falling_append : (xs ys : List ℕ) → Falling xs → Falling ys → ((i j : ℕ) → Memᴰ i xs → Memᴰ j ys → j < i) → Falling (xs ++ ys)
falling_append [] ys f g h = g
falling_append (x ∷ xs) ys f g h = (
  (λ j m. ⊎_elim (λ p. f.0 j p) (λ p. h x j (Memᴰ.head refl) p) (Memᴰ.append_cases xs m)),
  falling_append xs ys f.1 g (λ i j m p. h i j (Memᴰ.tail m) p),
)

-- A batch from slot n on.
module _ {a : Arena} {dead white n : ℕ} {h h₁ : Heap} {before : List ℕ} (v : WellFormed a h.words) (c : Clean a dead white n h h₁ before)
    {m f seen : ℕ} {h₂ : Heap} (o : Cleaned a dead white n m f seen h₁ h₂ c.keeps.free) where
  new_in : (i : ℕ) → Memᴰ i o.gone → (n ≤ i) × (i < m) × (i < a.slots)
  new_in i p = let q = (o.is i).0 p in (q.0, q.1, omega (arith, q.2, c.end, v.within))

  old_in : (i : ℕ) → Memᴰ i c.gone → (i < n) × (i < a.slots)
  old_in i p = let q = (c.is i).0 p in (q.0, omega (arith, q.0, c.within, v.within))

  not_new : (i : ℕ) → i < n → Memᴰ i o.gone → ⊥
  not_new i l p = let q = new_in i p in omega (arith, l, q.0)

  not_old : (i : ℕ) → n ≤ i → Memᴰ i c.gone → ⊥
  not_old i l p = let q = old_in i p in omega (arith, l, q.0)

  not_first : (i : ℕ) → (Memᴰ i (o.gone ++ c.gone) → ⊥) → Memᴰ i o.gone → ⊥
  not_first i d p = d (Memᴰ.append_left c.gone p)

  not_second : (i : ℕ) → (Memᴰ i (o.gone ++ c.gone) → ⊥) → Memᴰ i c.gone → ⊥
  not_second i d p = d (Memᴰ.append_right o.gone p)

  ends : m ≤ fresh a h.words
  ends = ⊎_elim (λ p. omega (arith, p, c.end)) (λ p. omega (arith, p, c.within)) o.ends

  pub clean_cleaned : Clean a dead white m h h₂ before
  clean_cleaned = record {
    long = o.long ∙ c.long;
    size = o.size ∙ c.size;
    within = ends;
    end = o.fresh ∙ c.end;
    gone = o.gone ++ c.gone;
    falls = falling_append o.gone c.gone o.falls c.falls (λ i j p q. let x = new_in i p in let y = old_in j q in omega (arith, x.0, y.0));
    is = λ i. (
      (λ p. ⊎_elim
          (λ q. let x = (o.is i).0 q in (x.1, sym (c.left i (new_in i q).2 x.0) ∙ x.3))
          (λ q. let x = (c.is i).0 q in (omega (arith, x.0, o.begun), x.1))
          (Memᴰ.append_cases o.gone p)),
      (λ p. ⊎_elim
          (λ q. Memᴰ.append_left c.gone ((o.is i).1 (q, p.0, omega (arith, p.0, ends, c.end), c.left i (omega (arith, p.0, ends, v.within)) q ∙ p.1)))
          (λ q. Memᴰ.append_right o.gone ((c.is i).1 (q, p.1)))
          (le_or_lt n i)),
    );
    keeps = o.keeps;
    chain = o.chain ∙ ap (λ (l : List ℕ). o.gone ++ l) c.chain ∙ sym (append_assoc o.gone c.gone before);
    died = λ i p. ⊎_elim (λ q. o.died i q) (λ q. o.left i (old_in i q).1 (inl (old_in i q).0) ∙ c.died i q) (Memᴰ.append_cases o.gone p);
    painted = λ i p z d.
        let s : i < a.slots = omega (arith, p, ends, v.within) in
        ⊎_elim
        (λ q. let e = c.left i s q in o.painted i q p s (λ y. z (sym e ∙ y)) (λ y. d (sym e ∙ y)))
        (λ q. o.left i s (inl q) ∙ c.painted i q z d)
        (le_or_lt n i);
    idle = λ i s z. o.idle i s (c.idle i s z);
    left = λ i s p. o.left i s (inr p) ∙ c.left i s (omega (arith, p, o.begun));
    aged = λ i p.
        ⊎_elim
        (λ q. o.aged i q ∙ ap (λ (g : ℕ). (g + 1) % 2 ^ 32) (c.gens i (new_in i q).2 (not_old i (new_in i q).0)))
        (λ q. o.gens i (old_in i q).1 (not_new i (old_in i q).0) ∙ c.aged i q)
        (Memᴰ.append_cases o.gone p);
    gens = λ i s p. o.gens i s (not_first i p) ∙ c.gens i s (not_second i p);
    extents = λ i s p. o.extents i s (not_first i p) ∙ c.extents i s (not_second i p);
    zeroed = λ i k p s.
        ⊎_elim
        (λ q. o.zeroed i k q (subst (λ (e : ℕ). k < e) (sym (c.extents i (new_in i q).2 (not_old i (new_in i q).0))) s))
        (λ q. o.bodies i k (not_new i (old_in i q).0) (omega (arith, s, extent_within a i h.words)) ∙ c.zeroed i k q s)
        (Memᴰ.append_cases o.gone p);
    erased = λ z i k p s.
        ⊎_elim
        (λ q. o.erased (omega (arith, z, c.size)) i k q s)
        (λ q. o.texts i k (not_new i (old_in i q).0) s ∙ c.erased z i k q s)
        (Memᴰ.append_cases o.gone p);
    bodies = λ i k l p s. o.bodies i k (not_first i p) s ∙ c.bodies i k l (not_second i p) s;
    texts = λ i k l p s. o.texts i k (not_first i p) s ∙ c.texts i k l (not_second i p) s;
  }

-- The heap h became h': the arena's header, the cells and bodies of its slots and their bytes stay.
pub record Same (a : Arena) (h h' : Heap) : Type 0 where
  pub cells : Untouched a h.words h'.words
  pub bodies : (x : ℕ) → a.bodies ≤ x → x < a.bodies + a.slots * a.stride → at h'.words x ≡ at h.words x
  pub size : length h'.bytes ≡ length h.bytes
  pub texts : (x : ℕ) → x < a.slots * a.width → at h'.bytes x ≡ at h.bytes x

-- so is an arena swept below n
pub clean_same : {a : Arena} {dead white n : ℕ} {h h₁ h₂ : Heap} {before : List ℕ} → WellFormed a h.words → Clean a dead white n h h₁ before → Same a h₁ h₂ → Clean a dead white n h h₂ before
clean_same {a} {dead} {white} {n} {h} {h₁} {h₂} {before} v c f = record {
  long = f.cells.long ∙ c.long;
  size = f.size ∙ c.size;
  within = c.within;
  end = kept_fresh f.cells ∙ c.end;
  gone = c.gone;
  falls = c.falls;
  is = c.is;
  keeps = k.0;
  chain = k.1 ∙ c.chain;
  died = λ i m. kept_colour f.cells i (small i m) ∙ c.died i m;
  painted = λ i p z d. kept_colour f.cells i (omega (arith, p, c.within, v.within)) ∙ c.painted i p z d;
  idle = λ i l z. kept_colour f.cells i l ∙ c.idle i l z;
  left = λ i l p. kept_colour f.cells i l ∙ c.left i l p;
  aged = λ i m. kept_gen f.cells i (small i m) ∙ c.aged i m;
  gens = λ i l m. kept_gen f.cells i l ∙ c.gens i l m;
  extents = λ i l m. ap (λ (x : ℕ). bounded x a.stride) (f.cells.cells (a.base + 3 * a.slots + i) (omega arith) (omega (arith, l))) ∙ c.extents i l m;
  zeroed = λ i j m l. body i j (small i m) (omega (arith, l, extent_within a i h.words)) ∙ c.zeroed i j m l;
  erased = λ z i j m l. text i j (small i m) l ∙ c.erased z i j m l;
  bodies = λ i j s m l. body i j s l ∙ c.bodies i j s m l;
  texts = λ i j s m l. text i j s l ∙ c.texts i j s m l;
}
  where
    k : (v' : WellFormed a h₂.words) × (v'.free ≡ c.keeps.free)
    k = frame_keeps f.cells c.keeps

    small : (i : ℕ) → Memᴰ i c.gone → i < a.slots
    small i m = let q = (c.is i).0 m in omega (arith, q.0, c.within, v.within)

    body : (i j : ℕ) → i < a.slots → j < a.stride → at h₂.words (a.bodies + i * a.stride + j) ≡ at h₁.words (a.bodies + i * a.stride + j)
    body i j s l = f.bodies (a.bodies + i * a.stride + j) (omega arith) (omega (arith, l, row a.stride s))

    text : (i j : ℕ) → i < a.slots → j < a.width → at h₂.bytes (i * a.width + j) ≡ at h₁.bytes (i * a.width + j)
    text i j s l = f.texts (i * a.width + j) (omega (arith, l, row a.width s))

-- A batch for each number, the most occupied slots that it may see: the first from slot p .0, each other from where the one
-- before it ended.
unfoldable pub batches : Arena → ℕ → ℕ → List ℕ → ℕ × Heap → ℕ × Heap
batches a dead white [] p = p
batches a dead white (most ∷ ms) p =
    let q = sweep_partial a dead white p.0 most p.1 in
    batches a dead white ms (q.0.next, q.1)

-- Any batches of a well-formed arena: what they free, paint and leave.
module _ (a : Arena) (dead white : ℕ) (h : Heap) (r : Room a h.words) (v : WellFormed a h.words) (d₁ : 0 < dead) (c₁ : 1 ≤ white) (c₄ : white ≤ 4) where
  batches_on : (ms : List ℕ) (p : ℕ × Heap) → Clean a dead white p.0 h p.1 v.free
      → Clean a dead white (batches a dead white ms p).0 h (batches a dead white ms p).1 v.free
  unfolding batches
  batches_on [] p c = c
  batches_on (most ∷ ms) p c =
      let s = sweep_does a dead white p.0 most p.1 (room_after c.long r) c.keeps d₁ c₁ c₄ in
      batches_on ms _ (clean_cleaned v c s.cleaned)

  pub batches_clean : (ms : List ℕ) → Clean a dead white (batches a dead white ms (0, h)).0 h (batches a dead white ms (0, h)).1 v.free
  batches_clean ms = batches_on ms (0, h) (clean_none a dead white h v)
