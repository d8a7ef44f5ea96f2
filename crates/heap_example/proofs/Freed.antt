-- The theorem on what is freed, applied to the small heap: what it asks for holds, and it gives the slots that one expects. The table and the
-- 81 upvalues are freed, each once, and nothing else: so no premise is void, and a collector that frees nothing, or that stops after a
-- batch of 80, does not meet it. Assumes nothing.
--     all_white, arenas          what it asks for
--     kept_four                  what is kept: global, registry and both names
--     freed_strings, freed_tables, freed_upvalues     the slots freed
use Rattle.std.specs.Prelude.{◌≡◌, refl, Bool, true, false, cond, ◌≢◌, ℕ, zero, suc, ◌+◌, ◌≤◌, ◌<◌}
use Rattle.std.proofs.Common.{sym, ap, subst, ◌∙◌, true≢false, inl, inr, ⊎_elim, arith, eqb-true}
use mathlib.Core.List.Memᴰ
use mathlib.Core.List.{List, [], ◌∷◌, Memᴰ}
use Rattle.std.proofs.Math.Decide.{ℕ_discrete}
use Rattle.base.specs.Words.{at}
use Rattle.arena.specs.Slots.{known, colour, gen, head, fresh, count, occupied}
use Rattle.arena_laws.specs.Words.{le_is}
use Rattle.arena_laws.specs.Chain.{Falling, WellFormed}
use Rattle.layout.specs.declared.Lay.{Lay}
use Rattle.layout.specs.Sizes.{SizesOk, sizes_fit_ok}
use Rattle.layout.specs.Layout.{lay_of}
use Rattle.layout.specs.Places.{PHASE, WHITE}
use Rattle.lists.specs.Lists.{length_of}
use Rattle.mark.specs.Ops.{Ref, ref}
use Rattle.mark.specs.Words.{arena_of, colour_w}
use Rattle.links.specs.Links.{links}
use Rattle.laid.specs.Laid.{laid_of}
use Rattle.mark_laws.specs.Apart.{apart, Order, order, arena_kind}
use Rattle.mark_laws.specs.Colours.{shade_parts}
use Rattle.reach.specs.Reached.{Reach-root, Reach-step, Occupied}
use Rattle.reach.specs.Cycle.{AllWhite}
use Rattle.atomic_laws.specs.Kept.{Kept}
use Rattle.atomic_laws.proofs.Dues.{shade_colour}
use Rattle.sweep_laws.specs.Turns.{Arenas}
use Rattle.sweep_laws.specs.Collections.{slot_at, ToFree, Collection}
use Rattle.sweep_laws.proofs.Collections.{planned_freed}
use Rattle.manual.proofs.Agreement.{agreement}
use Rattle.pace_laws.specs.Sames.{falling_same}
use Rattle.heap_example.specs.Small.{sizes, words, bytes, all, is_one, fits, slots, header, colours, numbers, tops, four, roots_are, links_are, long, wide, gens}
use Rattle.heap_example.specs.Freed.{down}

abbrev l : Lay
l = lay_of sizes

ok : SizesOk sizes
ok = sizes_fit_ok sizes fits

o : Order l
o = order l (laid_of sizes ok) (apart sizes)

-- a list's n-th, as far as it goes
abbrev nth : {A : Type 0} → A → ℕ → List A → A
nth x n [] = x
nth x zero (y ∷ ys) = y
nth x (suc n) (y ∷ ys) = nth x n ys

slots_are : (k : ℕ) → nth 0 k ((arena_of l 0).slots ∷ (arena_of l 1).slots ∷ (arena_of l 2).slots ∷ (arena_of l 3).slots ∷ (arena_of l 4).slots ∷ (arena_of l 5).slots ∷ []) ≡ nth 0 k (2 ∷ 3 ∷ 0 ∷ 81 ∷ 0 ∷ 0 ∷ [])
slots_are k = ap (λ (xs : List ℕ). nth 0 k xs) slots

tops_are : (k n : ℕ) → nth 0 n (nth [] k (numbers 0 ∷ numbers 1 ∷ numbers 2 ∷ numbers 3 ∷ numbers 4 ∷ numbers 5 ∷ []))
    ≡ nth 0 n (nth [] k ((0 ∷ 2 ∷ 2 ∷ 2 ∷ []) ∷ (0 ∷ 3 ∷ 3 ∷ 3 ∷ []) ∷ (0 ∷ 0 ∷ 0 ∷ 0 ∷ []) ∷ (0 ∷ 81 ∷ 81 ∷ 81 ∷ []) ∷ (0 ∷ 0 ∷ 0 ∷ 0 ∷ []) ∷ (0 ∷ 0 ∷ 0 ∷ 0 ∷ []) ∷ []))
tops_are k n = ap (λ (xs : List (List ℕ)). nth 0 n (nth [] k xs)) tops

pause : at words PHASE ≡ 0
pause = ap (nth 0 0) header

white : at words WHITE ≡ 1
white = ap (nth 0 1) header

none : length_of l.queue words ≡ 0
none = ap (nth 0 2) header

-- what a test of all below n says of each
all_says : (t : ℕ → Bool) (n i : ℕ) → all t n ≡ true → i < n → t i ≡ true
unfolding all
all_says t zero i e h = absurd (let z : ⊥ = omega (arith, h) in z)
all_says t (suc n) i e h = go (t n) refl e (ℕ_discrete i n) (λ k. all_says t n i k)
  where
    go : (c : Bool) → t n ≡ c → cond c (all t n) false ≡ true → Dec (i ≡ n) → (all t n ≡ true → i < n → t i ≡ true) → t i ≡ true
    go false p q d rest = absurd (true≢false (sym q))
    go true p q (yes d) rest = ap t d ∙ p
    go true p q (no d) rest = rest q (omega (arith, h, d))

-- Every slot below an arena's fresh index is in white 1.
size : ℕ → ℕ
size k = nth 0 k (2 ∷ 3 ∷ 0 ∷ 81 ∷ 0 ∷ 0 ∷ [])

slot_white : (k i : ℕ) → k ≤ 5 → i < (arena_of l k).slots → at words ((arena_of l k).base + i) ≡ 1
slot_white zero i h f = eqb-true (at words ((arena_of l 0).base + i)) 1 (all_says (is_one 0) 2 i (ap (nth false 0) colours) (omega (arith, f, slots_are 0)))
slot_white (suc zero) i h f = eqb-true (at words ((arena_of l 1).base + i)) 1 (all_says (is_one 1) 3 i (ap (nth false 1) colours) (omega (arith, f, slots_are 1)))
slot_white (suc (suc zero)) i h f = absurd (let z : ⊥ = omega (arith, f, slots_are 2) in z)
slot_white (suc (suc (suc zero))) i h f = eqb-true (at words ((arena_of l 3).base + i)) 1 (all_says (is_one 3) 81 i (ap (nth false 2) colours) (omega (arith, f, slots_are 3)))
slot_white (suc (suc (suc (suc zero)))) i h f = absurd (let z : ⊥ = omega (arith, f, slots_are 4) in z)
slot_white (suc (suc (suc (suc (suc zero))))) i h f = absurd (let z : ⊥ = omega (arith, f, slots_are 5) in z)
slot_white (suc (suc (suc (suc (suc (suc k)))))) i h f = absurd (let z : ⊥ = omega (arith, h) in z)

slot_colour : (k i : ℕ) → k ≤ 5 → i < (arena_of l k).slots → colour (arena_of l k) i words ≡ 1
slot_colour k i h f = ap (λ (n : ℕ). known n) (slot_white k i h f) ∙ le_is 1 4 (omega arith)

-- So every occupied slot has the current white,
pub all_white : AllWhite l words
all_white = record {
  white = λ r h.
      let p = shade_parts (arena_of l r.kind) r.at r.gen words h in
      let i : r.at < (arena_of l r.kind).slots = omega (arith, p.0) in
      p.2 ∙ slot_white r.kind r.at (arena_kind l o r.kind r.at i) i ∙ sym white;
  low = omega (arith, white);
  high = omega (arith, white);
}

-- and the six arenas are well-formed: no slot is free.
full : (k : ℕ) → k ≤ 5 → head (arena_of l k) words ≡ 0 → fresh (arena_of l k) words ≡ (arena_of l k).slots → count (arena_of l k) words ≡ occupied (arena_of l k) words → WellFormed (arena_of l k) words
full k h e f g = record {
  within = omega (arith, f);
  free = [];
  chain = e;
  once = tt;
  is = λ i. ((λ m. absurd (Memᴰ.not-nil m)), λ p. absurd (let c = slot_colour k i h (omega (arith, f, p.0)) in one (colour (arena_of l k) i words) c p.1));
  unused = λ i p q. absurd (let z : ⊥ = omega (arith, f, p, q) in z);
  counts = g;
}
  where
    one : (n : ℕ) → n ≡ 1 → n ≡ 0 → ⊥
    one n e z = omega (arith, e, z)

pub arenas : Arenas l words
arenas zero h = full 0 h (tops_are 0 0) (tops_are 0 1 ∙ sym (slots_are 0)) (tops_are 0 2 ∙ sym (tops_are 0 3))
arenas (suc zero) h = full 1 h (tops_are 1 0) (tops_are 1 1 ∙ sym (slots_are 1)) (tops_are 1 2 ∙ sym (tops_are 1 3))
arenas (suc (suc zero)) h = full 2 h (tops_are 2 0) (tops_are 2 1 ∙ sym (slots_are 2)) (tops_are 2 2 ∙ sym (tops_are 2 3))
arenas (suc (suc (suc zero))) h = full 3 h (tops_are 3 0) (tops_are 3 1 ∙ sym (slots_are 3)) (tops_are 3 2 ∙ sym (tops_are 3 3))
arenas (suc (suc (suc (suc zero)))) h = full 4 h (tops_are 4 0) (tops_are 4 1 ∙ sym (slots_are 4)) (tops_are 4 2 ∙ sym (tops_are 4 3))
arenas (suc (suc (suc (suc (suc zero))))) h = full 5 h (tops_are 5 0) (tops_are 5 1 ∙ sym (slots_are 5)) (tops_are 5 2 ∙ sym (tops_are 5 3))
arenas (suc (suc (suc (suc (suc (suc k)))))) h = absurd (let z : ⊥ = omega (arith, h) in z)

-- The theorem, applied.
pub collection : Collection l words bytes arenas
collection = planned_freed sizes ok words bytes (omega (arith, long)) (omega (arith, wide)) pause all_white none arenas

-- What is kept is global, registry and both names: none of them refers to anything, and there is no userdata.
pub kept_four : (r : Ref) → Kept l words bytes r → Memᴰ r four
kept_four r (Reach-root (inl m) i) = subst (λ (rs : List Ref). Memᴰ r rs) roots_are m
kept_four r (Reach-root (inr d) i) =
    absurd
    (let p = shade_parts (arena_of l r.kind) r.at r.gen words d.occupied in
    let f : r.at < (arena_of l r.kind).slots = omega (arith, p.0) in
    let g : r.at < (arena_of l 4).slots = subst (λ k. r.at < (arena_of l k).slots) d.userdata f in
    let z : ⊥ = omega (arith, g, slots_are 4) in z)
kept_four r (Reach-step {i = q} h m i) = absurd (Memᴰ.not-nil (subst (λ (rs : List Ref). Memᴰ r rs) (no_links q (kept_four q h)) m))
  where
    no_links : (q : Ref) → Memᴰ q four → links words l bytes q ≡ []
    no_links q m =
        ⊎_elim (λ e. ap (λ (x : Ref). links words l bytes x) e ∙ ap (nth [] 0) links_are) (λ m.
        ⊎_elim (λ e. ap (λ (x : Ref). links words l bytes x) e ∙ ap (nth [] 1) links_are) (λ m.
        ⊎_elim (λ e. ap (λ (x : Ref). links words l bytes x) e ∙ ap (nth [] 2) links_are) (λ m.
        ⊎_elim (λ e. ap (λ (x : Ref). links words l bytes x) e ∙ ap (nth [] 3) links_are) (λ m. absurd (Memᴰ.not-nil m))
        (Memᴰ.cases_cons m)) (Memᴰ.cases_cons m)) (Memᴰ.cases_cons m)) (Memᴰ.cases_cons m)

-- a slot below the slots is occupied, and no other is
slot_in_lem : (k i : ℕ) → k ≤ 5 → Occupied l words (slot_at l words k i) → i < (arena_of l k).slots
slot_in_lem k i h f = let p = shade_parts (arena_of l k) i (gen (arena_of l k) i words) words f in omega (arith, p.0)

slot_occupied : (k i : ℕ) (h : k ≤ 5) → i < (arena_of l k).slots → fresh (arena_of l k) words ≡ (arena_of l k).slots → Occupied l words (slot_at l words k i)
slot_occupied k i h f e = one (colour_w l (slot_at l words k i) words) (colour (arena_of l k) i words) (shade_colour (arena_of l k) i (gen (arena_of l k) i words) words (omega (arith, f, e)) refl) (slot_colour k i h f)
  where
    one : (n m : ℕ) → n ≡ m → m ≡ 1 → 1 ≤ n
    one n m e f = omega (arith, e, f)

-- What is no string and not among the four is to be freed.
free_other : (k i : ℕ) → k ≤ 5 → k ≢ 0 → Occupied l words (slot_at l words k i) → (Memᴰ (slot_at l words k i) four → ⊥) → ToFree l words bytes (slot_at l words k i)
free_other k i h d occ n = (occ, (λ z. n (kept_four (slot_at l words k i) z)), λ z. d ((agreement l words bytes).only_strings (slot_at l words k i) z))

down_out : (n a i : ℕ) → Memᴰ i (down n a) → (a ≤ i) × (i < a + n)
unfolding down
down_out zero a i m = absurd (Memᴰ.not-nil m)
down_out (suc n) a i m = ⊎_elim (λ e. (omega (arith, e), omega (arith, e))) (λ k. let p = down_out n a i k in (p.0, omega (arith, p.1))) (Memᴰ.cases_cons m)

down_in : (n a i : ℕ) → a ≤ i → i < a + n → Memᴰ i (down n a)
unfolding down
down_in zero a i f g = absurd (let z : ⊥ = omega (arith, f, g) in z)
down_in (suc n) a i f g = go (ℕ_discrete i (a + n)) (λ h. down_in n a i f h)
  where
    go : Dec (i ≡ a + n) → (i < a + n → Memᴰ i (down n a)) → Memᴰ i ((a + n) ∷ down n a)
    go (yes e) rest = Memᴰ.head e
    go (no d) rest = Memᴰ.tail (rest (omega (arith, g, d)))

down_falls : (n a : ℕ) → Falling (down n a)
unfolding down
down_falls zero a = tt
down_falls (suc n) a = ((λ j m. let p = down_out n a j m in omega (arith, p.1)), down_falls n a)

-- Arena k frees the slots from a on, n of them, if these are those to be freed.
frees : (k n a : ℕ) (h : k ≤ 5) → ((i : ℕ) → ToFree l words bytes (slot_at l words k i) → (a ≤ i) × (i < a + n)) → ((i : ℕ) → a ≤ i → i < a + n → ToFree l words bytes (slot_at l words k i))
    → (collection.arenas k h).gone ≡ down n a
frees k n a h f g =
    let x = collection.arenas k h in
    falling_same x.gone (down n a) x.falls (down_falls n a)
    (λ i. ((λ m. let p = f i ((x.is i).0 m) in down_in n a i p.0 p.1), λ m. let p = down_out n a i m in (x.is i).1 (g i p.0 p.1)))

-- a handle of the four is kept
kept_first : (r : Ref) → Memᴰ r four → Occupied l words r → Kept l words bytes r
kept_first r m h = Reach-root (inl (subst (λ (rs : List Ref). Memᴰ r rs) (sym roots_are) m)) h

handle_of_lem : (k i : ℕ) → gen (arena_of l k) i words ≡ 0 → slot_at l words k i ≡ ref k i 0
handle_of_lem k i e = ap (λ (g : ℕ). ref k i g) e

kept_slot : (k i : ℕ) → gen (arena_of l k) i words ≡ 0 → Memᴰ (ref k i 0) four → Occupied l words (slot_at l words k i) → Kept l words bytes (slot_at l words k i)
kept_slot k i e m h = kept_first (slot_at l words k i) (subst (λ (r : Ref). Memᴰ r four) (sym (handle_of_lem k i e)) m) h

-- the four are strings and tables, at slots 0 and 1
four_in : (r : Ref) → Memᴰ r four → (r.kind ≤ 1) × (r.at ≤ 1)
four_in r m =
    ⊎_elim (λ e. low r _ e (omega arith) (omega arith)) (λ m.
    ⊎_elim (λ e. low r _ e (omega arith) (omega arith)) (λ m.
    ⊎_elim (λ e. low r _ e (omega arith) (omega arith)) (λ m.
    ⊎_elim (λ e. low r _ e (omega arith) (omega arith)) (λ m. absurd (Memᴰ.not-nil m))
    (Memᴰ.cases_cons m)) (Memᴰ.cases_cons m)) (Memᴰ.cases_cons m)) (Memᴰ.cases_cons m)
  where
    low : (r q : Ref) → r ≡ q → q.kind ≤ 1 → q.at ≤ 1 → (r.kind ≤ 1) × (r.at ≤ 1)
    low r q e f g = (subst (λ (x : Ref). x.kind ≤ 1) (sym e) f, subst (λ (x : Ref). x.at ≤ 1) (sym e) g)

-- All 81 upvalues are freed,
pub freed_upvalues : (collection.arenas 3 (omega arith)).gone ≡ down 81 0
freed_upvalues =
    frees 3 81 0 (omega arith) (λ i t. (omega arith, omega (arith, slot_in_lem 3 i (omega arith) t.0, slots_are 3)))
    (λ i f g. free_other 3 i (omega arith) (omega arith) (slot_occupied 3 i (omega arith) (omega (arith, g, slots_are 3)) (tops_are 3 1 ∙ sym (slots_are 3)))
    (λ m. let p = four_in (slot_at l words 3 i) m in let z : ⊥ = omega (arith, p.0) in z))

-- the one table,
pub freed_tables : (collection.arenas 1 (omega arith)).gone ≡ down 1 2
freed_tables =
    frees 1 1 2 (omega arith) (λ i t. (two i t (ℕ_discrete i 0) (ℕ_discrete i 1), omega (arith, slot_in_lem 1 i (omega arith) t.0, slots_are 1)))
    (λ i f g. free_other 1 i (omega arith) (omega arith) (slot_occupied 1 i (omega arith) (omega (arith, g, slots_are 1)) (tops_are 1 1 ∙ sym (slots_are 1)))
    (λ m. let p = four_in (slot_at l words 1 i) m in let z : ⊥ = omega (arith, p.1, f) in z))
  where
    two : (i : ℕ) → ToFree l words bytes (slot_at l words 1 i) → Dec (i ≡ 0) → Dec (i ≡ 1) → 2 ≤ i
    two i t (yes e) d = absurd ((subst (λ j. ToFree l words bytes (slot_at l words 1 j)) e t).1 (kept_slot 1 0 (ap (nth 0 2) gens) (Memᴰ.head refl) (subst (λ j. Occupied l words (slot_at l words 1 j)) e t.0)))
    two i t (no e) (yes d) = absurd ((subst (λ j. ToFree l words bytes (slot_at l words 1 j)) d t).1 (kept_slot 1 1 (ap (nth 0 3) gens) (Memᴰ.tail (Memᴰ.head refl)) (subst (λ j. Occupied l words (slot_at l words 1 j)) d t.0)))
    two i t (no e) (no d) = omega (arith, e, d)

-- and no string.
pub freed_strings : (collection.arenas 0 (omega arith)).gone ≡ down 0 0
freed_strings = frees 0 0 0 (omega arith) (λ i t. absurd (never i t (ℕ_discrete i 0) (slot_in_lem 0 i (omega arith) t.0))) (λ i f g. absurd (let z : ⊥ = omega (arith, f, g) in z))
  where
    never : (i : ℕ) → ToFree l words bytes (slot_at l words 0 i) → Dec (i ≡ 0) → i < (arena_of l 0).slots → ⊥
    never i t (yes e) h = (subst (λ j. ToFree l words bytes (slot_at l words 0 j)) e t).1 (kept_slot 0 0 (ap (nth 0 0) gens) (Memᴰ.tail (Memᴰ.tail (Memᴰ.head refl))) (subst (λ j. Occupied l words (slot_at l words 0 j)) e t.0))
    never i t (no d) h =
        let e : i ≡ 1 = omega (arith, d, h, slots_are 0) in
        (subst (λ j. ToFree l words bytes (slot_at l words 0 j)) e t).1
        (kept_slot 0 1 (ap (nth 0 1) gens) (Memᴰ.tail (Memᴰ.tail (Memᴰ.tail (Memᴰ.head refl)))) (subst (λ j. Occupied l words (slot_at l words 0 j)) e t.0))
