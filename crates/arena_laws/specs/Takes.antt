-- Allocation takes the head of the chain, else the next fresh index. What it makes of a well-formed arena. Assumes nothing.
use Rattle.std.specs.Prelude.{◌≡◌, refl, ◌⊎◌, ◌≢◌, length, Some, Ok, Err, Result}
use Rattle.std.proofs.Common.{sym, subst, ap, ◌∙◌, inl, inr, arith}
use Rattle.std.proofs.Math.Logic.{⊎_elim}
use mathlib.Core.List.Memᴰ
use mathlib.Core.List.{List, [], ◌∷◌, Memᴰ}
use Prim.Native.Nat.{ℕ, ◌+◌, ◌-◌, ◌*◌, ◌≤◌, ◌<◌}
use Rattle.std.proofs.Math.Decide.{ℕ_discrete}
use Rattle.base.specs.Ways.{if_lt, lt_yes, lt_no, le_no, le_yes}
use Rattle.base.specs.Words.{at, more, bounded}
use Rattle.arena.specs.declared.Untaken.{Untaken}
use Rattle.arena.specs.declared.Untaken.TheVariants.{NoneFree, Broken}
use Rattle.arena.specs.Slots.{Room, colour, gen, link, head, extent, fresh, count, used, occupied, named, popped, opened, no_room, take_head, take_fresh, take_slot}
use Rattle.arena.specs.declared.Arena.{Arena}
use Rattle.arena_laws.specs.Words.{le_or_lt, le_is}
use Rattle.arena_laws.specs.Counts.{tally, tally_all, colours, occupied_is}
use Rattle.arena_laws.specs.Chain.{Chain, WellFormed}
use Rattle.arena_laws.specs.Changes.{Outside, Becomes, popped_is, opened_is}
use Rattle.arena_laws.specs.Names.{named_past, named_old, named_free, named_at, named_alike}
use Rattle.arena_laws.specs.Keeps.{pop_keeps, open_keeps, own_colour, other_gen, other_colour, other_extent, other_word, other_outside, other_named}

-- the slot that an answer names, with its generation
abbrev slot_in : Result (ℕ × ℕ) Untaken → ℕ × ℕ
slot_in (Ok x) = x
slot_in (Err e) = (0, 0)

-- Slot i was taken, at generation g, in colour c, with a record of n words: the words w became w'.
pub record Made (a : Arena) (c n : ℕ) (w w' : List ℕ) (i g : ℕ) : Type 0 where
  pub long : length w' ≡ length w
  pub index : i < a.slots
  -- the slot was free
  pub was : colour a i w ≡ 0
  -- the handle names it, and every other handle names what it named
  pub names : named a i g w' ≡ Some i
  pub others : (j h : ℕ) → ((j ≡ i) × (h ≡ g) → ⊥) → named a j h w' ≡ named a j h w
  -- the colours of the other slots stay
  pub colours : (j : ℕ) → j < a.slots → j ≢ i → colour a j w' ≡ colour a j w
  -- so do their extents, all bodies, and every word outside the arena
  pub extents : (j : ℕ) → j < a.slots → j ≢ i → extent a j w' ≡ extent a j w
  pub bodies : (x : ℕ) → a.bodies ≤ x → at w' x ≡ at w x
  pub outside : (x : ℕ) → Outside a x → at w' x ≡ at w x
  -- the slot has the colour and the extent that were asked for
  pub colour : colour a i w' ≡ c
  pub extent : n ≤ a.stride → extent a i w' ≡ n
  -- the fresh index does not fall, and slots below it keep their generation
  pub grows : fresh a w ≤ fresh a w'
  pub gens : (j : ℕ) → j < fresh a w → gen a j w' ≡ gen a j w
  pub keeps : WellFormed a w'

-- the chain from a word that is not 0 has a first slot
pub chain_head : (a : Arena) (w is : List ℕ) (x : ℕ) → Chain a w is x → 0 < x → (i : ℕ) × (rest : List ℕ) × (is ≡ i ∷ rest) × (x ≡ i + 1)
chain_head a w [] x c h = absurd (omega arith)
chain_head a w (i ∷ is) x c h = (i, is, refl, c.0)

-- the chain from 0 has none
pub chain_none : (a : Arena) (w is : List ℕ) → Chain a w is 0 → is ≡ []
chain_none a w [] c = refl
chain_none a w (i ∷ is) c = absurd (omega (arith, c.0))

module _ (a : Arena) (c n : ℕ) (w : List ℕ) (r : Room a w) (v : WellFormed a w) (c₁ : 1 ≤ c) (c₄ : c ≤ 4) where
  -- Every answer there is: the head, the fresh index, or that every slot is occupied.
  pub data Takes : Type 0 where
    pops : (i : ℕ) (rest : List ℕ) → v.free ≡ i ∷ rest → take_slot a c n w ≡ (Ok (i, gen a i w), popped a i c n w) → Takes
    opens : v.free ≡ [] → fresh a w < a.slots → take_slot a c n w ≡ (Ok (fresh a w, 0), opened a (fresh a w) c n w) → Takes
    fills : take_slot a c n w ≡ (Err NoneFree, w) → ((i : ℕ) → i < a.slots → 0 < colour a i w) → Takes

  -- one of them is the answer
  pub take_cases : Takes
  unfolding take_slot take_head take_fresh no_room
  take_cases = ⊎_elim (λ p. empty p) (λ p. full p) (le_or_lt (head a w) 0)
    where
      full : 0 < head a w → Takes
      full p =
          let q = chain_head a w v.free (head a w) v.chain p in
          let i : ℕ = q.0 in
          let m = (v.is i).0 (subst (λ (s : List ℕ). Memᴰ i s) (sym q.2) (Memᴰ.head refl)) in
          let k : head a w - 1 ≡ i = omega (arith, q.3) in
          let f : fresh a w ≤ a.slots = v.within in
          let l : i < used a w = omega (arith, m.0) in
          let z : colour a i w ≤ 0 = omega (arith, m.1) in
          pops i q.1 q.2
          (sym
          (lt_yes 0 (head a w) (take_head a (head a w - 1) c n w) (take_fresh a (fresh a w) c n w) (Ok (i, gen a i w), popped a i c n w) p
          (rw k
          (le_no (used a w) i (no_room a w, w) (if_lt 0 (colour a i w) (no_room a w, w) (Ok (i, gen a i w), popped a i c n w)) _ l
          (lt_no 0 (colour a i w) (no_room a w, w) (Ok (i, gen a i w), popped a i c n w) _ z refl)))))

      empty : head a w ≤ 0 → Takes
      empty p = ⊎_elim (λ l. none l) (λ l. new l) (le_or_lt a.slots (fresh a w))
        where
          here : head a w ≡ 0
          here = omega arith

          nil : v.free ≡ []
          nil = chain_none a w v.free (subst (λ (x : ℕ). Chain a w v.free x) here v.chain)

          new : fresh a w < a.slots → Takes
          new l =
              let i : ℕ = fresh a w in
              let z : colour a i w ≤ 0 = omega (arith, v.unused i (omega arith) l) in
              opens nil l
              (sym
              (lt_no 0 (head a w) (take_head a (head a w - 1) c n w) (take_fresh a (fresh a w) c n w) (Ok (i, 0), opened a i c n w) p
              (le_no a.slots i (no_room a w, w) (if_lt 0 (colour a i w) (no_room a w, w) (Ok (i, 0), opened a i c n w)) _ l
              (lt_no 0 (colour a i w) (no_room a w, w) (Ok (i, 0), opened a i c n w) _ z refl))))

          none : a.slots ≤ fresh a w → Takes
          none l =
              let e : fresh a w ≡ a.slots = omega (arith, v.within) in
              let u : used a w ≡ a.slots = omega arith in
              let every : (i : ℕ) → i < a.slots → colour a i w ≢ 0 =
              λ i q z. Memᴰ.not-nil (subst (λ (s : List ℕ). Memᴰ i s) nil ((v.is i).1 (omega arith, z))) in
              let all : a.slots ≤ occupied a w =
              omega (arith, occupied_is a w, ap (tally (colours a w) 0) u, tally_all (colours a w) a.slots 0 (λ j p q. every j (omega arith))) in
              let i : ℕ = fresh a w in
              fills
              (sym
              (lt_no 0 (head a w) (take_head a (head a w - 1) c n w) (take_fresh a (fresh a w) c n w) (Err NoneFree, w) p
              (le_yes a.slots i (no_room a w, w) (if_lt 0 (colour a i w) (no_room a w, w) (Ok (i, 0), opened a i c n w)) (Err NoneFree, w) l
              (ap (λ (t : Result (ℕ × ℕ) Untaken). (t, w)) (lt_no (occupied a w) a.slots (Err Broken) (Err NoneFree) (Err NoneFree) all refl)))))
              (λ j q. omega (arith, every j q))

  -- the head of the chain is a slot made
  pop_made : (i : ℕ) (rest : List ℕ) → v.free ≡ i ∷ rest → Made a c n w (popped a i c n w) i (gen a i w)
  pop_made i rest e = record {
    long = b.long;
    index = hs;
    was = m.1;
    names = named_at a i (gen a i w) w' (omega (arith, b.fresh, m.0)) b.gen (omega (arith, own));
    others = λ j h d. other j h d (ℕ_discrete j i);
    colour = own;
    extent = λ l. ap (λ (x : ℕ). bounded x a.stride) b.extent ∙ le_is n a.stride l;
    colours = λ j l d. other_colour r hs b j l d;
    extents = λ j l d. other_extent r hs b j l d;
    bodies = λ x l. other_word r hs b x l (⊎_elim (λ p. inr (omega arith)) (λ p. inl p) (le_or_lt (a.bodies + i * a.stride) x));
    outside = λ x o. other_outside r hs b (omega arith) x o;
    grows = omega (arith, b.fresh);
    gens = λ j l. aged j l (ℕ_discrete j i);
    keeps = (pop_keeps r v c (gen a i w) 0 n rest e c₁ c₄ b).0;
  }
    where
      w' : List ℕ
      w' = popped a i c n w

      m : (i < fresh a w) × (colour a i w ≡ 0)
      m = (v.is i).0 (subst (λ (s : List ℕ). Memᴰ i s) (sym e) (Memᴰ.head refl))

      hs : i < a.slots
      hs = omega (arith, v.within, m.0)

      b : Becomes a i 0 w (popped a i c n w) (record { head = link a i w; fresh = fresh a w; count = more (count a w); colour = c; gen = gen a i w; link = 0; extent = n })
      b = popped_is a i w r hs c n

      own : colour a i (popped a i c n w) ≡ c
      own = own_colour r hs b c₄

      other : (j h : ℕ) → ((j ≡ i) × (h ≡ gen a i w) → ⊥) → Dec (j ≡ i) → named a j h (popped a i c n w) ≡ named a j h w
      other j h d (no q) = other_named r hs b refl j h q
      other j h d (yes q) =
          named_old a j h (popped a i c n w) (λ z. d (q, sym z ∙ ap (λ (k : ℕ). gen a k (popped a i c n w)) q ∙ b.gen))
          ∙ sym (named_free a j h w (ap (λ (k : ℕ). colour a k w) q ∙ m.1))

      aged : (j : ℕ) → j < fresh a w → Dec (j ≡ i) → gen a j (popped a i c n w) ≡ gen a j w
      aged j l (no q) = other_gen r hs b j (omega (arith, v.within)) q
      aged j l (yes q) = ap (λ (k : ℕ). gen a k (popped a i c n w)) q ∙ b.gen ∙ ap (λ (k : ℕ). gen a k w) (sym q)

  -- so is the fresh index
  open_made : fresh a w < a.slots → Made a c n w (opened a (fresh a w) c n w) (fresh a w) 0
  open_made hs = record {
    long = b.long;
    index = hs;
    was = v.unused (fresh a w) (omega arith) hs;
    names = named_at a (fresh a w) 0 (opened a (fresh a w) c n w) (omega (arith, b.fresh)) b.gen (omega (arith, own));
    others = λ j h d. other j h d (ℕ_discrete j (fresh a w));
    colour = own;
    extent = λ l. ap (λ (x : ℕ). bounded x a.stride) b.extent ∙ le_is n a.stride l;
    colours = λ j l d. other_colour r hs b j l d;
    extents = λ j l d. other_extent r hs b j l d;
    bodies = λ x l. other_word r hs b x l (⊎_elim (λ p. inr (omega arith)) (λ p. inl p) (le_or_lt (a.bodies + fresh a w * a.stride) x));
    outside = λ x o. other_outside r hs b (omega arith) x o;
    grows = omega (arith, b.fresh);
    gens = λ j l. other_gen r hs b j (omega arith) (omega arith);
    keeps = (open_keeps r v c 0 (link a (fresh a w) w) n refl hs c₁ c₄ b).0;
  }
    where
      b : Becomes a (fresh a w) 0 w (opened a (fresh a w) c n w)
          (record { head = head a w; fresh = fresh a w + 1; count = more (count a w); colour = c; gen = 0; link = link a (fresh a w) w; extent = n })
      b = opened_is a (fresh a w) w r hs c n

      own : colour a (fresh a w) (opened a (fresh a w) c n w) ≡ c
      own = own_colour r hs b c₄

      other : (j h : ℕ) → ((j ≡ fresh a w) × (h ≡ 0) → ⊥) → Dec (j ≡ fresh a w) → named a j h (opened a (fresh a w) c n w) ≡ named a j h w
      other j h d (yes q) =
          named_old a j h (opened a (fresh a w) c n w) (λ z. d (q, sym z ∙ ap (λ (k : ℕ). gen a k (opened a (fresh a w) c n w)) q ∙ b.gen))
          ∙ sym (named_past a j h w (omega arith))
      other j h d (no q) =
          ⊎_elim
          (λ past. named_alike a j h w (opened a (fresh a w) c n w) (inl (omega arith, omega (arith, b.fresh))))
          (λ below.
          named_alike a j h w (opened a (fresh a w) c n w)
          (inr (omega arith, omega (arith, b.fresh), other_gen r hs b j (omega arith) q, other_colour r hs b j (omega arith) q)))
          (le_or_lt (fresh a w) j)

  -- The answer names a slot that was made, or it is that all slots are full: then nothing changed and every slot is occupied.
  -- So in a well-formed arena it is never that the arena is damaged.
  pub take-answers :
      ((i : ℕ) × (g : ℕ) × ((take_slot a c n w).0 ≡ Ok (i, g)) × Made a c n w (take_slot a c n w).1 i g)
      ⊎ ((take_slot a c n w ≡ (Err NoneFree, w)) × ((i : ℕ) → i < a.slots → 0 < colour a i w))
  take-answers = go take_cases
    where
      go : Takes →
          ((i : ℕ) × (g : ℕ) × ((take_slot a c n w).0 ≡ Ok (i, g)) × Made a c n w (take_slot a c n w).1 i g)
          ⊎ ((take_slot a c n w ≡ (Err NoneFree, w)) × ((i : ℕ) → i < a.slots → 0 < colour a i w))
      go (pops i rest e q) = inl (i, gen a i w, ap (λ x. x.0) q, subst (λ (u : List ℕ). Made a c n w u i (gen a i w)) (sym (ap (λ x. x.1) q)) (pop_made i rest e))
      go (opens e l q) = inl (fresh a w, 0, ap (λ x. x.0) q, subst (λ (u : List ℕ). Made a c n w u (fresh a w) 0) (sym (ap (λ x. x.1) q)) (open_made l))
      go (fills q every) = inr (q, every)

  -- what is taken was made
  pub take_made : (i g : ℕ) → (take_slot a c n w).0 ≡ Ok (i, g) → Made a c n w (take_slot a c n w).1 i g
  take_made i g e = ⊎_elim (λ q. made q) (λ q. absurd (never q.0)) take-answers
    where
      never : take_slot a c n w ≡ (Err NoneFree, w) → ⊥
      never q =
          let p : Ok (i, g) ≡ Err NoneFree = sym e ∙ ap (λ x. x.0) q in
          let z : ◌≡◌ {A = ℕ} 0 1 = cc in
          omega arith

      made : ((j : ℕ) × (h : ℕ) × ((take_slot a c n w).0 ≡ Ok (j, h)) × Made a c n w (take_slot a c n w).1 j h) → Made a c n w (take_slot a c n w).1 i g
      made q =
          let p : Ok (q.0, q.1) ≡ Ok (i, g) = sym q.2 ∙ e in
          let x : q.0 ≡ i = ap (λ r. (slot_in r).0) p in
          let y : q.1 ≡ g = ap (λ r. (slot_in r).1) p in
          subst (λ (j : ℕ). Made a c n w (take_slot a c n w).1 j g) x (subst (λ (h : ℕ). Made a c n w (take_slot a c n w).1 q.0 h) y q.3)

  -- the words after are well-formed
  pub take_keeps : WellFormed a (take_slot a c n w).1
  take_keeps = ⊎_elim (λ q. q.3.keeps) (λ q. subst (λ (u : List ℕ). WellFormed a u) (sym (ap (λ x. x.1) q.0)) v) take-answers

  -- every handle other than the answer names after what it named before
  pub take_others : (i g : ℕ) → (take_slot a c n w).0 ≡ Ok (i, g)
      → (j h : ℕ) → ((j ≡ i) × (h ≡ g) → ⊥) → named a j h (take_slot a c n w).1 ≡ named a j h w
  take_others i g e j h d = (take_made i g e).others j h d
