-- A slot taken, freed or painted leaves the arena well-formed. Assumes nothing.
use Rattle.std.specs.Prelude.{◌≡◌, refl, ◌⊎◌, ◌≢◌, ℕ, ◌+◌, ◌-◌, ◌*◌, min, ◌≤◌, ◌<◌}
use Rattle.std.proofs.Common.{sym, subst, ap, ◌∙◌, inl, inr, ⊎_elim, arith}
use mathlib.Core.List.Memᴰ
use mathlib.Core.List.{List, [], ◌∷◌, Memᴰ}
use Rattle.std.proofs.Math.Decide.{ℕ_discrete}
use Rattle.base.specs.Words.{at, more, bounded}
use Rattle.arena.specs.Slots.{Room, known, colour, gen, link, head, extent, fresh, count, used, occupied, named}
use Rattle.arena.specs.declared.Arena.{Arena}
use Rattle.arena_laws.specs.Words.{le_or_lt, le_is}
use Rattle.arena_laws.specs.Counts.{one, one_occupied, tally, tally_last, tally_same, tally_more, tally_most, colours, occupied_is}
use Rattle.arena_laws.specs.Chain.{Chain, Once, WellFormed}
use Rattle.arena_laws.specs.Changes.{Outside, outside_elsewhere, rows_apart, Cells, Becomes}
use Rattle.arena_laws.specs.Names.{named_alike}

-- links that are kept lead through the same slots
pub chain_frame : (a : Arena) (w w' is : List ℕ) (x : ℕ) → ((j : ℕ) → Memᴰ j is → link a j w' ≡ link a j w) → Chain a w is x → Chain a w' is x
chain_frame a w w' [] x h c = c
chain_frame a w w' (i ∷ is) x h c =
    (c.0, subst (λ (y : ℕ). Chain a w' is y) (sym (h i (Memᴰ.head refl))) (chain_frame a w w' is (link a i w) (λ j m. h j (Memᴰ.tail m)) c.1))

-- a slot that another slot's change leaves
module _ {a : Arena} {i e : ℕ} {w w' : List ℕ} {c : Cells} (r : Room a w) (h : i < a.slots) (b : Becomes a i e w w' c) where
  -- its colour, generation, link and extent
  pub other_colour : (j : ℕ) → j < a.slots → j ≢ i → colour a j w' ≡ colour a j w
  other_colour j l n = ap (λ (x : ℕ). known x) (b.far (a.base + j) (record {
    head = omega arith;
    fresh = omega arith;
    count = omega arith;
    colour = omega arith;
    gen = omega arith;
    link = omega arith;
    extent = omega arith;
    body = inl (omega arith);
  }))

  pub other_gen : (j : ℕ) → j < a.slots → j ≢ i → gen a j w' ≡ gen a j w
  other_gen j l n = b.far (a.base + a.slots + j) (record {
    head = omega arith;
    fresh = omega arith;
    count = omega arith;
    colour = omega arith;
    gen = omega arith;
    link = omega arith;
    extent = omega arith;
    body = inl (omega arith);
  })

  pub other_link : (j : ℕ) → j < a.slots → j ≢ i → link a j w' ≡ link a j w
  other_link j l n = b.far (a.base + 2 * a.slots + j) (record {
    head = omega arith;
    fresh = omega arith;
    count = omega arith;
    colour = omega arith;
    gen = omega arith;
    link = omega arith;
    extent = omega arith;
    body = inl (omega arith);
  })

  pub other_extent : (j : ℕ) → j < a.slots → j ≢ i → extent a j w' ≡ extent a j w
  other_extent j l n = ap (λ (x : ℕ). bounded x a.stride) (b.far (a.base + 3 * a.slots + j) (record {
    head = omega arith;
    fresh = omega arith;
    count = omega arith;
    colour = omega arith;
    gen = omega arith;
    link = omega arith;
    extent = omega arith;
    body = inl (omega arith);
  }))

  -- a word of the bodies that is none of those changed
  pub other_word : (x : ℕ) → a.bodies ≤ x → (x < a.bodies + i * a.stride) ⊎ (a.bodies + i * a.stride + e ≤ x) → at w' x ≡ at w x
  other_word x p o = b.far x (record {
    head = omega arith;
    fresh = omega arith;
    count = omega arith;
    colour = omega arith;
    gen = omega arith;
    link = omega arith;
    extent = omega arith;
    body = o;
  })

  -- the body of another slot
  pub other_body : e ≤ a.stride → (j k : ℕ) → j ≢ i → k < a.stride → at w' (a.bodies + j * a.stride + k) ≡ at w (a.bodies + j * a.stride + k)
  other_body l j k n q =
      other_word (a.bodies + j * a.stride + k) (omega arith)
      (⊎_elim (λ p. inl (omega arith)) (λ p. inr (omega arith)) (rows_apart i j k a.stride n q))

  -- a word outside the arena
  pub other_outside : e ≤ a.stride → (x : ℕ) → Outside a x → at w' x ≡ at w x
  other_outside l x o = b.far x (outside_elsewhere a i e x h l o)

  -- the slot itself, in a known colour
  pub own_colour : c.colour ≤ 4 → colour a i w' ≡ c.colour
  own_colour l = ap (λ (x : ℕ). known x) b.colour ∙ le_is c.colour 4 l

  -- a handle of another slot, if the fresh index stays
  pub other_named : c.fresh ≡ fresh a w → (j g : ℕ) → j ≢ i → named a j g w' ≡ named a j g w
  other_named f j g n =
      let u : fresh a w' ≡ fresh a w = b.fresh ∙ f in
      ⊎_elim
      (λ past. named_alike a j g w w' (inl (past, omega arith)))
      (λ below. named_alike a j g w w' (inr (below, omega arith, other_gen j (omega arith) n, other_colour j (omega arith) n)))
      (le_or_lt (used a w) j)

-- no more slots are occupied than are below the fresh index
pub occupied_most : (a : Arena) (w : List ℕ) → occupied a w ≤ used a w
occupied_most a w = omega (arith, occupied_is a w, tally_most (colours a w) (used a w) 0)

module _ {a : Arena} {i e : ℕ} {w w' : List ℕ} (r : Room a w) (v : WellFormed a w) where
  -- a slot freed: it is at the head of the chain
  pub push_keeps : (g x : ℕ) → i < fresh a w → colour a i w ≢ 0
      → Becomes a i e w w' (record { head = i + 1; fresh = fresh a w; count = count a w - 1; colour = 0; gen = g; link = head a w; extent = x })
      → (v' : WellFormed a w') × (v'.free ≡ i ∷ v.free)
  push_keeps g x f n b = (
    record {
      within = omega (arith, b.fresh, v.within);
      free = i ∷ v.free;
      chain = (b.head, subst (λ (y : ℕ). Chain a w' v.free y) (sym b.link) (chain_frame a w w' v.free (head a w) (λ j m. other_link r hs b j (small j m) (differs j m)) v.chain));
      once = ((λ m. n ((v.is i).0 m).1), v.once);
      is = λ j. ((λ m. ⊎_elim (λ q. own j q) (λ q. old j q) (Memᴰ.cases_cons m)), (λ q. back j q (ℕ_discrete j i)));
      unused = λ j p q. other_colour r hs b j q (omega (arith, b.fresh)) ∙ v.unused j (omega (arith, b.fresh)) q;
      counts = omega (arith, b.count, v.counts, counted);
    },
    refl,
  )
    where
      hs : i < a.slots
      hs = omega (arith, v.within)

      own_free : colour a i w' ≡ 0
      own_free = own_colour r hs b (omega arith)

      small : (j : ℕ) → Memᴰ j v.free → j < a.slots
      small j m = omega (arith, ((v.is j).0 m).0, v.within)

      differs : (j : ℕ) → Memᴰ j v.free → j ≢ i
      differs j m q = n (ap (λ (k : ℕ). colour a k w) (sym q) ∙ ((v.is j).0 m).1)

      own : (j : ℕ) → j ≡ i → (j < fresh a w') × (colour a j w' ≡ 0)
      own j q = (omega (arith, b.fresh), ap (λ (k : ℕ). colour a k w') q ∙ own_free)

      old : (j : ℕ) → Memᴰ j v.free → (j < fresh a w') × (colour a j w' ≡ 0)
      old j m = (omega (arith, b.fresh, ((v.is j).0 m).0), other_colour r hs b j (small j m) (differs j m) ∙ ((v.is j).0 m).1)

      back : (j : ℕ) → (j < fresh a w') × (colour a j w' ≡ 0) → Dec (j ≡ i) → Memᴰ j (i ∷ v.free)
      back j q (yes z) = Memᴰ.head z
      back j q (no z) =
          Memᴰ.tail ((v.is j).1 (omega (arith, q.0, b.fresh), sym (other_colour r hs b j (omega (arith, q.0, b.fresh, v.within)) z) ∙ q.1))

      used_same : used a w' ≡ used a w
      used_same = ap (λ (k : ℕ). min k a.slots) b.fresh

      counted : occupied a w ≡ occupied a w' + 1
      counted =
          omega (
            arith,
            occupied_is a w,
            occupied_is a w',
            ap (tally (colours a w') 0) used_same,
            tally_more (colours a w') (colours a w) i (used a w) 0 (omega arith) (omega (arith, v.within)) own_free n
                (λ j p q m. sym (other_colour r hs b j (omega arith) m)),
          )

  -- an occupied slot painted in a colour of occupied slots
  pub paint_keeps : (c g l x : ℕ) → i < fresh a w → colour a i w ≢ 0 → 1 ≤ c → c ≤ 4
      → Becomes a i e w w' (record { head = head a w; fresh = fresh a w; count = count a w; colour = c; gen = g; link = l; extent = x })
      → (v' : WellFormed a w') × (v'.free ≡ v.free)
  paint_keeps c g l x f n c₁ c₄ b = (
    record {
      within = omega (arith, b.fresh, v.within);
      free = v.free;
      chain = subst (λ (y : ℕ). Chain a w' v.free y) (sym b.head) (chain_frame a w w' v.free (head a w) (λ j m. other_link r hs b j (small j m) (differs j m)) v.chain);
      once = v.once;
      is = λ j. ((λ m. old j m), (λ q. back j q (ℕ_discrete j i)));
      unused = λ j p q. other_colour r hs b j q (omega (arith, b.fresh)) ∙ v.unused j (omega (arith, b.fresh)) q;
      counts = omega (arith, b.count, v.counts, counted);
    },
    refl,
  )
    where
      hs : i < a.slots
      hs = omega (arith, v.within)

      own : colour a i w' ≡ c
      own = own_colour r hs b c₄

      small : (j : ℕ) → Memᴰ j v.free → j < a.slots
      small j m = omega (arith, ((v.is j).0 m).0, v.within)

      differs : (j : ℕ) → Memᴰ j v.free → j ≢ i
      differs j m q = n (ap (λ (k : ℕ). colour a k w) (sym q) ∙ ((v.is j).0 m).1)

      old : (j : ℕ) → Memᴰ j v.free → (j < fresh a w') × (colour a j w' ≡ 0)
      old j m = (omega (arith, b.fresh, ((v.is j).0 m).0), other_colour r hs b j (small j m) (differs j m) ∙ ((v.is j).0 m).1)

      back : (j : ℕ) → (j < fresh a w') × (colour a j w' ≡ 0) → Dec (j ≡ i) → Memᴰ j v.free
      back j q (yes z) = absurd (omega (arith, ap (λ (k : ℕ). colour a k w') z, q.1, own))
      back j q (no z) = (v.is j).1 (omega (arith, q.0, b.fresh), sym (other_colour r hs b j (omega (arith, q.0, b.fresh, v.within)) z) ∙ q.1)

      used_same : used a w' ≡ used a w
      used_same = ap (λ (k : ℕ). min k a.slots) b.fresh

      alike : (j : ℕ) → j < a.slots → Dec (j ≡ i) → one (colour a j w') ≡ one (colour a j w)
      alike j q (yes z) =
          let p : colour a j w' ≢ 0 = omega (arith, ap (λ (k : ℕ). colour a k w') z, own) in
          let p₂ : colour a j w ≢ 0 = λ y. n (ap (λ (k : ℕ). colour a k w) (sym z) ∙ y) in
          one_occupied (colour a j w') p ∙ sym (one_occupied (colour a j w) p₂)
      alike j q (no z) = ap (λ (y : ℕ). one y) (other_colour r hs b j q z)

      counted : occupied a w' ≡ occupied a w
      counted =
          omega (
            arith,
            occupied_is a w,
            occupied_is a w',
            ap (tally (colours a w') 0) used_same,
            tally_same (colours a w) (colours a w') (used a w) 0 (λ j p q. alike j (omega arith) (ℕ_discrete j i)),
          )

  -- the slot at the head of the chain taken
  pub pop_keeps : (c g l x : ℕ) (rest : List ℕ) → v.free ≡ i ∷ rest → 1 ≤ c → c ≤ 4
      → Becomes a i e w w' (record { head = link a i w; fresh = fresh a w; count = more (count a w); colour = c; gen = g; link = l; extent = x })
      → (v' : WellFormed a w') × (v'.free ≡ rest)
  pop_keeps c g l x rest is_free c₁ c₄ b = (
    record {
      within = omega (arith, b.fresh, v.within);
      free = rest;
      chain = subst (λ (y : ℕ). Chain a w' rest y) (sym b.head) (chain_frame a w w' rest (link a i w) (λ j m. other_link r hs b j (small j m) (differs j m)) chained.1);
      once = once.1;
      is = λ j. ((λ m. old j m), (λ q. back j q (ℕ_discrete j i)));
      unused = λ j p q. other_colour r hs b j q (omega (arith, b.fresh, mine.0)) ∙ v.unused j (omega (arith, b.fresh)) q;
      counts = omega (arith, b.count, v.counts, counted, occupied_most a w, r.slots);
    },
    refl,
  )
    where
      mine : (i < fresh a w) × (colour a i w ≡ 0)
      mine = (v.is i).0 (subst (λ (s : List ℕ). Memᴰ i s) (sym is_free) (Memᴰ.head refl))

      hs : i < a.slots
      hs = omega (arith, v.within, mine.0)

      chained : Chain a w (i ∷ rest) (head a w)
      chained = subst (λ (s : List ℕ). Chain a w s (head a w)) is_free v.chain

      once : Once (i ∷ rest)
      once = subst (λ (s : List ℕ). Once s) is_free v.once

      before : (j : ℕ) → Memᴰ j rest → (j < fresh a w) × (colour a j w ≡ 0)
      before j m = (v.is j).0 (subst (λ (s : List ℕ). Memᴰ j s) (sym is_free) (Memᴰ.tail m))

      own : colour a i w' ≡ c
      own = own_colour r hs b c₄

      small : (j : ℕ) → Memᴰ j rest → j < a.slots
      small j m = omega (arith, (before j m).0, v.within)

      differs : (j : ℕ) → Memᴰ j rest → j ≢ i
      differs j m q = once.0 (Memᴰ.cast (sym q) m)

      old : (j : ℕ) → Memᴰ j rest → (j < fresh a w') × (colour a j w' ≡ 0)
      old j m = (omega (arith, b.fresh, (before j m).0), other_colour r hs b j (small j m) (differs j m) ∙ (before j m).1)

      back : (j : ℕ) → (j < fresh a w') × (colour a j w' ≡ 0) → Dec (j ≡ i) → Memᴰ j rest
      back j q (yes z) = absurd (omega (arith, ap (λ (k : ℕ). colour a k w') z, q.1, own))
      back j q (no z) =
          ⊎_elim (λ p. absurd (z p)) (λ p. p)
          (Memᴰ.cases_cons
          (subst (λ (s : List ℕ). Memᴰ j s) is_free
          ((v.is j).1 (omega (arith, q.0, b.fresh), sym (other_colour r hs b j (omega (arith, q.0, b.fresh, v.within)) z) ∙ q.1))))

      used_same : used a w' ≡ used a w
      used_same = ap (λ (k : ℕ). min k a.slots) b.fresh

      counted : occupied a w' ≡ occupied a w + 1
      counted =
          omega (
            arith,
            occupied_is a w,
            occupied_is a w',
            ap (tally (colours a w') 0) used_same,
            tally_more (colours a w) (colours a w') i (used a w) 0 (omega arith) (omega (arith, v.within, mine.0)) mine.1 (omega (arith, own))
                (λ j p q m. other_colour r hs b j (omega arith) m),
          )

  -- the slot at the fresh index taken
  pub open_keeps : (c g l x : ℕ) → i ≡ fresh a w → i < a.slots → 1 ≤ c → c ≤ 4
      → Becomes a i e w w' (record { head = head a w; fresh = i + 1; count = more (count a w); colour = c; gen = g; link = l; extent = x })
      → (v' : WellFormed a w') × (v'.free ≡ v.free)
  open_keeps c g l x here hs c₁ c₄ b = (
    record {
      within = omega (arith, b.fresh);
      free = v.free;
      chain = subst (λ (y : ℕ). Chain a w' v.free y) (sym b.head) (chain_frame a w w' v.free (head a w) (λ j m. other_link r hs b j (small j m) (differs j m)) v.chain);
      once = v.once;
      is = λ j. ((λ m. old j m), (λ q. back j q (ℕ_discrete j i)));
      unused = λ j p q. other_colour r hs b j q (omega (arith, b.fresh)) ∙ v.unused j (omega (arith, b.fresh)) q;
      counts = omega (arith, b.count, v.counts, counted, occupied_most a w, r.slots);
    },
    refl,
  )
    where
      own : colour a i w' ≡ c
      own = own_colour r hs b c₄

      small : (j : ℕ) → Memᴰ j v.free → j < a.slots
      small j m = omega (arith, ((v.is j).0 m).0, v.within)

      differs : (j : ℕ) → Memᴰ j v.free → j ≢ i
      differs j m = omega (arith, ((v.is j).0 m).0)

      old : (j : ℕ) → Memᴰ j v.free → (j < fresh a w') × (colour a j w' ≡ 0)
      old j m = (omega (arith, b.fresh, ((v.is j).0 m).0), other_colour r hs b j (small j m) (differs j m) ∙ ((v.is j).0 m).1)

      back : (j : ℕ) → (j < fresh a w') × (colour a j w' ≡ 0) → Dec (j ≡ i) → Memᴰ j v.free
      back j q (yes z) = absurd (omega (arith, ap (λ (k : ℕ). colour a k w') z, q.1, own))
      back j q (no z) = (v.is j).1 (omega (arith, q.0, b.fresh), sym (other_colour r hs b j (omega (arith, q.0, b.fresh)) z) ∙ q.1)

      used_before : used a w ≡ i
      used_before = omega arith

      used_after : used a w' ≡ i + 1
      used_after = omega (arith, b.fresh)

      counted : occupied a w' ≡ occupied a w + 1
      counted =
          let z : 0 + i ≡ i = omega arith in
          omega (
            arith,
            occupied_is a w,
            occupied_is a w',
            ap (tally (colours a w') 0) used_after,
            ap (tally (colours a w) 0) used_before,
            tally_last (colours a w') i 0,
            ap (λ (k : ℕ). one (colours a w' k)) z,
            one_occupied (colour a i w') (omega (arith, own)),
            tally_same (colours a w) (colours a w') i 0 (λ j p q. ap (λ (y : ℕ). one y) (other_colour r hs b j (omega arith) (omega arith))),
          )
