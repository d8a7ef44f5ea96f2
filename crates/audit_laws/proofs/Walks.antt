-- The walk along a chain means what document 01 says: the chain holds every free slot below the fresh index once. Assumes nothing.
--     chain_same         from one word the links lead through one list of slots only
--     chain_once         so no chain that ends comes to a slot twice
--     leads_chain, chain_leads     the walk and the chain
--     all_in, as_many    as many different free slots as are free are all of them, and the other way round
--     chain_means        the walk succeeds exactly if the arena is chained
use Rattle.std.specs.Prelude.{◌≡◌, Bool, ◌&&◌, ◌↔◌, ◌≢◌, ◌⊎◌, eqb, ltb}
use Rattle.std.proofs.Math.Path.{refl, subst}
use Rattle.std.proofs.Common.{sym, ap, ◌∙◌, true≢false, inl, inr, arith}
use Rattle.std.proofs.Math.Bool.{true, false}
use mathlib.Core.List.Memᴰ
use mathlib.Core.List.{List, [], ◌∷◌, Memᴰ}
use Rattle.std.proofs.Math.Logic.{⊎_elim}
use Prim.Native.Nat.{ℕ, zero, suc, ◌+◌, ◌-◌, ◌≤◌, ◌<◌}
use Rattle.std.proofs.Math.Decide.{ℕ_discrete}
use Rattle.std.proofs.Math.ListN.{length}
use borrow.Author.Tests.{ltb-true, eqb-true, lt-ltb, eq-eqb}
use Rattle.base.specs.Ways.{if_eq, eq_yes, eq_no}
use Rattle.arena.specs.Slots.{colour, link, head, fresh, used}
use Rattle.arena.specs.declared.Arena.{Arena}
use Rattle.arena_laws.specs.Chain.{Chain, Once, WellFormed}
use Rattle.arena_laws.specs.Counts.{tally, tally_more, tally_all, tally_most, colours, occupied_is}
use Rattle.chains.specs.Chains.{free_count, names_free, leads, chain_holds}
use Rattle.audit_laws.specs.Walks.{Chained}

module _ (a : Arena) (w : List ℕ) where
  pub chain_same : (is js : List ℕ) (x : ℕ) → Chain a w is x → Chain a w js x → is ≡ js
  chain_same [] [] x p q = refl
  chain_same [] (j ∷ js) x p q = absurd (let z : ⊥ = omega (arith, p, q.0) in z)
  chain_same (i ∷ is) [] x p q = absurd (let z : ⊥ = omega (arith, p.0, q) in z)
  chain_same (i ∷ is) (j ∷ js) x p q =
      let e : j ≡ i = omega (arith, p.0, q.0) in
      let r : Chain a w js (link a i w) = subst (λ (k : ℕ). Chain a w js (link a k w)) e q.1 in
      rw (e, chain_same is js (link a i w) p.1 r)

  -- from a slot on the way the links lead on to the end
  onward : (i : ℕ) (is : List ℕ) (x : ℕ) → Chain a w is x → Memᴰ i is → (js : List ℕ) × (Chain a w js (i + 1) × (length js ≤ length is))
  onward i [] x c m = absurd (Memᴰ.not-nil m)
  onward i (j ∷ js) x c m = go (Memᴰ.cases_cons m) (λ n. onward i js (link a j w) c.1 n)
    where
      go : (i ≡ j) ⊎ Memᴰ i js → (Memᴰ i js → (ks : List ℕ) × (Chain a w ks (i + 1) × (length ks ≤ length js))) → (ks : List ℕ) × (Chain a w ks (i + 1) × (length ks ≤ suc (length js)))
      go (inl e) ih = (j ∷ js, ((omega arith, c.1), omega arith))
      go (inr n) ih = let r = ih n in (r.0, (r.1.0, omega (arith, r.1.1)))

  pub chain_once : (is : List ℕ) (x : ℕ) → Chain a w is x → Once is
  chain_once [] x c = tt
  chain_once (i ∷ is) x c = (again, chain_once is (link a i w) c.1)
    where
      again : Memᴰ i is → ⊥
      again m =
          let r = onward i is (link a i w) c.1 m in
          let e : r.0 ≡ i ∷ is = chain_same r.0 (i ∷ is) (i + 1) r.1.0 (refl, c.1) in
          omega (arith, r.1.1, ap length e)

  -- the three parts of a word that names a free slot
  names_means : (x : ℕ) → names_free a w x ≡ true → (0 < x) × ((x - 1 < used a w) × (colour a (x - 1) w ≡ 0))
  unfolding names_free
  names_means x p = go (ltb 0 x) (ltb (x - 1) (used a w)) (eqb (colour a (x - 1) w) 0) (ltb-true 0 x) (ltb-true (x - 1) (used a w)) (eqb-true (colour a (x - 1) w) 0) p
    where
      go : (b c d : Bool) → (b ≡ true → 0 < x) → (c ≡ true → x - 1 < used a w) → (d ≡ true → colour a (x - 1) w ≡ 0) → b && c && d ≡ true
          → (0 < x) × ((x - 1 < used a w) × (colour a (x - 1) w ≡ 0))
      go true true true f g h q = (f refl, (g refl, h refl))
      go true true false f g h q = absurd (true≢false (sym q))
      go true false d f g h q = absurd (true≢false (sym q))
      go false c d f g h q = absurd (true≢false (sym q))

  -- a free slot below the fresh index
  abbrev Free : ℕ → Type 0
  Free i = (i < used a w) × (colour a i w ≡ 0)

  -- slots that the links lead through to the end, each of them free
  abbrev Leads : ℕ → ℕ → List ℕ → Type 0
  Leads n x is = Chain a w is x × ((length is ≡ n) × ((i : ℕ) → Memᴰ i is → Free i))

  pub leads_chain : (n x : ℕ) → leads a w n x ≡ true → (is : List ℕ) × Leads n x is
  unfolding leads
  leads_chain zero x p = ([], (eqb-true x 0 p, (refl, λ i m. absurd (Memᴰ.not-nil m))))
  leads_chain (suc n) x p =
      let q = both (names_free a w x) (leads a w n (link a (x - 1) w)) p in
      let f = names_means x q.0 in
      let r = leads_chain n (link a (x - 1) w) q.1 in
      ((x - 1) ∷ r.0, ((omega (arith, f.0), r.1.0), (ap suc r.1.1.0, λ i m. ⊎_elim (λ e. subst Free (sym e) f.1) (λ k. r.1.1.1 i k) (Memᴰ.cases_cons m))))
    where
      both : (b c : Bool) → b && c ≡ true → (b ≡ true) × (c ≡ true)
      both true c q = (refl, q)
      both false c q = absurd (true≢false (sym q))

  pub chain_leads : (is : List ℕ) (x : ℕ) → Chain a w is x → ((i : ℕ) → Memᴰ i is → Free i) → leads a w (length is) x ≡ true
  unfolding leads names_free
  chain_leads [] x c h = eq-eqb x 0 c
  chain_leads (i ∷ is) x c h =
      let f = h i (Memᴰ.head refl) in
      let e : x - 1 ≡ i = omega (arith, c.0) in
      rw (lt-ltb 0 x (omega (arith, c.0)), e, lt-ltb i (used a w) f.0, eq-eqb (colour a i w) 0 f.1) (chain_leads is (link a i w) c.1 (λ j m. h j (Memᴰ.tail m)))

-- the same slots with slot x occupied
abbrev filling : ℕ → (ℕ → ℕ) → ℕ → ℕ
filling x f i = if_eq i x 1 (f i)

module _ (x : ℕ) (f : ℕ → ℕ) where
  filling_here : filling x f x ≡ 1
  filling_here = sym (eq_yes x x 1 (f x) 1 refl refl)

  filling_else : (i : ℕ) → i ≢ x → filling x f i ≡ f i
  filling_else i d = sym (eq_no i x 1 (f i) (f i) d refl)

  -- one more is occupied then
  filling_counts : (u : ℕ) → x < u → f x ≡ 0 → tally (filling x f) 0 u ≡ tally f 0 u + 1
  filling_counts u h e = tally_more f (filling x f) x u 0 (omega arith) (omega arith) e (λ z. omega (arith, filling_here)) (λ j p q d. filling_else j d)

module _ (u : ℕ) where
  -- free among the first u slots, by their colours
  abbrev Frees : (ℕ → ℕ) → ℕ → Type 0
  Frees f i = (i < u) × (f i ≡ 0)

  -- what is free but slot x
  others : (x : ℕ) (xs : List ℕ) (f : ℕ → ℕ) → (Memᴰ x xs → ⊥) → ((i : ℕ) → Memᴰ i xs → Frees f i) → (i : ℕ) → Memᴰ i xs → Frees (filling x f) i
  others x xs f d h i m = let p = h i m in (p.0, filling_else x f i (λ e. d (subst (λ (k : ℕ). Memᴰ k xs) e m)) ∙ p.1)

  -- Different free slots, and as many as are free: every free slot is among them.
  pub all_in : (xs : List ℕ) (f : ℕ → ℕ) → Once xs → ((i : ℕ) → Memᴰ i xs → Frees f i) → tally f 0 u + length xs ≡ u → (i : ℕ) → Frees f i → Memᴰ i xs
  all_in [] f o h e i p = absurd (let z : ⊥ = omega (arith, filling_counts i f u p.0 p.1, tally_most (filling i f) u 0) in z)
  all_in (x ∷ xs) f o h e i p =
      let first = h x (Memᴰ.head refl) in
      let rest = all_in xs (filling x f) o.1 (others x xs f o.0 (λ j m. h j (Memᴰ.tail m))) (omega (arith, filling_counts x f u first.0 first.1)) i in
      go (ℕ_discrete i x) rest
    where
      go : Dec (i ≡ x) → (Frees (filling x f) i → Memᴰ i xs) → Memᴰ i (x ∷ xs)
      go (yes q) rest = Memᴰ.head q
      go (no d) rest = Memᴰ.tail (rest (p.0, filling_else x f i d ∙ p.1))

  -- Different free slots among which every free slot is are as many as are free.
  pub as_many : (xs : List ℕ) (f : ℕ → ℕ) → Once xs → ((i : ℕ) → Memᴰ i xs → Frees f i) → ((i : ℕ) → Frees f i → Memᴰ i xs) → tally f 0 u + length xs ≡ u
  as_many [] f o h k = omega (arith, tally_all f u 0 (λ j p q e. Memᴰ.not-nil (k j (omega arith, e))))
  as_many (x ∷ xs) f o h k =
      let first = h x (Memᴰ.head refl) in
      let rest = as_many xs (filling x f) o.1 (others x xs f o.0 (λ j m. h j (Memᴰ.tail m))) back in
      omega (arith, rest, filling_counts x f u first.0 first.1)
    where
      back : (i : ℕ) → Frees (filling x f) i → Memᴰ i xs
      back i p = go (ℕ_discrete i x)
        where
          go : Dec (i ≡ x) → Memᴰ i xs
          go (yes q) = absurd (let z : ⊥ = omega (arith, filling_here x f, ap (filling x f) q, p.1) in z)
          go (no d) = ⊎_elim (λ q. absurd (d q)) (λ m. m) (Memᴰ.cases_cons (k i (p.0, sym (filling_else x f i d) ∙ p.1)))

-- The walk succeeds exactly if the chain holds every free slot below the fresh index once.
module _ (a : Arena) (w : List ℕ) (within : fresh a w ≤ a.slots) where
  same : used a w ≡ fresh a w
  same = omega arith

  holds_chained : chain_holds a w ≡ true → Chained a w
  unfolding chain_holds
  holds_chained p =
      let r = leads_chain a w (free_count a w) (head a w) p in
      let o : Once r.0 = chain_once a w r.0 (head a w) r.1.0 in
      let n : tally (colours a w) 0 (used a w) + length r.0 ≡ used a w = omega (arith, r.1.1.0, occupied_is a w, tally_most (colours a w) (used a w) 0) in
      record {
        free = r.0;
        chain = r.1.0;
        once = o;
        is = λ i. (
          (λ m. let f = r.1.1.1 i m in (omega (arith, f.0), f.1)),
          (λ f. all_in (used a w) r.0 (colours a w) o r.1.1.1 n i (omega (arith, f.0, same), f.1)),
        );
      }

  chained_holds : Chained a w → chain_holds a w ≡ true
  unfolding chain_holds
  chained_holds c =
      let h : (i : ℕ) → Memᴰ i c.free → (i < used a w) × (colour a i w ≡ 0) = λ i m. let f = (c.is i).0 m in (omega (arith, f.0, same), f.1) in
      let n : tally (colours a w) 0 (used a w) + length c.free ≡ used a w = as_many (used a w) c.free (colours a w) c.once h (λ i f. (c.is i).1 (omega (arith, f.0, same), f.1)) in
      let m : free_count a w ≡ length c.free = omega (arith, n, occupied_is a w) in
      rw m (chain_leads a w c.free (head a w) c.chain h)

  pub chain_means : chain_holds a w ≡ true ↔ Chained a w
  chain_means = (holds_chained, chained_holds)

-- so it does in every well-formed arena: such are those of the heaps that the calls make
pub well_formed_holds : (a : Arena) (w : List ℕ) → WellFormed a w → chain_holds a w ≡ true
well_formed_holds a w v = (chain_means a w v.within).1 (record { free = v.free; chain = v.chain; once = v.once; is = v.is })
