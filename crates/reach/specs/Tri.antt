-- The abstract theory of marking: nodes of any type, links and roots as relations, colours as a function to numbers
-- (0 free, 1 and 2 white, 3 gray, 4 black). No list and no order of work is in it. `G` is the set of the nodes
-- whose links are still to be followed, `E` the set of the nodes still to be marked, `Cov` the roots that were
-- given to the marking so far. Assumes nothing.
use Rattle.std.specs.Prelude.{ℕ, ◌≤◌, ◌≡◌, ◌⊎◌, ◌↔◌}
use Rattle.std.proofs.Common.{sym, subst, inl, inr, ⊎_elim, arith}
use Rattle.reach.specs.Reached.{Reach, Reach-root, Reach-step}

-- more roots reach more
pub reach_more : {Node : Type 0} {Link : Node → Node → Type 0} {Root Root' Occ : Node → Type 0}
    → ((i : Node) → Root i → Root' i) → {i : Node} → Reach Link Root Occ i → Reach Link Root' Occ i
reach_more f (Reach-root {i = i} r o) = Reach-root (f i r) o
reach_more f (Reach-step h l o) = Reach-step (reach_more f h) l o

-- what is reached is occupied
pub reach_occ : {Node : Type 0} {Link : Node → Node → Type 0} {Root Occ : Node → Type 0} {i : Node} → Reach Link Root Occ i → Occ i
reach_occ (Reach-root r o) = o
reach_occ (Reach-step h l o) = o

-- the same links among the same occupied nodes reach the same
pub reach_map : {Node : Type 0} {Link Link' : Node → Node → Type 0} {Root Occ Occ' : Node → Type 0}
    → ((i : Node) → Occ i → Occ' i) → ((i j : Node) → Occ i → Link i j → Link' i j) → {i : Node} → Reach Link Root Occ i → Reach Link' Root Occ' i
reach_map f g (Reach-root {i = i} r o) = Reach-root r (f i o)
reach_map f g (Reach-step {i = i} {j = j} h l o) = Reach-step (reach_map f g h) (g i j (reach_occ h) l) (f j o)

-- marked, or still on the list of what is to be marked
abbrev pub Done : {Node : Type 0} (Occ : Node → Type 0) → (Node → ℕ) → (Node → Type 0) → Node → Type 0
Done Occ M E j = Occ j → E j ⊎ (3 ≤ M j)

pub record Inv {Node : Type 0} (Link : Node → Node → Type 0) (Root Occ Cov : Node → Type 0) (M : Node → ℕ) (G E : Node → Type 0) : Type 0 where
  pub sound : (i : Node) → 3 ≤ M i → Reach Link Root Occ i
  pub pend : (i : Node) → E i → Occ i → Reach Link Root Occ i
  pub closed : (i : Node) → 3 ≤ M i → G i ⊎ ((j : Node) → Link i j → Done Occ M E j)
  pub roots : (i : Node) → Cov i → Done Occ M E i
  pub occ : (i : Node) → Occ i ↔ (1 ≤ M i)

-- the colour of one node is stored anew
pub record Upd {Node : Type 0} (M : Node → ℕ) (x : Node) (c : ℕ) (M' : Node → ℕ) : Type 0 where
  pub here : M' x ≡ c
  pub cases : (i : Node) → ((i ≡ x) × (M' i ≡ c)) ⊎ (M' i ≡ M i)

-- a store of a marked colour over one that is occupied
module _ {Node : Type 0} {M M' : Node → ℕ} {x : Node} {c : ℕ} (u : Upd M x c M') (hc : 3 ≤ c) where
  upd_up : (i : Node) → 3 ≤ M i → 3 ≤ M' i
  upd_up i m = ⊎_elim (λ e. omega (arith, e.1)) (λ e. omega arith) (u.cases i)

  upd_new : (i : Node) → 3 ≤ M' i → (i ≡ x) ⊎ (3 ≤ M i)
  upd_new i m = ⊎_elim (λ e. inl e.0) (λ e. inr (omega arith)) (u.cases i)

  upd_occ : {P : Node → Type 0} → ((i : Node) → P i ↔ (1 ≤ M i)) → 1 ≤ M x → (i : Node) → P i ↔ (1 ≤ M' i)
  upd_occ occ hx i =
      ⊎_elim
      (λ e. ((λ p. omega (arith, e.1)), λ m. (occ i).1 (subst (λ k. 1 ≤ M k) (sym e.0) hx)))
      (λ e. ((λ p. omega (arith, (occ i).0 p)), λ m. (occ i).1 (omega arith)))
      (u.cases i)

module _ {Node : Type 0} {Link : Node → Node → Type 0} {Root Occ Cov : Node → Type 0} {M : Node → ℕ} {G E : Node → Type 0} (v : Inv Link Root Occ Cov M G E) where
  -- what any step of marking does
  pub change : {M' : Node → ℕ} {G' E' : Node → Type 0}
      (up : (i : Node) → 3 ≤ M i → 3 ≤ M' i)
      (new : (i : Node) → 3 ≤ M' i → (3 ≤ M i) ⊎ (E i × Occ i × (G' i ⊎ ((j : Node) → Link i j → E' j))))
      (left : (i : Node) → G i → 3 ≤ M i → G' i ⊎ ((j : Node) → Link i j → E' j))
      (E-done : (i : Node) → E i → Occ i → E' i ⊎ (3 ≤ M' i))
      (E-new : (i : Node) → E' i → Occ i → Reach Link Root Occ i)
      (occ' : (i : Node) → Occ i ↔ (1 ≤ M' i)) → Inv Link Root Occ Cov M' G' E'
  change {M'} {G'} {E'} up new left E-done E-new occ' = record {
    sound = λ i m. ⊎_elim (v.sound i) (λ e. v.pend i e.0 e.1) (new i m);
    pend = E-new;
    closed = λ i m. ⊎_elim
        (λ old. ⊎_elim (λ g. fresh i (left i g old)) (λ f. inr (λ j l. keep j (f j l))) (v.closed i old))
        (λ e. fresh i e.2)
        (new i m);
    roots = λ i r. keep i (v.roots i r);
    occ = occ';
  }
    where
      keep : (j : Node) → Done Occ M E j → Done Occ M' E' j
      keep j d o = ⊎_elim (λ e. E-done j e o) (λ m. inr (up j m)) (d o)

      fresh : (i : Node) → G' i ⊎ ((j : Node) → Link i j → E' j) → G' i ⊎ ((j : Node) → Link i j → Done Occ M' E' j)
      fresh i (inl g) = inl g
      fresh i (inr f) = inr (λ j l o. inl (f j l))

  -- x is pending and is marked or free already: it is struck off
  pub skip : {E' : Node → Type 0} (x : Node)
      → ((i : Node) → E i → (i ≡ x) ⊎ E' i) → ((i : Node) → E' i → E i) → (Occ x → 3 ≤ M x) → Inv Link Root Occ Cov M G E'
  skip {E'} x split sub don =
      change (λ i m. m) (λ i m. inl m) (λ i g m. inl g)
      (λ i e o. ⊎_elim (λ q. inr (subst (λ k. 3 ≤ M k) (sym q) (don (subst Occ q o)))) (λ e'. inl e') (split i e))
      (λ i e o. v.pend i (sub i e) o) v.occ

  -- x is pending and white: it is coloured, and either it is to be followed later or its links are pending now
  pub mark_white : {M' : Node → ℕ} {G' E' : Node → Type 0} (x : Node) (c : ℕ)
      → Upd M x c M' → 3 ≤ c → 1 ≤ M x → E x
      → ((i : Node) → E i → (i ≡ x) ⊎ E' i) → ((i : Node) → E' i → E i ⊎ Link x i)
      → ((i : Node) → G i → G' i) → G' x ⊎ ((j : Node) → Link x j → E' j) → Inv Link Root Occ Cov M' G' E'
  mark_white {M'} {G'} {E'} x c u hc hx ex split sub more how =
      change (upd_up u hc)
      (λ i m. ⊎_elim (λ q. inr (subst (λ k. E k × Occ k × (G' k ⊎ ((j : Node) → Link k j → E' j))) (sym q) (ex, (v.occ x).1 hx, how))) (λ m'. inl m') (upd_new u hc i m))
      (λ i g m. inl (more i g))
      (λ i e o. ⊎_elim (λ q. inr (subst (λ k. 3 ≤ M' k) (sym q) (omega (arith, u.here)))) (λ e'. inl e') (split i e))
      (λ i e o. ⊎_elim (λ e'. v.pend i e' o) (λ l. Reach-step (v.pend x ex ((v.occ x).1 hx)) l o) (sub i e))
      (upd_occ u hc v.occ hx)

  -- x is marked and taken off the list: its links are pending now
  pub follow : {M' : Node → ℕ} {G' E' : Node → Type 0} (x : Node) (c : ℕ)
      → Upd M x c M' → 3 ≤ c → 3 ≤ M x
      → ((i : Node) → G i → (i ≡ x) ⊎ G' i)
      → ((i : Node) → E i → E' i) → ((i : Node) → E' i → E i ⊎ Link x i) → ((j : Node) → Link x j → E' j) → Inv Link Root Occ Cov M' G' E'
  follow {M'} {G'} {E'} x c u hc hx split keep sub links =
      change (upd_up u hc)
      (λ i m. inl (⊎_elim (λ q. subst (λ k. 3 ≤ M k) (sym q) hx) (λ m'. m') (upd_new u hc i m)))
      (λ i g m. ⊎_elim (λ q. inr (subst (λ k. (j : Node) → Link k j → E' j) (sym q) links)) (λ g'. inl g') (split i g))
      (λ i e o. inl (keep i e))
      (λ i e o. ⊎_elim (λ e'. v.pend i e' o) (λ l. Reach-step (v.sound x hx) l o) (sub i e))
      (upd_occ u hc v.occ (omega arith))

  -- more is pending, for whatever reason: more roots, or an object that is followed once more
  pub pend_more : {Cov' E' : Node → Type 0}
      → ((i : Node) → E i → E' i) → ((i : Node) → E' i → Occ i → Reach Link Root Occ i) → ((i : Node) → Cov' i → Occ i → Cov i ⊎ E' i) → Inv Link Root Occ Cov' M G E'
  pend_more {Cov'} {E'} sub new cov = record {
    sound = v.sound;
    pend = new;
    closed = λ i m. ⊎_elim (λ g. inl g) (λ f. inr (λ j l. keep j (f j l))) (v.closed i m);
    roots = λ i r o. ⊎_elim (λ c. keep i (v.roots i c) o) (λ e. inl e) (cov i r o);
    occ = v.occ;
  }
    where
      keep : (j : Node) → Done Occ M E j → Done Occ M E' j
      keep j d o = ⊎_elim (λ e. inl (sub j e)) (λ m. inr m) (d o)

  -- the set of the roots grows
  pub root_more : {Root' : Node → Type 0} → ((i : Node) → Root i → Root' i) → Inv Link Root' Occ Cov M G E
  root_more f = record {
    sound = λ i m. reach_more f (v.sound i m);
    pend = λ i e o. reach_more f (v.pend i e o);
    closed = v.closed;
    roots = v.roots;
    occ = v.occ;
  }

  -- at the end nothing is pending: marked is reached
  module _ (cov : (i : Node) → Root i → Cov i) (noG : (i : Node) → G i → ⊥) (noE : (i : Node) → E i → ⊥) where
    pub reached_marked : (i : Node) → Reach Link Root Occ i → 3 ≤ M i
    reached_marked i (Reach-root r o) = ⊎_elim (λ e. absurd (noE _ e)) (λ m. m) (v.roots _ (cov _ r) o)
    reached_marked i (Reach-step {i = a} h l o) =
        ⊎_elim (λ g. absurd (noG a g)) (λ c. ⊎_elim (λ e. absurd (noE _ e)) (λ m. m) (c _ l o)) (v.closed a (reached_marked a h))

    pub marked_iff_reached : (i : Node) → (3 ≤ M i) ↔ Reach Link Root Occ i
    marked_iff_reached i = (v.sound i, reached_marked i)

-- where every colour is as it was, so is the invariant
pub inv_same : {Node : Type 0} {Link : Node → Node → Type 0} {Root Occ Cov : Node → Type 0} {M M' : Node → ℕ} {E : Node → Type 0}
    → Inv Link Root Occ Cov M (λ i. M i ≡ 3) E → ((i : Node) → M' i ≡ M i) → Inv Link Root Occ Cov M' (λ i. M' i ≡ 3) E
inv_same v e =
    change v (λ i m. omega (arith, e i)) (λ i m. inl (omega (arith, e i))) (λ i g m. inl (omega (arith, e i))) (λ i d o. inl d) v.pend
    (λ i. ((λ o. omega (arith, e i, (v.occ i).0 o)), λ m. (v.occ i).1 (omega (arith, e i))))
