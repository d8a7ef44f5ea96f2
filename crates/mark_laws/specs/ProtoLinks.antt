-- Marking a prototype's constants and those of all nested ones marks exactly its links. The walk keeps a set of the numbers
-- seen and takes each once; the list of links does not: the set changes nothing of the effect, because a number that was
-- seen has no white link, and marking what is not white changes nothing. Assumes nothing.
--     constants_links      the constants of one prototype
--     Walked, Went, walk   what is known of the set, what a walk does, and that each walk does it
--     proto_links_lem          the walk of a prototype marks exactly its links
use Rattle.std.specs.Prelude.{◌≡◌, ◌⊎◌, ◌≢◌, length, replicate}
use Rattle.std.proofs.Math.Path.{refl, sym, ap, subst}
use Rattle.std.proofs.Common.{◌∙◌, inr, arith, get_or-set_other}
use mathlib.Core.List.{List, [], ◌++◌, append-nil}
use Rattle.std.proofs.Math.Logic.{inl}
use Prim.Native.Nat.{ℕ, zero, suc, min, ◌+◌, ◌-◌, ◌≤◌, ◌<◌}
use Rattle.std.proofs.Math.Decide.{dec_lt, ℕ_discrete}
use Rattle.base.specs.Ways.{if_lt, lt_yes, lt_no, le_yes, le_no, eq_yes, eq_no}
use Rattle.base.specs.Loop.{rounds, run}
use Rattle.base.specs.Words.{at, put, bounded}
use Rattle.layout.specs.declared.Lay.{Lay}
use Rattle.layout.specs.Places.{PROTOTYPES}
use Rattle.main_record.specs.Prototypes.{protos_used, proto_at, proto_constants, proto_nested, proto_constant, proto_child}
use Rattle.laid.specs.Laid.{Laid}
use Rattle.mark.specs.Ops.{Ref}
use Rattle.mark.specs.Words.{ops}
use Rattle.mark.specs.Marking.{mark_values}
use Rattle.run_walk.specs.Prototypes.{zeros, mark_constants, nested_one, proto_by, below, mark_proto, mark_proto_constants}
use Rattle.links.specs.Links.{value_links, each, proto_below, proto_links}
use Rattle.mark_laws.specs.Apart.{Apart, Order, order}
use Rattle.mark_laws.specs.Changes.{Marked, marked_none, marked_then}
use Rattle.mark_laws.specs.Stays as stays
use Rattle.mark_laws.specs.Marks.{marks, marks_append, marks_none, marks_marked, NoWhite, marks_again, dark_stays, marks_done}
use Rattle.mark_laws.specs.Follows.{values_links_lem}

-- nothing is in the empty set
pub zeros_none : (n m : ℕ) → at (zeros n) m ≡ 0
unfolding zeros
zeros_none n m = go n m
  where
    go : (n m : ℕ) → at (replicate n 0) m ≡ 0
    go zero m = refl
    go (suc n) zero = refl
    go (suc n) (suc m) = go n m

module _ (l : Lay) (ok : Laid l) (a : Apart l) (w : List ℕ) (long : l.words ≤ length w) where
  abbrev o : Order l
  o = order l ok a

  -- the counts and the numbers of a prototype stay
  constants_stay : (n : ℕ) {u : List ℕ} → Marked l w u → proto_constants l n u ≡ proto_constants l n w
  unfolding proto_constants
  constants_stay n {u} m =
      ap (λ (x : ℕ). if_lt n (min x l.protos.room) (bounded (at u (proto_at l n)) 16) 0) (stays.below o m PROTOTYPES (inl (omega arith)))
      ∙ ap (λ (x : ℕ). if_lt n (protos_used l w) (bounded x 16) 0) (stays.below o m (proto_at l n) (inr (omega (arith, o.past_protos))))

  nested_stay : (n : ℕ) {u : List ℕ} → Marked l w u → proto_nested l n u ≡ proto_nested l n w
  unfolding proto_nested
  nested_stay n {u} m =
      ap (λ (x : ℕ). if_lt n (min x l.protos.room) (bounded (at u (proto_at l n + 1)) 8) 0) (stays.below o m PROTOTYPES (inl (omega arith)))
      ∙ ap (λ (x : ℕ). if_lt n (protos_used l w) (bounded x 8) 0) (stays.below o m (proto_at l n + 1) (inr (omega (arith, o.past_protos))))

  child_stays : (n j : ℕ) {u : List ℕ} → Marked l w u → proto_child l n j u ≡ proto_child l n j w
  child_stays n j m = stays.below o m (proto_at l n + 51 + j) (inr (omega (arith, o.past_protos)))

  -- the links of the constants of prototype n, and those that its nested ones give, whose numbers lie below it
  abbrev constant_links : ℕ → List Ref
  constant_links n = each (λ i. value_links (proto_constant l n i w)) (proto_constants l n w) 0

  abbrev nested_links : ℕ → ℕ → List Ref
  nested_links n j = if_lt (proto_child l n j w) n (proto_below w l n (proto_child l n j w)) []

  -- The constants of one prototype.
  pub constants_links : (n : ℕ) {u : List ℕ} → Marked l w u → mark_constants (ops l) l n u ≡ marks l (constant_links n) u
  unfolding mark_constants
  constants_links n {u} m =
      ap (λ (k : ℕ). mark_values (ops l) l (proto_at l n + 3) k u) (constants_stay n m)
      ∙ values_links_lem l ok a w long (proto_at l n + 3) (proto_constants l n w) (inr (omega (arith, o.past_protos))) u m

  -- the links of a prototype are those of its constants and of its nested ones; any bound above the number gives them
  pub proto_whole : (n : ℕ) → proto_below w l (suc n) n ≡ constant_links n ++ each (nested_links n) (proto_nested l n w) 0
  unfolding proto_below
  proto_whole n = sym (eq_yes n n _ _ _ refl refl)

  proto_other : (b n : ℕ) → n ≢ b → proto_below w l (suc b) n ≡ proto_below w l b n
  unfolding proto_below
  proto_other b n d = sym (eq_no n b _ _ _ d refl)

  -- Any bound above the number lists the same.
  pub proto_any : (b n : ℕ) → n < b → proto_below w l b n ≡ proto_links w l n
  proto_any zero n h = absurd (let z : ⊥ = omega arith in z)
  proto_any (suc b) n h = go (ℕ_discrete n b) (λ f. proto_any b n f)
    where
      go : Dec (n ≡ b) → (n < b → proto_below w l b n ≡ proto_links w l n) → proto_below w l (suc b) n ≡ proto_links w l n
      go (yes e) rest = ap (λ (k : ℕ). proto_below w l (suc k) n) (sym e)
      go (no d) rest = proto_other b n d ∙ rest (omega (arith, d))

  -- Of the numbers below b, those that were seen have no white link.
  abbrev pub Walked : List ℕ × List ℕ → ℕ → Type 0
  Walked x b = (m : ℕ) → m < b → 0 < at x.1 m → NoWhite l (proto_links w l m) x.0

  -- A walk has marked the links rs, and each number that was seen on it has no white link.
  pub record Went (rs : List Ref) (x y : List ℕ × List ℕ) : Type 0 where
    pub did : y.0 ≡ marks l rs x.0
    pub seen : (m : ℕ) → 0 < at y.1 m → (0 < at x.1 m) ⊎ NoWhite l (proto_links w l m) y.0

  -- the words after a walk, the set after it, and one walk after the other
  module _ (rs : List Ref) (x y : List ℕ × List ℕ) (m : Marked l w x.0) (g : Went rs x y) where
    went_from : Marked l x.0 y.0
    went_from = subst (λ u. Marked l x.0 u) (sym g.did) (marks_marked l ok a rs (omega (arith, m.long)) marked_none)

    went_marked : Marked l w y.0
    went_marked = marked_then m went_from

    went_walked : (b : ℕ) → Walked x b → Walked y b
    went_walked b h k f s = go (g.seen k s)
      where
        go : (0 < at x.1 k) ⊎ NoWhite l (proto_links w l k) y.0 → NoWhite l (proto_links w l k) y.0
        go (inl t) = dark_stays l ok a (proto_links w l k) went_from (h k f t)
        go (inr t) = t

    went_then : (ts : List Ref) (z : List ℕ × List ℕ) → Marked l y.0 z.0 → Went ts y z → Went (rs ++ ts) x z
    went_then ts z n f = record {
      did = f.did ∙ ap (marks l ts) g.did ∙ sym (marks_append l rs ts x.0);
      seen = λ k s. go k (f.seen k s);
    }
      where
        back : (k : ℕ) → (0 < at x.1 k) ⊎ NoWhite l (proto_links w l k) y.0 → (0 < at x.1 k) ⊎ NoWhite l (proto_links w l k) z.0
        back k (inl t) = inl t
        back k (inr t) = inr (dark_stays l ok a (proto_links w l k) n t)

        go : (k : ℕ) → (0 < at y.1 k) ⊎ NoWhite l (proto_links w l k) z.0 → (0 < at x.1 k) ⊎ NoWhite l (proto_links w l k) z.0
        go k (inl t) = back k (g.seen k t)
        go k (inr t) = inr t

  went_none : (x : List ℕ × List ℕ) → Went [] x x
  unfolding marks
  went_none x = record { did = refl; seen = λ m s. inl s }

  went_is : {rs ts : List Ref} {x y z : List ℕ × List ℕ} → ts ≡ rs → z ≡ y → Went rs x y → Went ts x z
  went_is {rs} {ts} {x} {y} {z} p q g = subst (λ k. Went k x z) (sym p) (subst (λ k. Went rs x k) (sym q) g)

  -- The walk of any prototype with a number below b, from a set of which Walked holds, marks what is listed for b.
  abbrev Walks : ℕ → Type 0
  Walks b = (n : ℕ) (x : List ℕ × List ℕ) → Marked l w x.0 → Walked x b → Went (proto_below w l b n) x (below (ops l) l b n x)

  -- the j-th prototype nested in b, and k of them from the j-th on
  one_went : (b : ℕ) → Walks b → (j : ℕ) (y : List ℕ × List ℕ) → Marked l w y.0 → Walked y b
      → Went (nested_links b j) y (nested_one (ops l) l (below (ops l) l b) b j y)
  unfolding nested_one
  one_went b ih j y m h = go (dec_lt (proto_child l b j w) b)
    where
      at_child : if_lt (proto_child l b j y.0) b (below (ops l) l b (proto_child l b j y.0) y) y ≡ if_lt (proto_child l b j w) b (below (ops l) l b (proto_child l b j w) y) y
      at_child = ap (λ (c : ℕ). if_lt c b (below (ops l) l b c y) y) (child_stays b j m)

      go : Dec (proto_child l b j w < b) → Went (nested_links b j) y (if_lt (proto_child l b j y.0) b (below (ops l) l b (proto_child l b j y.0) y) y)
      go (yes f) =
          went_is (sym (lt_yes (proto_child l b j w) b _ _ _ f refl)) (at_child ∙ sym (lt_yes (proto_child l b j w) b _ _ _ f refl))
          (ih (proto_child l b j w) y m h)
      go (no f) =
          let g : b ≤ proto_child l b j w = omega (arith, f) in
          went_is (sym (lt_no (proto_child l b j w) b _ _ _ g refl)) (at_child ∙ sym (lt_no (proto_child l b j w) b _ _ _ g refl))
          (went_none y)

  nested_went : (b : ℕ) → Walks b → (k j : ℕ) (y : List ℕ × List ℕ) → Marked l w y.0 → Walked y b
      → Went (each (nested_links b) k j) y (rounds (nested_one (ops l) l (below (ops l) l b) b) k j y)
  unfolding rounds each
  nested_went b ih zero j y m h = went_none y
  nested_went b ih (suc k) j y m h =
      let one = one_went b ih j y m h in
      let z = nested_one (ops l) l (below (ops l) l b) b j y in
      let mz = went_marked (nested_links b j) y z m one in
      let rest = nested_went b ih k (j + 1) z mz (went_walked (nested_links b j) y z m one b h) in
      went_then (nested_links b j) y z m one (each (nested_links b) k (j + 1)) _ (went_from (each (nested_links b) k (j + 1)) z _ mz rest) rest

  -- Prototype b, not yet seen, the numbers below it by the walks.
  module _ (b : ℕ) (ih : Walks b) (x : List ℕ × List ℕ) (m : Marked l w x.0) (h : Walked x (suc b)) where
    -- its constants are marked, and it is seen
    abbrev first : List ℕ × List ℕ
    first = (mark_constants (ops l) l b x.0, put b 1 x.1)

    abbrev last : List ℕ × List ℕ
    last = rounds (nested_one (ops l) l (below (ops l) l b) b) (proto_nested l b w) 0 first

    first_from : Marked l x.0 first.0
    first_from = subst (λ u. Marked l x.0 u) (sym (constants_links b m)) (marks_marked l ok a (constant_links b) (omega (arith, m.long)) marked_none)

    other_seen : (k : ℕ) → k ≢ b → at (put b 1 x.1) k ≡ at x.1 k
    other_seen k d = get_or-set_other x.1 b k 1 0 d

    first_walked : Walked first b
    first_walked k f s = dark_stays l ok a (proto_links w l k) first_from (h k (omega arith) (subst (λ n. 0 < n) (other_seen k (λ e. omega (arith, e))) s))

    rest : Went (each (nested_links b) (proto_nested l b w) 0) first last
    rest = nested_went b ih (proto_nested l b w) 0 first (marked_then m first_from) first_walked

    all_did : last.0 ≡ marks l (proto_links w l b) x.0
    all_did =
        rest.did
        ∙ ap (marks l (each (nested_links b) (proto_nested l b w) 0)) (constants_links b m)
        ∙ sym (marks_append l (constant_links b) (each (nested_links b) (proto_nested l b w) 0) x.0)
        ∙ ap (λ rs. marks l rs x.0) (sym (proto_whole b))

    all_dark : NoWhite l (proto_links w l b) last.0
    all_dark = subst (λ u. NoWhite l (proto_links w l b) u) (sym all_did) (marks_done l ok a (proto_links w l b) x.0 (omega (arith, m.long)))

    all_went : Went (proto_links w l b) x last
    all_went = record { did = all_did; seen = λ k s. go k (ℕ_discrete k b) (rest.seen k s) }
      where
        go : (k : ℕ) → Dec (k ≡ b) → (0 < at (put b 1 x.1) k) ⊎ NoWhite l (proto_links w l k) last.0 → (0 < at x.1 k) ⊎ NoWhite l (proto_links w l k) last.0
        go k d (inr t) = inr t
        go k (yes e) (inl t) = inr (subst (λ n. NoWhite l (proto_links w l n) last.0) (sym e) all_dark)
        go k (no d) (inl t) = inl (subst (λ n. 0 < n) (other_seen k d) t)

    -- and the loop as it stands in the definition
    last_is : run (nested_one (ops l) l (below (ops l) l b) b) 0 (proto_nested l b first.0) first ≡ last
    unfolding run
    last_is =
        let e : proto_nested l b first.0 - 0 ≡ proto_nested l b w = omega (arith, nested_stay b (marked_then m first_from)) in
        ap (λ (k : ℕ). rounds (nested_one (ops l) l (below (ops l) l b) b) k 0 first) e

  -- prototype b, seen or not
  self_went : (b : ℕ) → Walks b → (x : List ℕ × List ℕ) → Marked l w x.0 → Walked x (suc b) → Went (proto_links w l b) x (below (ops l) l (suc b) b x)
  unfolding below proto_by
  self_went b ih x m h = went_is refl (sym (eq_yes b b _ _ _ refl refl)) (go (dec_lt 0 (at x.1 b)))
    where
      go : Dec (0 < at x.1 b) → Went (proto_links w l b) x (proto_by (ops l) l (below (ops l) l b) b x)
      go (yes s) =
          went_is refl (sym (lt_yes 0 (at x.1 b) _ _ _ s refl))
          (record { did = sym (marks_again l (proto_links w l b) x.0 (h b (omega arith) s)); seen = λ k t. inl t })
      go (no s) =
          let z : at x.1 b ≤ 0 = omega (arith, s) in
          went_is refl (sym (lt_no 0 (at x.1 b) _ _ _ z refl) ∙ last_is b ih x m h) (all_went b ih x m h)

  turn : (b : ℕ) → Walks b → Walks (suc b)
  unfolding below
  turn b ih n x m h = go (ℕ_discrete n b)
    where
      go : Dec (n ≡ b) → Went (proto_below w l (suc b) n) x (below (ops l) l (suc b) n x)
      go (yes e) = subst (λ k. Went (proto_below w l (suc b) k) x (below (ops l) l (suc b) k x)) (sym e) (self_went b ih x m h)
      go (no d) = went_is (proto_other b n d) (sym (eq_no n b _ _ _ d refl)) (ih n x m (λ k f s. h k (omega arith) s))

  -- So each walk does it, whatever the set holds of walked numbers.
  pub walk : (b n : ℕ) (x : List ℕ × List ℕ) → Marked l w x.0 → Walked x b → Went (proto_below w l b n) x (below (ops l) l b n x)
  unfolding below proto_below
  walk zero n x m h = went_none x
  walk (suc b) n x m h = turn b (walk b) n x m h

  -- A number with no prototype has no links, and one with none nested has those of its constants.
  no_proto : (n : ℕ) → l.protos.room ≤ n → proto_links w l n ≡ []
  unfolding proto_constants proto_nested each
  no_proto n h =
      proto_whole n
      ∙ ap (λ (k : ℕ). each (λ i. value_links (proto_constant l n i w)) k 0 ++ each (nested_links n) (proto_nested l n w) 0) (sym (lt_no n (protos_used l w) _ _ _ (omega arith) refl))
      ∙ ap (λ (k : ℕ). each (nested_links n) k 0) (sym (lt_no n (protos_used l w) _ _ _ (omega arith) refl))

  no_nested : (n : ℕ) → proto_nested l n w ≡ 0 → proto_links w l n ≡ constant_links n
  unfolding each
  no_nested n e = proto_whole n ∙ ap (λ (k : ℕ). constant_links n ++ each (nested_links n) k 0) e ∙ append-nil (constant_links n)

  -- Marking the constants of a prototype and of all nested ones, each number once, marks exactly the prototype's links.
  pub proto_links_lem : (n : ℕ) {u : List ℕ} → Marked l w u → mark_proto_constants (ops l) l n u ≡ marks l (proto_links w l n) u
  unfolding mark_proto_constants mark_proto
  proto_links_lem n {u} m = go (dec_lt n l.protos.room) (ℕ_discrete (proto_nested l n u) 0)
    where
      go : Dec (n < l.protos.room) → Dec (proto_nested l n u ≡ 0) → mark_proto_constants (ops l) l n u ≡ marks l (proto_links w l n) u
      go (no f) d =
          let g : l.protos.room ≤ n = omega (arith, f) in
          sym (le_yes l.protos.room n _ _ _ g refl) ∙ sym (marks_none l (proto_links w l n) u (no_proto n g))
      go (yes f) (yes e) =
          sym (le_no l.protos.room n _ _ _ f refl)
          ∙ sym (eq_yes (proto_nested l n u) 0 _ _ _ e refl)
          ∙ constants_links n m
          ∙ ap (λ rs. marks l rs u) (sym (no_nested n (sym (nested_stay n m) ∙ e)))
      go (yes f) (no d) =
          sym (le_no l.protos.room n _ _ _ f refl)
          ∙ sym (eq_no (proto_nested l n u) 0 _ _ _ d refl)
          ∙ (walk (suc n) n (u, zeros 256) m (λ k g s. absurd (let z : ⊥ = omega (arith, s, zeros_none 256 k) in z))).did
