-- What painting one slot does to the numbers of gray and of dark slots. Assumes nothing.
--     colours_apart             two slots of different kinds have their colours apart
--     count_in                   the slots of one kind whose colour passes a test
--     paint_there, paint_up, paint_more, paint_down     a slot painted: no other kind's number changes; none is lost, one is
--                               gained, one is lost at most
--     paint-words, paint_quiet  the lists and the damage mark stay; a kind that is not listed leaves the tally
use Rattle.std.specs.Prelude.{◌≡◌, Bool, true, false, List, ◌≢◌, ℕ, zero, suc, ◌+◌, ◌≤◌, ◌<◌, length}
use Rattle.std.proofs.Common.{sym, ap, subst, ◌∙◌, inl, inr, arith, length-set, get_or-set_other}
use Rattle.std.proofs.Math.Decide.{dec_lt, ℕ_discrete}
use Rattle.base.specs.Words.{at}
use Rattle.arena.specs.Slots.{used, gen}
use Rattle.layout.specs.declared.Lay.{Lay}
use Rattle.lists.specs.Lists.{damage}
use Rattle.laid.specs.Laid.{Laid}
use Rattle.mark.specs.Ops.{Ref, Work, gray, grayagain, weak}
use Rattle.mark.specs.Words.{arena_of, list_of, colour_w, paint_w}
use Rattle.mark_laws.specs.Apart.{Apart, Order, order, arena_before, arena_kind}
use Rattle.mark_laws.specs.Colours.{shade_parts}
use Rattle.mark_laws.specs.Changes.{colour_in}
use Rattle.mark_laws.specs.Whites.{Listed}
use Rattle.mark_laws.specs.Items.{one}
use Rattle.mark_laws.specs.Weights.{paint_header, paint_lists}
use Rattle.room_laws.specs.Pends.{Direct}
use Rattle.room_laws.specs.Counts.{is_gray, is_dark, one_most, count_to, count_same, count_put}
use Rattle.room_laws.specs.Frames.{OnList, Quiet}

-- The slots of kind k whose colour passes the test.
abbrev pub count_in : Lay → (ℕ → Bool) → ℕ → List ℕ → ℕ
count_in l f k w = count_to f (arena_of l k).base (arena_of l k).slots w

-- No kind is followed at once and listed.
pub direct_listed : (k : ℕ) → Direct k → Listed k → ⊥
direct_listed zero d s = s
direct_listed (suc zero) d s = d
direct_listed (suc (suc zero)) d s = d
direct_listed (suc (suc (suc zero))) d s = s
direct_listed (suc (suc (suc (suc zero)))) d s = s
direct_listed (suc (suc (suc (suc (suc k))))) d s = d

module _ (l : Lay) (ok : Laid l) (a : Apart l) where
  abbrev o : Order l
  o = order l ok a

  -- Two slots of different kinds have their colours apart.
  pub colours_apart : (k i d j : ℕ) → i < (arena_of l k).slots → j < (arena_of l d).slots → k ≢ d → (arena_of l k).base + i ≢ (arena_of l d).base + j
  colours_apart k i d j h g n e = go (dec_lt k d)
    where
      go : Dec (k < d) → ⊥
      go (yes f) = omega (arith, e, h, arena_before l o k d f (arena_kind l o d j g))
      go (no f) = omega (arith, e, g, arena_before l o d k (omega (arith, f, n)) (arena_kind l o k i h))

  -- A slot that a handle names is painted.
  module _ (r : Ref) (c : ℕ) (u : List ℕ) (long : l.words ≤ length u) (named : 1 ≤ colour_w l r u) where
    parts : (r.at < used (arena_of l r.kind) u) × (gen (arena_of l r.kind) r.at u ≡ r.gen) × (colour_w l r u ≡ at u ((arena_of l r.kind).base + r.at))
    parts = shade_parts (arena_of l r.kind) r.at r.gen u named

    within : r.at < (arena_of l r.kind).slots
    within = omega (arith, parts.0)

    -- what passed is taken off, what passes is added
    paint_here : (f : ℕ → Bool) → count_in l f r.kind (paint_w l r c u) + one (f (colour_w l r u)) ≡ count_in l f r.kind u + one (f c)
    paint_here f =
        ap (λ (x : ℕ). count_in l f r.kind (paint_w l r c u) + one (f x)) parts.2
        ∙ count_put f (arena_of l r.kind).base (arena_of l r.kind).slots r.at c u within (omega (arith, long, (colour_in l ok a r.kind r.at within).1, a, o.words))

    -- A colour of another kind is as it was,
    pub paint_other : (k i : ℕ) → k ≢ r.kind → i < (arena_of l k).slots → at (paint_w l r c u) ((arena_of l k).base + i) ≡ at u ((arena_of l k).base + i)
    paint_other k i d h = get_or-set_other u ((arena_of l r.kind).base + r.at) ((arena_of l k).base + i) c 0 (colours_apart k i r.kind r.at h within d)

    -- and so is the number of each other kind.
    pub paint_there : (f : ℕ → Bool) (k : ℕ) → k ≢ r.kind → count_in l f k (paint_w l r c u) ≡ count_in l f k u
    paint_there f k d = count_same f (arena_of l k).base (arena_of l k).slots u (paint_w l r c u) (λ i h. paint_other k i d h)

    -- With a colour that passes none is lost,
    pub paint_up : (f : ℕ → Bool) → f c ≡ true → (k : ℕ) → count_in l f k u ≤ count_in l f k (paint_w l r c u)
    paint_up f e k = go (ℕ_discrete k r.kind)
      where
        sums : (x y p q : ℕ) → x + p ≡ y + q → q ≡ 1 → p ≤ 1 → y ≤ x
        sums x y p q s t g = omega (arith, s, t, g)

        same : (x y : ℕ) → x ≡ y → y ≤ x
        same x y s = omega (arith, s)

        go : Dec (k ≡ r.kind) → count_in l f k u ≤ count_in l f k (paint_w l r c u)
        go (yes d) =
            subst (λ j. count_in l f j u ≤ count_in l f j (paint_w l r c u)) (sym d)
            (sums (count_in l f r.kind (paint_w l r c u)) (count_in l f r.kind u) (one (f (colour_w l r u))) (one (f c)) (paint_here f) (ap one e) (one_most (f (colour_w l r u))))
        go (no d) = same (count_in l f k (paint_w l r c u)) (count_in l f k u) (paint_there f k d)

    -- and one is gained if the colour before does not.
    pub paint_more : (f : ℕ → Bool) → f c ≡ true → f (colour_w l r u) ≡ false → count_in l f r.kind u + 1 ≤ count_in l f r.kind (paint_w l r c u)
    paint_more f e d = sums (count_in l f r.kind (paint_w l r c u)) (count_in l f r.kind u) (one (f (colour_w l r u))) (one (f c)) (paint_here f) (ap one e) (ap one d)
      where
        sums : (x y p q : ℕ) → x + p ≡ y + q → q ≡ 1 → p ≡ 0 → y + 1 ≤ x
        sums x y p q s t g = omega (arith, s, t, g)

    -- With any colour one is lost at most.
    pub paint_down : (f : ℕ → Bool) (k : ℕ) → count_in l f k u ≤ count_in l f k (paint_w l r c u) + 1
    paint_down f k = go (ℕ_discrete k r.kind)
      where
        sums : (x y p q : ℕ) → x + p ≡ y + q → p ≤ 1 → y ≤ x + 1
        sums x y p q s t = omega (arith, s, t)

        same : (x y : ℕ) → x ≡ y → y ≤ x + 1
        same x y s = omega (arith, s)

        go : Dec (k ≡ r.kind) → count_in l f k u ≤ count_in l f k (paint_w l r c u) + 1
        go (yes d) =
            subst (λ j. count_in l f j u ≤ count_in l f j (paint_w l r c u) + 1) (sym d)
            (sums (count_in l f r.kind (paint_w l r c u)) (count_in l f r.kind u) (one (f (colour_w l r u))) (one (f c)) (paint_here f) (one_most (f (colour_w l r u))))
        go (no d) = same (count_in l f k (paint_w l r c u)) (count_in l f k u) (paint_there f k d)

    -- The lists are as they were,
    pub paint_list : (k : Work) (q : ℕ) → OnList (list_of l k) q → at (paint_w l r c u) q ≡ at u q
    paint_list gray q (inl e) = paint_header l ok a r c u named q (omega (arith, e, o.gray))
    paint_list gray q (inr h) = paint_lists l ok a r c u named q h.0
    paint_list grayagain q (inl e) = paint_header l ok a r c u named q (omega (arith, e, o.grayagain))
    paint_list grayagain q (inr h) = paint_lists l ok a r c u named q (omega (arith, h.0, a))
    paint_list weak q (inl e) = paint_header l ok a r c u named q (omega (arith, e, o.weak))
    paint_list weak q (inr h) = paint_lists l ok a r c u named q (omega (arith, h.0, a))

    -- the damage mark too,
    pub paint_mark : at (paint_w l r c u) damage ≡ at u damage
    paint_mark = paint_header l ok a r c u named damage (omega arith)

    -- and a kind that is not listed leaves all that a tally is read from.
    pub paint_quiet : (Listed r.kind → ⊥) → Quiet l u (paint_w l r c u)
    paint_quiet n = record {
      long = length-set u ((arena_of l r.kind).base + r.at) c;
      mark = paint_mark;
      lists = paint_list;
      dark = λ k s i h. ap is_dark (paint_other k i (λ e. n (subst (λ j. Listed j) e s)) h);
      grays = λ i h. ap is_gray (paint_other 1 i (λ e. n (subst (λ j. Listed j) e tt)) h);
    }
