-- The colours of all handles after one slot is painted, and after a change of the lists. Assumes nothing.
--     ref_same                 two handles of one kind, index and generation are one
--     paint_any, paint_upd     a slot that is painted has the colour, all other handles have theirs as before
--     shade_alike, shade_stays     where the colours' words stay every handle has its colour
--     push_shade, pop_shade, cleared_shade     so it has after a push, a pop or a clearing
--     ref_of, item_back, item_ref     the handle that an item stands for; it is the one that the item was listed for
use Rattle.std.specs.Prelude.{◌≡◌, refl, List, ◌⊎◌, ◌≢◌, ℕ, zero, suc, ◌+◌, ◌≤◌, ◌<◌, length}
use Rattle.std.proofs.Common.{sym, ap, ◌∙◌, inl, inr, arith, get_or-set_same, get_or-set_other}
use Rattle.std.proofs.Math.Decide.{dec_lt, ℕ_discrete}
use Rattle.base.specs.Words.{at}
use Rattle.arena.specs.Slots.{used, gen}
use Rattle.layout.specs.declared.Lay.{Lay}
use Rattle.lists.specs.declared.Item.{Item}
use Rattle.lists.specs.declared.Item.TheVariants.{Table, Function, Userdata, Thread, Main, Unknown}
use Rattle.lists.specs.Lists.{push, pop, cleared}
use Rattle.laid.specs.Laid.{Laid}
use Rattle.mark.specs.Ops.{Ref, ref, tab, fun, thread, Work}
use Rattle.mark.specs.Words.{arena_of, list_of, colour_w, paint_w}
use Rattle.mark_laws.specs.Apart.{Apart, Order, order}
use Rattle.mark_laws.specs.Colours.{shade_parts, shade_is, shade_past, shade_stale, shade_same}
use Rattle.mark_laws.specs.Moves.{Rising, still, pushed, popped, emptied}
use Rattle.mark_laws.specs.Changes.{Untouched, slot, Marked, moves_marked, colour_in, colour_apart}
use Rattle.mark_laws.specs.Stays.{tops_in, used_stays, gen_stays}
use Rattle.mark_laws.specs.Whites.{Listed}
use Rattle.room_laws.specs.Pends.{item_kind, item_for}
use Rattle.room_laws.specs.Frames.{colours_same, push_only, pop_only, cleared_only}
use Rattle.room_laws.specs.Paints.{colours_apart}
use Rattle.reach.specs.Tri.{Upd}

-- Two handles of one kind, index and generation are one.
pub ref_same : (x r : Ref) → x.kind ≡ r.kind → x.at ≡ r.at → x.gen ≡ r.gen → x ≡ r
ref_same x r e f g =
    ap (λ k. ref k x.at x.gen) e ∙ ap (λ i. ref r.kind i x.gen) f ∙ ap (λ n. ref r.kind r.at n) g

-- The handle that an item stands for. Other items stand for none.
abbrev pub ref_of : Item → Ref
ref_of (Table r) = tab r
ref_of (Function r) = fun r
ref_of (Thread r) = thread r
ref_of (Userdata r) = ref 6 0 0
ref_of Main = ref 6 0 0
ref_of Unknown = ref 6 0 0

-- It is the one that the item was listed for,
pub item_back : (r : Ref) → Listed r.kind → ref_of (item_for r) ≡ r
item_back r s = go r.kind s
  where
    go : (k : ℕ) → Listed k → ref_of (item_kind k r.at r.gen) ≡ ref k r.at r.gen
    go (suc zero) s = refl
    go (suc (suc zero)) s = refl
    go (suc (suc (suc (suc (suc zero))))) s = refl
    go zero s = absurd s
    go (suc (suc (suc zero))) s = absurd s
    go (suc (suc (suc (suc zero)))) s = absurd s
    go (suc (suc (suc (suc (suc (suc k)))))) s = absurd s

-- and so an item stands for one handle.
pub item_ref : (x r : Ref) → Listed x.kind → Listed r.kind → item_for x ≡ item_for r → x ≡ r
item_ref x r s t e = sym (item_back x s) ∙ ap ref_of e ∙ item_back r t

module _ (l : Lay) (ok : Laid l) (a : Apart l) where
  abbrev o : Order l
  o = order l ok a

  -- Where the fresh index, the generations and a colour's word stay, a handle has its colour.
  pub shade_alike : (u v : List ℕ) (x : Ref) → used (arena_of l x.kind) v ≡ used (arena_of l x.kind) u
      → (x.at < (arena_of l x.kind).slots → gen (arena_of l x.kind) x.at v ≡ gen (arena_of l x.kind) x.at u)
      → (x.at < (arena_of l x.kind).slots → at v ((arena_of l x.kind).base + x.at) ≡ at u ((arena_of l x.kind).base + x.at))
      → colour_w l x v ≡ colour_w l x u
  shade_alike u v x e g h = go (dec_lt x.at (used (arena_of l x.kind) u))
    where
      go : Dec (x.at < used (arena_of l x.kind) u) → colour_w l x v ≡ colour_w l x u
      go (yes f) =
          let i : x.at < (arena_of l x.kind).slots = omega (arith, f) in
          shade_same (arena_of l x.kind) x.at x.gen u v e (g i) (h i)
      go (no f) = shade_past (arena_of l x.kind) x.at x.gen v (omega (arith, f, e)) ∙ sym (shade_past (arena_of l x.kind) x.at x.gen u (omega (arith, f)))

  -- So it has after marking that leaves its colour's word.
  pub shade_stays : (u v : List ℕ) → Marked l u v → (x : Ref) → (x.at < (arena_of l x.kind).slots → at v ((arena_of l x.kind).base + x.at) ≡ at u ((arena_of l x.kind).base + x.at))
      → colour_w l x v ≡ colour_w l x u
  shade_stays u v m x h = shade_alike u v x (used_stays o m x.kind) (λ i. gen_stays o m x.kind x.at i) h

  -- A slot that is painted has the colour, and every other handle has its colour as before.
  pub paint_any : (r : Ref) (c : ℕ) (u : List ℕ) → l.words ≤ length u → 1 ≤ colour_w l r u → c ≤ 4 → Upd (λ x. colour_w l x u) r c (λ x. colour_w l x (paint_w l r c u))
  paint_any r c u long named small = record {
    here = now;
    cases = λ x. go x (ℕ_discrete x.kind r.kind) (ℕ_discrete x.at r.at) (ℕ_discrete x.gen r.gen);
  }
    where
      p : (r.at < used (arena_of l r.kind) u) × (gen (arena_of l r.kind) r.at u ≡ r.gen) × (colour_w l r u ≡ at u ((arena_of l r.kind).base + r.at))
      p = shade_parts (arena_of l r.kind) r.at r.gen u named

      within : r.at < (arena_of l r.kind).slots
      within = omega (arith, p.0)

      -- no other word changes, and so no fresh index and no generation
      word : (q : ℕ) → Untouched l q → at (paint_w l r c u) q ≡ at u q
      word q f = get_or-set_other u ((arena_of l r.kind).base + r.at) q c 0 (colour_apart l ok a r.kind r.at within q f)

      same_used : (k : ℕ) → used (arena_of l k) (paint_w l r c u) ≡ used (arena_of l k) u
      same_used k = rw (word ((arena_of l k).top + 1) (tops_in l o k ((arena_of l k).top + 1) (omega arith) (omega arith)))

      same_gen : (k i : ℕ) → i < (arena_of l k).slots → gen (arena_of l k) i (paint_w l r c u) ≡ gen (arena_of l k) i u
      same_gen k i h = word ((arena_of l k).base + (arena_of l k).slots + i) (slot k (omega arith) (omega (arith, h)))

      here_word : at (paint_w l r c u) ((arena_of l r.kind).base + r.at) ≡ c
      here_word = get_or-set_same u ((arena_of l r.kind).base + r.at) c 0 (omega (arith, long, (colour_in l ok a r.kind r.at within).1, a, o.words))

      now : colour_w l r (paint_w l r c u) ≡ c
      now =
          shade_is (arena_of l r.kind) r.at r.gen (paint_w l r c u) (omega (arith, p.0, same_used r.kind)) (same_gen r.kind r.at within ∙ p.1) (omega (arith, here_word, small))
          ∙ here_word

      -- a handle of another generation has none
      stale : (x : Ref) → x.kind ≡ r.kind → x.at ≡ r.at → x.gen ≢ r.gen → colour_w l x (paint_w l r c u) ≡ colour_w l x u
      stale x e f d =
          ap (λ k. colour_w l (ref k x.at x.gen) (paint_w l r c u)) e
          ∙ ap (λ j. colour_w l (ref r.kind j x.gen) (paint_w l r c u)) f
          ∙ shade_stale (arena_of l r.kind) r.at x.gen (paint_w l r c u) (λ z. d (sym z ∙ same_gen r.kind r.at within ∙ p.1))
          ∙ sym (shade_stale (arena_of l r.kind) r.at x.gen u (λ z. d (sym z ∙ p.1)))
          ∙ ap (λ j. colour_w l (ref r.kind j x.gen) u) (sym f)
          ∙ ap (λ k. colour_w l (ref k x.at x.gen) u) (sym e)

      -- so has one of another slot
      other : (x : Ref) → (x.at < (arena_of l x.kind).slots → (arena_of l x.kind).base + x.at ≢ (arena_of l r.kind).base + r.at) → colour_w l x (paint_w l r c u) ≡ colour_w l x u
      other x d =
          shade_alike u (paint_w l r c u) x (same_used x.kind) (λ i. same_gen x.kind x.at i)
          (λ i. get_or-set_other u ((arena_of l r.kind).base + r.at) ((arena_of l x.kind).base + x.at) c 0 (d i))

      go : (x : Ref) → Dec (x.kind ≡ r.kind) → Dec (x.at ≡ r.at) → Dec (x.gen ≡ r.gen) → ((x ≡ r) × (colour_w l x (paint_w l r c u) ≡ c)) ⊎ (colour_w l x (paint_w l r c u) ≡ colour_w l x u)
      go x (yes e) (yes f) (yes g) = inl (ref_same x r e f g, ap (λ y. colour_w l y (paint_w l r c u)) (ref_same x r e f g) ∙ now)
      go x (yes e) (yes f) (no d) = inr (stale x e f d)
      go x (yes e) (no d) g = inr (other x (λ i z. d (sums (arena_of l x.kind).base (arena_of l r.kind).base x.at r.at (ap (λ k. (arena_of l k).base) e) z)))
        where
          sums : (b d i j : ℕ) → b ≡ d → b + i ≡ d + j → i ≡ j
          sums b d i j e z = omega (arith, e, z)
      go x (no d) f g = inr (other x (λ i. colours_apart l ok a x.kind x.at r.kind r.at i within d))

  -- The same for a colour that rises.
  pub paint_upd : (r : Ref) (c : ℕ) (u : List ℕ) → l.words ≤ length u → Rising (colour_w l r u) c → Upd (λ x. colour_w l x u) r c (λ x. colour_w l x (paint_w l r c u))
  paint_upd r c u long s = paint_any r c u long s.0 s.3

  -- A push changes no handle's colour,
  pub push_shade : (k : Work) (y : Item) (u : List ℕ) → l.words ≤ length u → (x : Ref) → colour_w l x (push (list_of l k) y u) ≡ colour_w l x u
  push_shade k y u long x =
      shade_stays u (push (list_of l k) y u) (moves_marked l ok a (pushed (still refl) k y refl) long) x
      (λ i. colours_same l ok a k u (push (list_of l k) y u) (push_only l ok a k y u long) x.kind x.at i)

  -- nor does a pop,
  pub pop_shade : (k : Work) (u : List ℕ) → l.words ≤ length u → (x : Ref) → colour_w l x (pop (list_of l k) u).1 ≡ colour_w l x u
  pop_shade k u long x =
      shade_stays u (pop (list_of l k) u).1 (moves_marked l ok a (popped (still refl) k refl) long) x
      (λ i. colours_same l ok a k u (pop (list_of l k) u).1 (pop_only l ok a k u long) x.kind x.at i)

  -- nor clearing.
  pub cleared_shade : (k : Work) (u : List ℕ) → l.words ≤ length u → (x : Ref) → colour_w l x (cleared (list_of l k) u) ≡ colour_w l x u
  cleared_shade k u long x =
      shade_stays u (cleared (list_of l k) u) (moves_marked l ok a (emptied (still refl) k refl) long) x
      (λ i. colours_same l ok a k u (cleared (list_of l k) u) (cleared_only l ok a k u long) x.kind x.at i)
