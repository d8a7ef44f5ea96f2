-- Marking keeps the tri-colour invariant on words, with links E that are still to be marked. `w` are the words before any
-- marking, from which all links are read, `u` those after some marking. Assumes nothing.
--     skip_ok, black_ok, gray_ok      a pending link is passed, painted black, painted gray and listed
--     marks_ok                        a list of links is marked
use Rattle.std.specs.Prelude.{◌≡◌, refl, true, false, ◌⊎◌, ℕ, ◌≤◌, length}
use Rattle.std.proofs.Common.{sym, ap, subst, ◌∙◌, inl, inr, ⊎_elim, arith}
use mathlib.Core.List.Memᴰ
use mathlib.Core.List.{List, [], ◌∷◌, ◌++◌, append-nil, Memᴰ}
use Rattle.base.specs.Words.{at}
use Rattle.layout.specs.declared.Lay.{Lay}
use Rattle.lists.specs.declared.Item.{Item}
use Rattle.lists.specs.Lists.{push}
use Rattle.laid.specs.Laid.{Laid}
use Rattle.mark.specs.Ops.{Ref, thread, gray, grayagain, is_white}
use Rattle.mark.specs.Words.{colour_w, paint_w}
use Rattle.links.specs.Links.{links}
use Rattle.mark_laws.specs.Apart.{Apart, Order, order}
use Rattle.mark_laws.specs.Colours.{white_true, white_false}
use Rattle.mark_laws.specs.Moves.{Rising, still, raised, pushed}
use Rattle.mark_laws.specs.Changes.{Marked, marked_then, moves_marked, work_room}
use Rattle.mark_laws.specs.Stays.{never_falls}
use Rattle.mark_laws.specs.Marks.{marks}
use Rattle.mark_laws.specs.Whites.{Listed}
use Rattle.room_laws.specs.Pends.{Direct, item_for, marks_pends}
use Rattle.room_laws.specs.Tallies.{Ample}
use Rattle.room_laws.specs.Frames.{OnList, other_words, mark_apart, push_only}
use Rattle.room_laws.specs.Paints.{paint_list}
use Rattle.room_laws.proofs.Payments.{whole_long, black_whole, gray_fits, gray_whole}
use Rattle.reach.specs.Tri.{Upd, skip, mark_white}
use Rattle.reach.specs.OnLists.{On, on_same, push_new, push_old, push_was}
use Rattle.reach.specs.Shades.{item_ref, paint_upd, push_shade}
use Rattle.reach.specs.Oks.{Again, Ok}

-- what is on grayagain stays black
pub again_up : {l : Lay} → Order l → {u v : List ℕ} → Marked l u v → (x : Item) → Again l x u → Again l x v
again_up o m x (inl e) = inl e
again_up {l} o {u} {v} m x (inr (r, e, h)) = inr (r, e, up (colour_w l (thread r) u) (colour_w l (thread r) v) h (never_falls o m (thread r)))
  where
    up : (c d : ℕ) → 4 ≤ c → c ≤ d → 4 ≤ d
    up c d f g = omega (arith, f, g)

module _ (l : Lay) (ok : Laid l) (a : Apart l) (am : Ample l) (w b : List ℕ) (long : l.words ≤ length w) where
  abbrev o : Order l
  o = order l ok a

  module _ {Root Cov D : Ref → Type 0} {p t q : ℕ} where
    -- A link that is not white is passed.
    pub skip_ok : (r : Ref) (E : List Ref) (u : List ℕ) → is_white (colour_w l r u) ≡ false → Ok l w b Root Cov D p t q (r ∷ E) u → Ok l w b Root Cov D p t q E u
    skip_ok r E u e v = record {
      marked = v.marked;
      whole = v.whole;
      inv = skip v.inv r (λ k m. Memᴰ.cases_cons m) (λ k m. Memᴰ.tail m) (λ z. white_false (colour_w l r u) e ((v.inv.occ r).0 z));
      listed = v.listed;
      todo = v.todo;
      kept = v.kept;
    }

    -- A white slot is painted.
    module _ (r : Ref) (c : ℕ) (E : List Ref) (u : List ℕ) (e : is_white (colour_w l r u) ≡ true) (f : 3 ≤ c) (g : c ≤ 4) (v : Ok l w b Root Cov D p t q (r ∷ E) u) where
      u_long : l.words ≤ length u
      u_long = whole_long l ok a am w long v.whole

      rising : Rising (colour_w l r u) c
      rising = ((white_true (colour_w l r u) e).0, omega (arith, f, (white_true (colour_w l r u) e).1), f, g)

      painted : Marked l u (paint_w l r c u)
      painted = moves_marked l ok a (raised (still refl) r c rising refl) u_long

      upd : Upd (λ x. colour_w l x u) r c (λ x. colour_w l x (paint_w l r c u))
      upd = paint_upd l ok a r c u u_long rising

      grays : (q : ℕ) → OnList l.gray q → at (paint_w l r c u) q ≡ at u q
      grays = paint_list l ok a r c u u_long rising.0 gray

      agains : (q : ℕ) → OnList l.grayagain q → at (paint_w l r c u) q ≡ at u q
      agains = paint_list l ok a r c u u_long rising.0 grayagain

    -- A white string, upvalue or userdata becomes black, and its links are to be marked.
    pub black_ok : (r : Ref) (E : List Ref) (u : List ℕ) → is_white (colour_w l r u) ≡ true → Direct r.kind → Ok l w b Root Cov D p t q (r ∷ E) u
        → Ok l w b Root Cov D p t q (links w l b r ++ E) (paint_w l r 4 u)
    black_ok r E u e d v =
        let n = upd r 4 E u e (omega arith) (omega arith) v in
        let m = painted r 4 E u e (omega arith) (omega arith) v in
        let s = rising r 4 E u e (omega arith) (omega arith) v in
        let y = grays r 4 E u e (omega arith) (omega arith) v in
        let z = agains r 4 E u e (omega arith) (omega arith) v in
        record {
          marked = marked_then v.marked m;
          whole = black_whole l ok a am w long r u e d v.whole;
          inv = mark_white v.inv r 4 n (omega arith) s.0 (Memᴰ.head refl)
              (λ k i. ⊎_elim (λ q. inl q) (λ j. inr (Memᴰ.append_right (links w l b r) j)) (Memᴰ.cases_cons i))
              (λ k i. ⊎_elim (λ j. inr j) (λ j. inl (Memᴰ.tail j)) (Memᴰ.append_cases (links w l b r) i))
              (λ k h. ⊎_elim (λ x. absurd (gray_white k x.0 h)) (λ x. x ∙ h) (n.cases k))
              (inr (λ j i. Memᴰ.append_left E i));
          listed = λ k h. ⊎_elim (λ x. absurd (four (colour_w l k (paint_w l r 4 u)) x.1 h))
              (λ x. ⊎_elim (λ i. inl (i.0, on_same l.gray (item_for k) u (paint_w l r 4 u) y i.1)) (λ i. inr i) (v.listed k (sym x ∙ h))) (n.cases k);
          todo = λ k i h. up (colour_w l k u) (colour_w l k (paint_w l r 4 u)) (v.todo k i (on_same l.gray (item_for k) (paint_w l r 4 u) u (λ q j. sym (y q j)) h)) (never_falls o m k);
          kept = λ x h. again_up o m x (v.kept x (on_same l.grayagain x (paint_w l r 4 u) u (λ q j. sym (z q j)) h));
        }
      where
        gray_white : (k : Ref) → k ≡ r → colour_w l k u ≡ 3 → ⊥
        gray_white k i h = omega (arith, sym (ap (λ x. colour_w l x u) i) ∙ h, (white_true (colour_w l r u) e).1)

        four : (c : ℕ) → c ≡ 4 → c ≡ 3 → ⊥
        four c x y = omega (arith, x, y)

        up : (c d : ℕ) → 3 ≤ c → c ≤ d → 3 ≤ d
        up c d f g = omega (arith, f, g)

    -- A white table, closure or thread becomes gray, and is listed.
    pub gray_ok : (r : Ref) (E : List Ref) (u : List ℕ) → is_white (colour_w l r u) ≡ true → Listed r.kind → Ok l w b Root Cov D p t q (r ∷ E) u
        → Ok l w b Root Cov D p t q E (push l.gray (item_for r) (paint_w l r 3 u))
    gray_ok r E u e d v =
        record {
          marked = marked_then v.marked (marked_then m pushes);
          whole = gray_whole l ok a am w long r u e d v.whole;
          inv = mark_white v.inv r 3 n (omega arith) s.0 (Memᴰ.head refl)
              (λ k i. Memᴰ.cases_cons i) (λ k i. inl (Memᴰ.tail i))
              (λ k h. ⊎_elim (λ x. x.1) (λ x. x ∙ h) (n.cases k)) (inl n.here);
          listed = λ k h. ⊎_elim (λ x. inl (subst (λ y. Listed y.kind) (sym x.0) d, subst (λ y. On l.gray (item_for y) z) (sym x.0) new))
              (λ x. ⊎_elim (λ i. inl (i.0, old (item_for k) i.1)) (λ i. inr i) (v.listed k (sym x ∙ h))) (n.cases k);
          todo = λ k i h. ⊎_elim (λ j. up (colour_w l k u) (colour_w l k z) (v.todo k i j) (never_falls o (marked_then m pushes) k))
              (λ j. three (colour_w l k z) (ap (λ y. colour_w l y z) (item_ref k r i d j) ∙ n.here)) (was (item_for k) h);
          kept = λ x h. again_up o (marked_then m pushes) x (v.kept x (on_same l.grayagain x z u (λ q j. sym (agains r 3 E u e (omega arith) (omega arith) v q j) ∙ sym (other_words l ok a gray grayagain tt y z (push_only l ok a gray (item_for r) y y_long) q j)) h));
        }
      where
        y : List ℕ
        y = paint_w l r 3 u

        z : List ℕ
        z = push l.gray (item_for r) (paint_w l r 3 u)

        s : Rising (colour_w l r u) 3
        s = rising r 3 E u e (omega arith) (omega arith) v

        m : Marked l u (paint_w l r 3 u)
        m = painted r 3 E u e (omega arith) (omega arith) v

        y_long : l.words ≤ length (paint_w l r 3 u)
        y_long = omega (arith, m.long, u_long r 3 E u e (omega arith) (omega arith) v)

        pushes : Marked l (paint_w l r 3 u) (push l.gray (item_for r) (paint_w l r 3 u))
        pushes = moves_marked l ok a (pushed (still refl) gray (item_for r) refl) y_long

        n : Upd (λ x. colour_w l x u) r 3 (λ x. colour_w l x (push l.gray (item_for r) (paint_w l r 3 u)))
        n =
            let k = upd r 3 E u e (omega arith) (omega arith) v in
            let h = push_shade l ok a gray (item_for r) (paint_w l r 3 u) y_long in
            record { here = h r ∙ k.here; cases = λ x. ⊎_elim (λ i. inl (i.0, h x ∙ i.1)) (λ i. inr (h x ∙ i)) (k.cases x) }

        new : On l.gray (item_for r) (push l.gray (item_for r) (paint_w l r 3 u))
        new = push_new l.gray (item_for r) (paint_w l r 3 u) (work_room l ok a gray (paint_w l r 3 u) y_long) (gray_fits l ok a am w long r u e d v.whole)

        old : (x : Item) → On l.gray x u → On l.gray x (push l.gray (item_for r) (paint_w l r 3 u))
        old x i = push_old l.gray (item_for r) (paint_w l r 3 u) (work_room l ok a gray (paint_w l r 3 u) y_long) (mark_apart l ok a gray) x (on_same l.gray x u (paint_w l r 3 u) (grays r 3 E u e (omega arith) (omega arith) v) i)

        was : (x : Item) → On l.gray x (push l.gray (item_for r) (paint_w l r 3 u)) → On l.gray x u ⊎ (x ≡ item_for r)
        was x i =
            ⊎_elim (λ j. inl (on_same l.gray x (paint_w l r 3 u) u (λ q k. sym (grays r 3 E u e (omega arith) (omega arith) v q k)) j)) (λ j. inr j)
            (push_was l.gray (item_for r) (paint_w l r 3 u) (work_room l ok a gray (paint_w l r 3 u) y_long) (mark_apart l ok a gray) (gray_fits l ok a am w long r u e d v.whole) x i)

        up : (c d : ℕ) → 3 ≤ c → c ≤ d → 3 ≤ d
        up c d f g = omega (arith, f, g)

        three : (c : ℕ) → c ≡ 3 → 3 ≤ c
        three c e = omega (arith, e)

    -- Marking a list of links strikes it off what is to be marked.
    pub marks_ok : (rs E : List Ref) {u : List ℕ} → Ok l w b Root Cov D p t q (rs ++ E) u → Ok l w b Root Cov D p t q E (marks l rs u)
    marks_ok rs E v =
        marks_pends l ok a w b long (λ E u. Ok l w b Root Cov D p t q E u) (λ r E u m e c. skip_ok r E u e c) (λ r E u m e d c. black_ok r E u e d c) (λ r E u m e d c. gray_ok r E u e d c)
        rs E v.marked v

    -- all that is to be marked
    pub marks_all : (rs : List Ref) {u : List ℕ} → Ok l w b Root Cov D p t q rs u → Ok l w b Root Cov D p t q [] (marks l rs u)
    marks_all rs {u} v = marks_ok rs [] (subst (λ E. Ok l w b Root Cov D p t q E u) (sym (append-nil rs)) v)
