-- The phase and the words of pacing are words that marking neither reads nor writes: all that is proved of words holds of them with
-- another number there. Assumes nothing.
--     stored_word, stored_shade, stored_list      no other word changes, no colour, no list
--     stored_alike             what is reached, due, kept and spared is the same
--     stored_marked, stored_whole, stored_ok, stored_noted     marking, rooms, the tri-colour invariant and the weak list
--     stored_white             every occupied slot is in the current white
use Rattle.std.specs.Prelude.{◌≡◌, ◌≢◌, ℕ, zero, suc, ◌+◌, ◌≤◌, ◌<◌, length, Some, None, Option}
use Rattle.std.proofs.Common.{sym, ap, subst, ◌∙◌, inl, inr, ⊎_elim, arith, length-set, get_or-set_same, get_or-set_other}
use mathlib.Core.List.{List, Memᴰ}
use Rattle.std.proofs.Math.Decide.{ℕ_discrete}
use Rattle.base.specs.Ways.{if_eq}
use Rattle.base.specs.Words.{at, put}
use Rattle.arena.specs.Slots.{named}
use Rattle.value.specs.declared.TableRef.{TableRef}
use Rattle.layout.specs.declared.Lay.{Lay}
use Rattle.layout.specs.Places.{PHASE, WHITE}
use Rattle.lists.specs.declared.Item.{Item}
use Rattle.lists.specs.declared.Item.TheVariants.{Table}
use Rattle.record.specs.Fields.{body_at}
use Rattle.record.specs.Tables.{table_meta}
use Rattle.laid.specs.Laid.{Laid}
use Rattle.mark.specs.Ops.{Ref, ref, tab, thread, Work, gray, grayagain, weak}
use Rattle.mark.specs.Words.{arena_of, list_of, colour_w}
use Rattle.modes.specs.Modes.{is_weak, weak_mode}
use Rattle.link_laws.specs.Agrees.{table_same}
use Rattle.link_laws.specs.Reads.{links_same, weak_mode_same}
use Rattle.mark_laws.specs.Apart.{Apart, Order, order}
use Rattle.mark_laws.specs.Colours.{shade_parts, named_shade}
use Rattle.mark_laws.specs.Changes.{Untouched, Up, Marked, colour_in}
use Rattle.room_laws.specs.Pends.{item_for}
use Rattle.room_laws.specs.Counts.{is_gray, is_dark}
use Rattle.room_laws.specs.Frames.{OnList, Quiet, quiet_paid}
use Rattle.room_laws.specs.Payments.{Whole}
use Rattle.reach.specs.Reached.{Reach, Link, Occupied}
use Rattle.reach.specs.Cycle.{AllWhite}
use Rattle.reach.specs.OnLists.{on_same}
use Rattle.reach.specs.Shades.{shade_alike}
use Rattle.reach.specs.Oks.{Again, Ok}
use Rattle.atomic_laws.specs.Notes.{Noted}
use Rattle.atomic_laws.specs.Alikes.{Alike}
use Rattle.atomic_laws.proofs.Alikes.{reach_alike, occupied_in}

-- The words with another number in one place.
abbrev pub stored : ℕ → ℕ → List ℕ → List ℕ
stored p n u = put p n u

-- The phase, the cursor, total, peak, estimate, threshold, debt, and what is kept while a finalizer is out.
pub record Counter (p : ℕ) : Type 0 where
  pub low : 53 ≤ p
  pub high : p < 69
  pub other : p ≢ WHITE

-- so the phase
pub phase_counter : Counter PHASE
phase_counter = record { low = omega arith; high = omega arith; other = λ e. omega (arith, e) }

-- No other word changes.
pub stored_word : (p n : ℕ) (u : List ℕ) (q : ℕ) → q ≢ p → at (stored p n u) q ≡ at u q
stored_word p n u q d = get_or-set_other u p q n 0 d

module _ (l : Lay) (ok : Laid l) (a : Apart l) (cell : ℕ) (counter : Counter cell) (n : ℕ) where
  abbrev o : Order l
  o = order l ok a

  -- an arena's fresh index is no such word
  top_off : (k : ℕ) → (arena_of l k).top + 1 ≢ cell
  top_off zero e = omega (arith, counter, e, o.top_strings)
  top_off (suc zero) e = omega (arith, counter, e, o.top_tables)
  top_off (suc (suc zero)) e = omega (arith, counter, e, o.top_functions)
  top_off (suc (suc (suc zero))) e = omega (arith, counter, e, o.top_upvalues)
  top_off (suc (suc (suc (suc zero)))) e = omega (arith, counter, e, o.top_userdata)
  top_off (suc (suc (suc (suc (suc zero))))) e = omega (arith, counter, e, o.top_threads)
  top_off (suc (suc (suc (suc (suc (suc k)))))) e = omega (arith, counter, e)

  -- No colour changes,
  pub stored_shade : (u : List ℕ) (x : Ref) → colour_w l x (stored cell n u) ≡ colour_w l x u
  stored_shade u x =
      shade_alike l ok a u (stored cell n u) x (rw (stored_word cell n u ((arena_of l x.kind).top + 1) (top_off x.kind)))
      (λ i. stored_word cell n u ((arena_of l x.kind).base + (arena_of l x.kind).slots + x.at) (λ e. omega (arith, counter, e, (colour_in l ok a x.kind x.at i).0)))
      (λ i. stored_word cell n u ((arena_of l x.kind).base + x.at) (λ e. omega (arith, counter, e, (colour_in l ok a x.kind x.at i).0)))

  -- and no list.
  pub stored_list : (u : List ℕ) (k : Work) (q : ℕ) → OnList (list_of l k) q → at (stored cell n u) q ≡ at u q
  stored_list u gray q (inl p) = stored_word cell n u q (λ e. omega (arith, counter, e, p, o.gray))
  stored_list u gray q (inr p) = stored_word cell n u q (λ e. omega (arith, counter, e, p.0, o.header, a))
  stored_list u grayagain q (inl p) = stored_word cell n u q (λ e. omega (arith, counter, e, p, o.grayagain))
  stored_list u grayagain q (inr p) = stored_word cell n u q (λ e. omega (arith, counter, e, p.0, o.header, a))
  stored_list u weak q (inl p) = stored_word cell n u q (λ e. omega (arith, counter, e, p, o.weak))
  stored_list u weak q (inr p) = stored_word cell n u q (λ e. omega (arith, counter, e, p.0, o.header, a))

  stored_named : (u : List ℕ) (k i g : ℕ) → named (arena_of l k) i g (stored cell n u) ≡ named (arena_of l k) i g u
  stored_named u k i g =
      named_shade (arena_of l k) i g (stored cell n u)
      ∙ ap (λ (c : ℕ). if_eq c 0 None (Some i)) (stored_shade u (ref k i g))
      ∙ sym (named_shade (arena_of l k) i g u)

  -- What is reached, due, kept and spared is read from other words.
  pub stored_alike : (w : List ℕ) → Alike l w (stored cell n w)
  stored_alike w = record {
    reads = record {
      header = record { word = λ q g h. stored_word cell n w q (λ e. omega (arith, counter, e, h)) };
      protos = record { word = λ q g h. high q (omega (arith, g, o.past_protos)) };
      strings = λ i e. record { word = λ q g h. high q (omega (arith, g, o.past_strings)) };
      tables = λ i e. record { word = λ q g h. high q (omega (arith, g, o.past_tables)) };
      functions = λ i e. record { word = λ q g h. high q (omega (arith, g, o.past_functions)) };
      upvalues = λ i e. record { word = λ q g h. high q (omega (arith, g, o.past_upvalues)) };
      userdata = λ i e. record { word = λ q g h. high q (omega (arith, g, o.past_userdata)) };
      threads = λ i e. record { word = λ q g h. high q (omega (arith, g, o.past_threads)) };
      string_names = λ i g. stored_named w 0 i g;
      table_names_lem = λ i g. stored_named w 1 i g;
    };
    mains = record {
      stack = record { word = λ q g h. high q (omega (arith, g, o.past_stack)) };
      opens = record { word = λ q g h. high q (omega (arith, g, o.past_opens)) };
      frames = record { word = λ q g h. high q (omega (arith, g, o.past_frames)) };
    };
    shades = stored_shade w;
    marks = λ i h. high (body_at l.userdata i + 6) (omega (arith, o.past_userdata));
  }
    where
      high : (q : ℕ) → l.boundary ≤ q → at (stored cell n w) q ≡ at w q
      high q h = stored_word cell n w q (λ e. omega (arith, counter, e, h, o.header, a))

  -- Marking is marking,
  pub stored_marked : {w u : List ℕ} → l.words ≤ length w → Marked l w u → Marked l (stored cell n w) (stored cell n u)
  stored_marked {w} {u} long m = record {
    long = length-set u cell n ∙ m.long ∙ sym (length-set w cell n);
    kept = λ q f. go q f (ℕ_discrete q cell);
    colours = λ k i h. subst (λ c. Up c (at (stored cell n u) ((arena_of l k).base + i))) (sym (same w k i h)) (subst (λ d. Up (at w ((arena_of l k).base + i)) d) (sym (same u k i h)) (m.colours k i h));
  }
    where
      same : (x : List ℕ) (k i : ℕ) → i < (arena_of l k).slots → at (stored cell n x) ((arena_of l k).base + i) ≡ at x ((arena_of l k).base + i)
      same x k i h = stored_word cell n x ((arena_of l k).base + i) (λ e. omega (arith, counter, e, (colour_in l ok a k i h).0))

      go : (q : ℕ) → Untouched l q → Dec (q ≡ cell) → at (stored cell n u) q ≡ at (stored cell n w) q
      go q f (yes e) =
          ap (at (stored cell n u)) e
          ∙ get_or-set_same u cell n 0 (omega (arith, counter, long, m.long, o.words, o.header, a))
          ∙ sym (get_or-set_same w cell n 0 (omega (arith, counter, long, o.words, o.header, a)))
          ∙ ap (at (stored cell n w)) (sym e)
      go q f (no d) = stored_word cell n u q d ∙ m.kept q f ∙ sym (stored_word cell n w q d)

  -- lists that are paid for are,
  pub stored_whole : {p t q : ℕ} {w u : List ℕ} → Whole l p t q w u → Whole l p t q (stored cell n w) (stored cell n u)
  stored_whole {w = w} {u = u} h = record {
    long = length-set u cell n ∙ h.long ∙ sym (length-set w cell n);
    mark = stored_word cell n u 52 (omega (arith, counter)) ∙ h.mark ∙ sym (stored_word cell n w 52 (omega (arith, counter)));
    paid = quiet_paid quiet h.paid;
  }
    where
      quiet : Quiet l u (stored cell n u)
      quiet = record {
        long = length-set u cell n;
        mark = stored_word cell n u 52 (omega (arith, counter));
        lists = stored_list u;
        dark = λ k d i f. ap is_dark (stored_word cell n u ((arena_of l k).base + i) (λ e. omega (arith, counter, e, (colour_in l ok a k i f).0)));
        grays = λ i f. ap is_gray (stored_word cell n u (l.tables.base + i) (λ e. omega (arith, counter, e, (colour_in l ok a 1 i f).0)));
      }

  -- the tri-colour invariant holds,
  pub stored_ok : {R R' Cov Cov' D : Ref → Type 0} {p t q : ℕ} {E : List Ref} {w b u : List ℕ} → 1 ≤ l.frames.room → l.words ≤ length w → ((x : Ref) → R x → R' x) → ((x : Ref) → Cov' x → Cov x)
      → Ok l w b R Cov D p t q E u → Ok l (stored cell n w) b R' Cov' D p t q E (stored cell n u)
  stored_ok {R} {R'} {w = w} {b = b} {u = u} one long f g c = record {
    marked = stored_marked long c.marked;
    whole = stored_whole c.whole;
    inv = record {
      sound = λ x m. there x (c.inv.sound x (subst (λ k. 3 ≤ k) (stored_shade u x) m));
      pend = λ x m k. there x (c.inv.pend x m (back x k));
      closed = λ x m. let j = subst (λ k. 3 ≤ k) (stored_shade u x) m in ⊎_elim (λ h. inl (stored_shade u x ∙ h))
          (λ h. inr (λ y i k. ⊎_elim (λ z. inl z) (λ z. inr (subst (λ d. 3 ≤ d) (sym (stored_shade u y)) z)) (h y (link x y ((c.inv.occ x).1 (one_of (colour_w l x u) j)) i) (back y k))))
          (c.inv.closed x j);
      roots = λ x m k. ⊎_elim (λ z. inl z) (λ z. inr (subst (λ d. 3 ≤ d) (sym (stored_shade u x)) z)) (c.inv.roots x (g x m) (back x k));
      occ = λ x. ((λ k. subst (λ d. 1 ≤ d) (sym (stored_shade u x)) ((c.inv.occ x).0 (back x k))), λ k. subst (λ d. 1 ≤ d) (sym (stored_shade w x)) ((c.inv.occ x).1 (subst (λ d. 1 ≤ d) (stored_shade u x) k)));
    };
    listed = λ x h. ⊎_elim (λ i. inl (i.0, on_same l.gray (item_for x) u (stored cell n u) (stored_list u gray) i.1)) (λ i. inr i) (c.listed x (sym (stored_shade u x) ∙ h));
    todo = λ x s i. subst (λ d. 3 ≤ d) (sym (stored_shade u x)) (c.todo x s (on_same l.gray (item_for x) (stored cell n u) u (λ q h. sym (stored_list u gray q h)) i));
    kept = λ x i. again x (c.kept x (on_same l.grayagain x (stored cell n u) u (λ q h. sym (stored_list u grayagain q h)) i));
  }
    where
      one_of : (k : ℕ) → 3 ≤ k → 1 ≤ k
      one_of k h = omega (arith, h)

      back : (x : Ref) → Occupied l (stored cell n w) x → Occupied l w x
      back x k = subst (λ d. 1 ≤ d) (stored_shade w x) k

      there : (x : Ref) → Reach (Link l w b) R (Occupied l w) x → Reach (Link l (stored cell n w) b) R' (Occupied l (stored cell n w)) x
      there x h = reach_alike one b (stored_alike w) f x h

      link : (x y : Ref) → Occupied l w x → Link l (stored cell n w) b x y → Link l w b x y
      link x y h m = subst (λ rs. Memᴰ y rs) (links_same (stored_alike w).reads b x (occupied_in l w x h)) m

      again : (x : Item) → Again l x u → Again l x (stored cell n u)
      again x (inl e) = inl e
      again x (inr (r, e, h)) = inr (r, e, subst (λ d. 4 ≤ d) (sym (stored_shade u (thread r))) h)

  -- and the weak list holds what it held.
  pub stored_noted : {w b u : List ℕ} → Noted l w b u → Noted l (stored cell n w) b (stored cell n u)
  stored_noted {w} {b} {u} m = record {
    tables = λ x i.
        let r = m.tables x (on_same l.weak x (stored cell n u) u (λ q h. sym (stored_list u weak q h)) i) in
        (r.0, r.1, ap is_weak (mode r.0 (within r.0 r.3)) ∙ r.2, subst (λ d. 3 ≤ d) (sym (stored_shade u (tab r.0))) r.3);
    noted = λ t h k.
        let j = subst (λ d. 4 ≤ d) (stored_shade u (tab t)) h in
        on_same l.weak (Table t) u (stored cell n u) (stored_list u weak) (m.noted t j (sym (ap is_weak (mode t (within t (three (colour_w l (tab t) u) j)))) ∙ k));
  }
    where
      three : (k : ℕ) → 4 ≤ k → 3 ≤ k
      three k h = omega (arith, h)

      within : (t : TableRef) → 3 ≤ colour_w l (tab t) u → t.0 < l.tables.slots
      within t h = let p = shade_parts l.tables t.0 t.1 u (omega (arith, h)) in omega (arith, p.0)

      mode : (t : TableRef) → t.0 < l.tables.slots → weak_mode l (table_meta (body_at l.tables t.0) (stored cell n w)) (stored cell n w) b ≡ weak_mode l (table_meta (body_at l.tables t.0) w) w b
      mode t h =
          ap (λ (x : Option TableRef). weak_mode l x (stored cell n w) b) (table_same ((stored_alike w).reads.tables t.0 h) (body_at l.tables t.0) (omega arith) (omega arith))
          ∙ weak_mode_same (stored_alike w).reads b (table_meta (body_at l.tables t.0) w)

  -- Every occupied slot is in the current white.
  pub stored_white : {w : List ℕ} → AllWhite l w → AllWhite l (stored cell n w)
  stored_white {w} f = record {
    white = λ r h. stored_shade w r ∙ f.white r (subst (λ d. 1 ≤ d) (stored_shade w r) h) ∙ sym (stored_word cell n w WHITE (λ e. counter.other (sym e)));
    low = subst (λ d. 1 ≤ d) (sym (stored_word cell n w WHITE (λ e. counter.other (sym e)))) f.low;
    high = subst (λ d. d ≤ 2) (sym (stored_word cell n w WHITE (λ e. counter.other (sym e)))) f.high;
  }
