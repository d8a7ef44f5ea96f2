-- Both barriers, and a string found while old white, keep the state. Assumes nothing.
--     painted-calm      what changes colours of occupied slots, during Propagate
--     back_state, forward_state     the barriers: they act during Propagate alone, and stay within the rooms
--     found_state       a string takes the current white
use Rattle.std.specs.Prelude.{◌≡◌, refl, ◌⊎◌, ◌≢◌, List, [], ◌∷◌, ℕ, ◌+◌, ◌≤◌, ◌<◌}
use Rattle.std.proofs.Math.Path.{sym}
use Rattle.std.proofs.Common.{subst, ap, ◌∙◌, inl, inr, arith, length-set, get_or-set_same, get_or-set_other}
use Rattle.std.proofs.Math.Decide.{ℕ_discrete}
use Rattle.base.specs.Ways.{if_eq, eq_yes, eq_no}
use Rattle.base.specs.Words.{at}
use Rattle.base.specs.Heap.{heap}
use Rattle.arena.specs.Slots.{known, colour, set_colour, gen, used}
use Rattle.arena_laws.specs.Words.{le_is}
use Rattle.value.specs.declared.TableRef.{TableRef}
use Rattle.value.specs.declared.Value.{Value}
use Rattle.layout.specs.declared.Lay.{Lay}
use Rattle.layout.specs.Places.{PROTOTYPES, DAMAGE, PHASE, WHITE, TOTAL, INTERRUPTED}
use Rattle.laid.specs.Laid.{Laid}
use Rattle.lists.specs.declared.Item.TheVariants as item
use Rattle.mark.specs.Ops.{Ref, ref, tab, grayagain, other_white}
use Rattle.mark.specs.Words.{arena_of, colour_w, paint_w, ops}
use Rattle.propagate.specs.Barriers.{barrier_back, barrier_forward}
use Rattle.mark_laws.specs.Apart.{Apart, Order, order}
use Rattle.mark_laws.specs.Moves.{still}
use Rattle.mark_laws.specs.Changes.{Untouched, first, counters, tops, slot, past, Marked, moves_marked, colour_in}
use Rattle.mark_laws.specs.Barriers.{forward_moves, Turned, back_turned}
use Rattle.room_laws.specs.Tallies.{tally, Paid, Ample}
use Rattle.room_laws.specs.Payments.{Whole}
use Rattle.room_laws.proofs.Cycles.{back_whole, forward_whole}
use Rattle.room_laws.specs.Frames.{quiet_paid}
use Rattle.room_laws.specs.Paints.{paint_quiet}
use Rattle.atomic_laws.proofs.Dues.{shade_colour}
use Rattle.atomic_laws.specs.Spares.{whitens}
use Rattle.atomic_laws.proofs.Survives.{other_white_lem}
use Rattle.sweep_laws.specs.Places.{Rows, top_is}
use Rattle.sweep_laws.specs.Repaints.{Tint, Repainted, repainted_fresh, repainted_keeps, marked_repainted, whitens_repainted}
use Rattle.make_strings.specs.Making.{kept}
use Rattle.state_laws.specs.State.{Lists, State, Fixed, size, mark, queue, mains_same, sum_same, nested_same, lists_same, calm_state}
use Rattle.state_laws.specs.Plains.{eq_both}
use Rattle.state_laws.specs.Rooms.{paint_lists, push_lists, moves_lists}

module _ (l : Lay) (ok : Laid l) (a : Apart l) (r : Rows l) (am : Ample l) where
  abbrev o : Order l
  o = order l ok a

  -- Marking writes none of the fixed words but the damage mark.
  pub fixed_word : (w u : List ℕ) → ((q : ℕ) → Untouched l q → at u q ≡ at w q) → at u DAMAGE ≡ at w DAMAGE → (x : ℕ) → Fixed x → at u x ≡ at w x
  fixed_word w u h e x (size f) = h x (first (omega (arith, f)))
  fixed_word w u h e x (mark f g) = go (ℕ_discrete x DAMAGE)
    where
      go : Dec (x ≡ DAMAGE) → at u x ≡ at w x
      go (yes z) = ap (at u) z ∙ e ∙ ap (at w) (sym z)
      go (no d) = h x (counters (omega (arith, f, d)) (omega (arith, g)))
  fixed_word w u h e x (queue f) = h x (tops (omega (arith, f)) (omega (arith, f)))

  -- During Propagate colours of occupied slots may change, if the lists stay paid for.
  pub painted_state : {w b u : List ℕ} → at w PHASE ≡ 1 → Repainted l w u → ((q : ℕ) → Untouched l q → at u q ≡ at w q) → at u DAMAGE ≡ at w DAMAGE → Paid (tally l u) 0 0 0 → Lists l u
      → State l (heap w b) → State l (heap u b)
  painted_state {w} {b} {u} p m kept e paid lists s =
      calm_state ok s
      (record {
        long = m.long;
        fixed = fixed_word w u kept e;
        arenas = λ k g. (repainted_keeps l ok a r m k g (s.arenas k g)).0;
        grows = λ k g. omega (arith, repainted_fresh l ok a r m k g);
        colours = λ d. absurd (d p);
        paid = λ z. paid;
        lists = lists;
      })
      (record {
        out = λ d. kept INTERRUPTED (counters (omega arith) (omega arith)) ∙ s.out d;
        mains = mains_same w u (λ x f g. kept x (first (omega (arith, g)))) s.mains;
        sum = sum_same l w u (kept TOTAL (counters (omega arith) (omega arith))) (λ k g. kept ((arena_of l k).top + 2) (tops (omega (arith, top_is l ok a r k g)) (omega (arith, g, top_is l ok a r k g)))) s.sum;
        nested = nested_same ok a s u (kept PROTOTYPES (first (omega arith))) (λ x f g. kept x (past (omega (arith, f, a))));
      })
      refl

  -- what is paid for now
  whole : {w b : List ℕ} → at w PHASE ≡ 1 → State l (heap w b) → Whole l 0 0 0 w w
  whole p s = record { long = refl; mark = refl; paid = s.paid p }

  -- The backward barrier.
  pub back_state : (t : TableRef) {w b : List ℕ} → State l (heap w b) → State l (heap (barrier_back (ops l) t w) b)
  unfolding barrier_back
  back_state t {w} {b} s = go (ℕ_discrete (at w PHASE) 1)
    where
      off : at w PHASE ≢ 1 → barrier_back (ops l) t w ≡ w
      off d = sym (eq_no (at w PHASE) 1 _ w w d refl)

      m : Turned l w (barrier_back (ops l) t w)
      m = back_turned l ok a t w s.long

      back_lists : Lists l (barrier_back (ops l) t w)
      back_lists =
          eq_both (λ (x : List ℕ). Lists l x) (at w PHASE) 1 _ w
          (λ e. eq_both (λ (x : List ℕ). Lists l x) (colour_w l (tab t) w) 4 _ w
          (λ f. push_lists l ok a grayagain (item.Table t) (paint_w l (tab t) 3 w) (omega (arith, s.long, length-set w (l.tables.base + t.0) 3)) (paint_lists l ok a (tab t) 3 w (omega (arith, f)) s.lists))
          (λ f. s.lists))
          (λ e. s.lists)

      tint : {c d : ℕ} → (d ≡ c) ⊎ ((c ≡ 4) × (d ≡ 3)) → Tint c d
      tint (inl e) = inl e
      tint (inr e) = inr (omega (arith, e.0), omega (arith, e.0), omega (arith, e.1), omega (arith, e.1))

      go : Dec (at w PHASE ≡ 1) → State l (heap (barrier_back (ops l) t w) b)
      go (no d) = subst (λ (u : List ℕ). State l (heap u b)) (sym (off d)) s
      go (yes p) =
          let h = back_whole l ok a am w s.long t (whole p s) in
          painted_state p
          (record {
            long = m.long;
            header = λ q f g. m.kept q (tops (omega (arith, f)) g);
            cells = λ k q f g. m.kept q (slot k f g);
            colours = λ k i f. tint (m.colours k i f);
          })
          m.kept h.mark h.paid back_lists s

  -- The forward barrier.
  pub forward_state : (parent : ℕ) (v : Value) {w b : List ℕ} → State l (heap w b) → State l (heap (barrier_forward (ops l) l parent v w) b)
  unfolding barrier_forward
  forward_state parent v {w} {b} s = go (ℕ_discrete (at w PHASE) 1)
    where
      off : at w PHASE ≢ 1 → barrier_forward (ops l) l parent v w ≡ w
      off d = sym (eq_no (at w PHASE) 1 _ w w d refl)

      m : Marked l w (barrier_forward (ops l) l parent v w)
      m = moves_marked l ok a (forward_moves l parent v (still refl)) s.long

      go : Dec (at w PHASE ≡ 1) → State l (heap (barrier_forward (ops l) l parent v w) b)
      go (no d) = subst (λ (u : List ℕ). State l (heap u b)) (sym (off d)) s
      go (yes p) =
          let h = forward_whole l ok a am w s.long parent v (whole p s) in
          painted_state p (marked_repainted l ok a r m) m.kept h.mark h.paid (moves_lists l ok a (forward_moves l parent v (still refl)) s.long s.lists) s

  -- A string in slot i, found while old white, takes the current white.
  pub found_state : (i : ℕ) {w b : List ℕ} → i < used l.strings w → State l (heap w b) → State l (heap (kept l.strings i w) b)
  unfolding kept whitens
  found_state i {w} {b} h s = go (ℕ_discrete (colour l.strings i w) (other_white (at w WHITE)))
    where
      x : Ref
      x = ref 0 i (gen l.strings i w)

      u : List ℕ
      u = set_colour l.strings i (at w WHITE) w

      shade_is : colour_w l (ref 0 i (gen l.strings i w)) w ≡ colour l.strings i w
      shade_is = shade_colour l.strings i (gen l.strings i w) w h refl

      old : colour l.strings i w ≡ other_white (at w WHITE) → 1 ≤ colour_w l (ref 0 i (gen l.strings i w)) w
      old e = omega (arith, shade_is, e, (other_white_lem (at w WHITE) s.low s.high).0)

      paint : colour l.strings i w ≡ other_white (at w WHITE) → Repainted l w (set_colour l.strings i (at w WHITE) w)
      paint e =
          subst (λ (v : List ℕ). Repainted l w v) (sym (eq_no (colour_w l (ref 0 i (gen l.strings i w)) w) 0 w (paint_w l (ref 0 i (gen l.strings i w)) (at w WHITE) w) _ (λ z. omega (arith, z, old e)) refl))
          (whitens_repainted l ok a r (at w WHITE) s.low (omega (arith, s.high)) (ref 0 i (gen l.strings i w) ∷ []) w s.long)

      slot_in_lem : i < l.strings.slots
      slot_in_lem = omega (arith, h)

      word : (q : ℕ) → q ≢ l.strings.base + i → at (set_colour l.strings i (at w WHITE) w) q ≡ at w q
      word q d = get_or-set_other w (l.strings.base + i) q (at w WHITE) 0 d

      place : (91 ≤ l.strings.base + i) × (l.strings.base + i < l.gray.base)
      place = colour_in l ok a 0 i slot_in_lem

      fixed : (q : ℕ) → Fixed q → at (set_colour l.strings i (at w WHITE) w) q ≡ at w q
      fixed q (size f) = word q (λ e. omega (arith, f, e, place.0))
      fixed q (mark f g) = word q (λ e. omega (arith, g, e, place.0))
      fixed q (queue f) = word q (λ e. omega (arith, f, e, place.0))

      now : at (set_colour l.strings i (at w WHITE) w) (l.strings.base + i) ≡ at w WHITE
      now = get_or-set_same w (l.strings.base + i) (at w WHITE) 0 (omega (arith, s.long, place.1, a, o.words))

      colours : (k j : ℕ) → (colour (arena_of l k) j (set_colour l.strings i (at w WHITE) w) ≡ colour (arena_of l k) j w) ⊎ (colour (arena_of l k) j (set_colour l.strings i (at w WHITE) w) ≡ at w WHITE)
      colours k j = pick (ℕ_discrete ((arena_of l k).base + j) (l.strings.base + i))
        where
          pick : Dec ((arena_of l k).base + j ≡ l.strings.base + i)
              → (colour (arena_of l k) j (set_colour l.strings i (at w WHITE) w) ≡ colour (arena_of l k) j w) ⊎ (colour (arena_of l k) j (set_colour l.strings i (at w WHITE) w) ≡ at w WHITE)
          pick (yes e) = inr (ap (λ (q : ℕ). known (at (set_colour l.strings i (at w WHITE) w) q)) e ∙ ap (λ (c : ℕ). known c) now ∙ le_is (at w WHITE) 4 (omega (arith, s.high)))
          pick (no d) = inl (ap (λ (c : ℕ). known c) (word ((arena_of l k).base + j) d))

      go : Dec (colour l.strings i w ≡ other_white (at w WHITE)) → State l (heap (if_eq (colour l.strings i w) (other_white (at w WHITE)) (set_colour l.strings i (at w WHITE) w) w) b)
      go (no d) = subst (λ (v : List ℕ). State l (heap v b)) (eq_no (colour l.strings i w) (other_white (at w WHITE)) (set_colour l.strings i (at w WHITE) w) w w d refl) s
      go (yes e) =
          subst (λ (v : List ℕ). State l (heap v b)) (eq_yes (colour l.strings i w) (other_white (at w WHITE)) (set_colour l.strings i (at w WHITE) w) w (set_colour l.strings i (at w WHITE) w) e refl)
          (calm_state ok s
          (record {
            long = length-set w (l.strings.base + i) (at w WHITE);
            fixed = fixed;
            arenas = λ k g. (repainted_keeps l ok a r (paint e) k g (s.arenas k g)).0;
            grows = λ k g. omega (arith, repainted_fresh l ok a r (paint e) k g);
            colours = λ d k j g f. colours k j;
            paid = λ z. quiet_paid (paint_quiet l ok a (ref 0 i (gen l.strings i w)) (at w WHITE) w s.long (old e) (λ n. n)) (s.paid z);
            lists = lists_same ok a w (set_colour l.strings i (at w WHITE) w) (λ q f g. word q (λ e. omega (arith, e, g, place.0))) s.lists;
          })
          (record {
            out = λ d. word INTERRUPTED (λ e. omega (arith, e, place.0)) ∙ s.out d;
            mains = mains_same w (set_colour l.strings i (at w WHITE) w) (λ q f g. word q (λ e. omega (arith, e, g, place.0))) s.mains;
            sum = sum_same l w (set_colour l.strings i (at w WHITE) w) (word TOTAL (λ e. omega (arith, e, place.0)))
                (λ k g. word ((arena_of l k).top + 2) (λ e. omega (arith, e, place.0, g, top_is l ok a r k g))) s.sum;
            nested = nested_same ok a s (set_colour l.strings i (at w WHITE) w) (word PROTOTYPES (λ e. omega (arith, e, place.0))) (λ x f g. word x (λ e. omega (arith, e, f, place.1, a)));
          })
          refl)
