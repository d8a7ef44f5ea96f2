-- A slot taken in the current white keeps the state, and is never refused for damage. Assumes nothing.
--     made_calm, take_count, worth_more     a slot taken: one more is counted, and worth its size
--     begun_state       its record is cleared, and its size is in the total
use Rattle.std.specs.Prelude.{◌≡◌, Bool, ◌⊎◌, ◌≢◌, Ok, Err, Result}
use Rattle.std.proofs.Math.Path.{refl, sym, subst}
use Rattle.std.proofs.Common.{ap, ◌∙◌, inl, inr, arith, ne_eqb}
use Rattle.std.proofs.Math.Bool.{false}
use Rattle.std.proofs.Math.Logic.{⊎_elim}
use mathlib.Core.List.{List, Memᴰ}
use Prim.Native.Nat.{ℕ, zero, suc, min, max, ◌+◌, ◌*◌, ◌≤◌, ◌<◌}
use Rattle.std.proofs.Math.Decide.{dec_lt, ℕ_discrete}
use Rattle.std.proofs.Math.Seq.{get_or-set_same, get_or-set_other}
use Rattle.base.specs.Ways.{le_yes, le_no}
use Rattle.base.specs.Words.{at, put, clear, more}
use Rattle.base.specs.Heap.{heap}
use Rattle.arena.specs.declared.Untaken.{Untaken}
use Rattle.arena.specs.declared.Untaken.TheVariants.{NoneFree}
use Rattle.arena.specs.Slots.{Room, known, colour, fresh, count, take_slot}
use Rattle.arena_laws.specs.Chain.{WellFormed}
use Rattle.arena_laws.specs.Words.{clear_out}
use Rattle.arena_laws.specs.Changes.{popped_is, opened_is}
use Rattle.arena_laws.specs.Keeps.{occupied_most}
use Rattle.arena_laws.specs.Frames.{Untouched, kept_fresh, kept_colour, frame_keeps}
use Rattle.arena_laws.specs.Takes.{Made, Takes, pops, opens, fills, take_cases}
use Rattle.layout.specs.declared.Lay.{Lay}
use Rattle.layout.specs.Places.{PROTOTYPES, DAMAGE, WHITE, TOTAL, PEAK, INTERRUPTED}
use Rattle.laid.specs.Laid.{Laid}
use Rattle.counters.specs.Count.{track}
use Rattle.making.specs.Making.{begun}
use Rattle.record.specs.Fields.{body_at}
use Rattle.mark.specs.Ops.{Work, gray, grayagain, weak}
use Rattle.mark.specs.Words.{arena_of, list_of}
use Rattle.mark_laws.specs.Apart.{Apart, Order, order, arena_kind, arena_lists}
use Rattle.room_laws.specs.Counts.{is_gray, is_dark, dark_not}
use Rattle.room_laws.specs.Frames.{OnList, Quiet, quiet_paid}
use Rattle.sweep_laws.specs.Places.{Rows, six_room, top_is, body_past, low_outside, header_outside, cells_outside}
use Rattle.state_laws.specs.State.{worth, Parted, State, state_parted, Fixed, size, mark, queue, Calm, mains_same, nested_same, lists_same, calm_state}
use Rattle.state_laws.specs.Plains.{pacing, Nearly, nearly_then, Plainly, plainly_none, plainly_put, past_clear, nearly_calm, aside_near}
use Rattle.state_laws.specs.Plains as plains
use Rattle.state_laws.specs.Takes.{kind_size}

-- An unknown colour is free: dark and gray are told from the colour as it is read.
read_dark : (c : ℕ) → is_dark (known c) ≡ is_dark c
read_dark c = go (dec_lt 4 c)
  where
    go : Dec (4 < c) → is_dark (known c) ≡ is_dark c
    go (yes h) = ap is_dark (sym (le_no c 4 c 0 0 h refl)) ∙ dark_not 0 (omega arith) (omega arith) ∙ sym (dark_not c (omega (arith, h)) (omega (arith, h)))
    go (no h) = ap is_dark (sym (le_yes c 4 c 0 c (omega (arith, h)) refl))

read_gray : (c : ℕ) → is_gray (known c) ≡ is_gray c
read_gray c = go (dec_lt 4 c)
  where
    go : Dec (4 < c) → is_gray (known c) ≡ is_gray c
    go (yes h) = ap is_gray (sym (le_no c 4 c 0 0 h refl)) ∙ sym (ne_eqb c 3 (λ e. omega (arith, e, h)))
    go (no h) = ap is_gray (sym (le_yes c 4 c 0 c (omega (arith, h)) refl))

module _ (l : Lay) (ok : Laid l) (a : Apart l) (r : Rows l) where
  abbrev o : Order l
  o = order l ok a

  -- A slot of arena k was taken in the current white.
  module _ (k : ℕ) (g : k ≤ 5) (n i gen : ℕ) {w u b : List ℕ} (s : State l (heap w b)) (m : Made (arena_of l k) (at w WHITE) n w u i gen) where
    -- the cells of another arena stay
    other : (j : ℕ) → j ≤ 5 → j ≢ k → Untouched (arena_of l j) w u
    other j h d = record {
      long = m.long;
      header = λ x p q. m.outside x (header_outside l ok a r k j g h (λ e. d (sym e)) x p q);
      cells = λ x p q. m.outside x (cells_outside l ok a r k j g h (λ e. d (sym e)) x p q);
    }

    low_word : (x : ℕ) → x < 73 → at u x ≡ at w x
    low_word x h = m.outside x (low_outside l ok a r k x g h)

    fixed : (x : ℕ) → Fixed x → at u x ≡ at w x
    fixed x (size f) = low_word x (omega (arith, f))
    fixed x (mark f h) = low_word x (omega (arith, h))
    fixed x (queue f) = low_word x (omega (arith, f))

    arenas : (j : ℕ) → j ≤ 5 → WellFormed (arena_of l j) u
    arenas j h = go (ℕ_discrete j k)
      where
        go : Dec (j ≡ k) → WellFormed (arena_of l j) u
        go (yes e) = subst (λ (x : ℕ). WellFormed (arena_of l x) u) (sym e) m.keeps
        go (no d) = (frame_keeps (other j h d) (s.arenas j h)).0

    grows : (j : ℕ) → j ≤ 5 → fresh (arena_of l j) w ≤ fresh (arena_of l j) u
    grows j h = go (ℕ_discrete j k)
      where
        go : Dec (j ≡ k) → fresh (arena_of l j) w ≤ fresh (arena_of l j) u
        go (yes e) = subst (λ (x : ℕ). fresh (arena_of l x) w ≤ fresh (arena_of l x) u) (sym e) m.grows
        go (no d) = omega (arith, kept_fresh (other j h d))

    -- A colour stays, or it was free and is the current white.
    colours : (j x : ℕ) → j ≤ 5 → x < (arena_of l j).slots
        → (colour (arena_of l j) x u ≡ colour (arena_of l j) x w) ⊎ ((colour (arena_of l j) x w ≡ 0) × (colour (arena_of l j) x u ≡ at w WHITE))
    colours j x h p = go (ℕ_discrete j k)
      where
        here : x < (arena_of l k).slots → Dec (x ≡ i) → (colour (arena_of l k) x u ≡ colour (arena_of l k) x w) ⊎ ((colour (arena_of l k) x w ≡ 0) × (colour (arena_of l k) x u ≡ at w WHITE))
        here q (yes e) = inr (ap (λ (y : ℕ). colour (arena_of l k) y w) e ∙ m.was, ap (λ (y : ℕ). colour (arena_of l k) y u) e ∙ m.colour)
        here q (no d) = inl (m.colours x q d)

        go : Dec (j ≡ k) → (colour (arena_of l j) x u ≡ colour (arena_of l j) x w) ⊎ ((colour (arena_of l j) x w ≡ 0) × (colour (arena_of l j) x u ≡ at w WHITE))
        go (yes e) =
            subst (λ (y : ℕ). x < (arena_of l y).slots → (colour (arena_of l y) x u ≡ colour (arena_of l y) x w) ⊎ ((colour (arena_of l y) x w ≡ 0) × (colour (arena_of l y) x u ≡ at w WHITE))) (sym e)
            (λ q. here q (ℕ_discrete x i)) p
        go (no d) = inl (kept_colour (other j h d) x p)

    -- No list is touched, and no slot is dark that was not.
    list_word : (q : ℕ) → l.gray.base ≤ q → q < l.boundary → at u q ≡ at w q
    list_word q f h =
        m.outside q (record {
          header = inr (omega (arith, f, g, top_is l ok a r k g, o.header, a));
          cells = inr (omega (arith, f, arena_lists l o k g));
          bodies = inl (omega (arith, h, body_past l ok a r k g));
        })

    lists : (t : Work) (q : ℕ) → OnList (list_of l t) q → at u q ≡ at w q
    lists gray q (inl e) = low_word q (omega (arith, e, o.gray))
    lists gray q (inr h) = list_word q h.0 (omega (arith, h.1, a))
    lists grayagain q (inl e) = low_word q (omega (arith, e, o.grayagain))
    lists grayagain q (inr h) = list_word q (omega (arith, h.0, a)) (omega (arith, h.1, a))
    lists weak q (inl e) = low_word q (omega (arith, e, o.weak))
    lists weak q (inr h) = list_word q (omega (arith, h.0, a)) (omega (arith, h.1, a))

    alike : (f : ℕ → Bool) → ((c : ℕ) → f (known c) ≡ f c) → f 0 ≡ false → f (at w WHITE) ≡ false → (j x : ℕ) → x < (arena_of l j).slots
        → f (at u ((arena_of l j).base + x)) ≡ f (at w ((arena_of l j).base + x))
    alike f read none white j x p =
        ⊎_elim
        (λ e. sym (read (at u ((arena_of l j).base + x))) ∙ ap f e ∙ read (at w ((arena_of l j).base + x)))
        (λ e. sym (read (at u ((arena_of l j).base + x))) ∙ ap f e.1 ∙ white ∙ sym none ∙ ap f (sym e.0) ∙ read (at w ((arena_of l j).base + x)))
        (colours j x (arena_kind l o j x p) p)

    quiet : Quiet l w u
    quiet = record {
      long = m.long;
      mark = low_word DAMAGE (omega arith);
      lists = lists;
      dark = λ j d x p. alike is_dark read_dark (dark_not 0 (omega arith) (omega arith)) (dark_not (at w WHITE) (λ e. omega (arith, e, s.high)) (λ e. omega (arith, e, s.high))) j x p;
      grays = λ x p. alike is_gray read_gray refl (ne_eqb (at w WHITE) 3 (λ e. omega (arith, e, s.high))) 1 x p;
    }

    made_calm : Calm l w u
    made_calm = record {
      long = m.long;
      fixed = fixed;
      arenas = arenas;
      grows = grows;
      colours = λ d j x h p. ⊎_elim (λ e. inl e) (λ e. inr e.1) (colours j x h p);
      paid = λ e. quiet_paid quiet (s.paid e);
      lists = lists_same ok a w u (λ x f h. low_word x (omega (arith, h))) s.lists;
    }

    -- the counts of the other arenas stay
    other_count : (j : ℕ) → j ≤ 5 → j ≢ k → count (arena_of l j) u ≡ count (arena_of l j) w
    other_count j h d = (other j h d).header ((arena_of l j).top + 2) (omega arith) (omega arith)

  -- One slot more is counted.
  take_count : (k : ℕ) → k ≤ 5 → (n i gen : ℕ) {w b : List ℕ} → State l (heap w b) → (take_slot (arena_of l k) (at w WHITE) n w).0 ≡ Ok (i, gen)
      → count (arena_of l k) (take_slot (arena_of l k) (at w WHITE) n w).1 ≡ count (arena_of l k) w + 1
  take_count k g n i gen {w} {b} s e = go (take_cases (arena_of l k) (at w WHITE) n w room v s.low (omega (arith, s.high)))
    where
      room : Room (arena_of l k) w
      room = six_room l ok a r w s.long k g

      v : WellFormed (arena_of l k) w
      v = s.arenas k g

      few : count (arena_of l k) w ≤ 4096
      few = omega (arith, v.counts, occupied_most (arena_of l k) w, room.slots)

      next : (x : ℕ) → x ≡ more (count (arena_of l k) w) → x ≡ count (arena_of l k) w + 1
      next x e = omega (arith, e, few)

      counted : Result (ℕ × ℕ) Untaken × List ℕ → ℕ
      counted x = count (arena_of l k) x.1

      go : Takes (arena_of l k) (at w WHITE) n w room v s.low (omega (arith, s.high)) → count (arena_of l k) (take_slot (arena_of l k) (at w WHITE) n w).1 ≡ count (arena_of l k) w + 1
      go (pops j rest f q) =
          let m = (v.is j).0 (subst (λ (x : List ℕ). Memᴰ j x) (sym f) (Memᴰ.head refl)) in
          next _ (ap counted q ∙ (popped_is (arena_of l k) j w room (omega (arith, m.0, v.within)) (at w WHITE) n).count)
      go (opens f h q) = next _ (ap counted q ∙ (opened_is (arena_of l k) (fresh (arena_of l k) w) w room h (at w WHITE) n).count)
      go (fills q f) = absurd (never (sym e ∙ ap (λ (x : Result (ℕ × ℕ) Untaken × List ℕ). x.0) q))
        where
          never : ◌≡◌ {A = Result (ℕ × ℕ) Untaken} (Ok (i, gen)) (Err NoneFree) → ⊥
          never p =
              let z : ◌≡◌ {A = ℕ} 0 1 = cc in
              omega (arith, z)

  -- what the slots are worth then
  pub worth_more : (k d : ℕ) → k ≤ 5 → (w u : List ℕ) → count (arena_of l k) u + d ≡ count (arena_of l k) w → ((j : ℕ) → j ≤ 5 → j ≢ k → count (arena_of l j) u ≡ count (arena_of l j) w)
      → worth l u + d * kind_size k ≡ worth l w
  worth_more zero d g w u e f = omega (arith, e, f 1 (omega arith) (omega arith), f 2 (omega arith) (omega arith), f 3 (omega arith) (omega arith), f 4 (omega arith) (omega arith), f 5 (omega arith) (omega arith))
  worth_more (suc zero) d g w u e f = omega (arith, e, f 0 (omega arith) (omega arith), f 2 (omega arith) (omega arith), f 3 (omega arith) (omega arith), f 4 (omega arith) (omega arith), f 5 (omega arith) (omega arith))
  worth_more (suc (suc zero)) d g w u e f = omega (arith, e, f 0 (omega arith) (omega arith), f 1 (omega arith) (omega arith), f 3 (omega arith) (omega arith), f 4 (omega arith) (omega arith), f 5 (omega arith) (omega arith))
  worth_more (suc (suc (suc zero))) d g w u e f = omega (arith, e, f 0 (omega arith) (omega arith), f 1 (omega arith) (omega arith), f 2 (omega arith) (omega arith), f 4 (omega arith) (omega arith), f 5 (omega arith) (omega arith))
  worth_more (suc (suc (suc (suc zero)))) d g w u e f = omega (arith, e, f 0 (omega arith) (omega arith), f 1 (omega arith) (omega arith), f 2 (omega arith) (omega arith), f 3 (omega arith) (omega arith), f 5 (omega arith) (omega arith))
  worth_more (suc (suc (suc (suc (suc zero))))) d g w u e f = omega (arith, e, f 0 (omega arith) (omega arith), f 1 (omega arith) (omega arith), f 2 (omega arith) (omega arith), f 3 (omega arith) (omega arith), f 4 (omega arith) (omega arith))
  worth_more (suc (suc (suc (suc (suc (suc k)))))) d g w u e f = absurd (let z : ⊥ = omega (arith, g) in z)

  pub body : Parted l → (k i : ℕ) → k ≤ 5 → l.stack.base ≤ body_at (arena_of l k) i
  body q k i g = more l.stack.base (arena_of l k).bodies (i * (arena_of l k).stride) (q.bodies k g)
    where
      more : (x y z : ℕ) → x ≤ y → x ≤ y + z
      more x y z f = omega (arith, f)

  -- A slot is taken, its record cleared, and its size is in the total.
  module _ (k : ℕ) (g : k ≤ 5) (n i gen : ℕ) {w b : List ℕ} (s : State l (heap w b)) (e : (take_slot (arena_of l k) (at w WHITE) n w).0 ≡ Ok (i, gen))
      (m : Made (arena_of l k) (at w WHITE) n w (take_slot (arena_of l k) (at w WHITE) n w).1 i gen) (fits : at w TOTAL + kind_size k ≤ 2147483647) where
    abbrev u : List ℕ
    u = (take_slot (arena_of l k) (at w WHITE) n w).1

    abbrev c : List ℕ
    c = clear (body_at (arena_of l k) i) n (take_slot (arena_of l k) (at w WHITE) n w).1

    pub begun_state : State l (heap (begun (arena_of l k) (kind_size k) n i u) b)
    unfolding track
    begun_state =
        let p : Plainly l u c = past_clear l ok a (body_at (arena_of l k) i) n (body (state_parted s) k i g) plainly_none in
        let total : ℕ = min (at c TOTAL + kind_size k) 4294967295 in
        let t : List ℕ = put TOTAL total c in
        let v : List ℕ = put PEAK (max (at c PEAK) total) t in
        let q : Plainly l t v = plainly_put l ok a PEAK _ (pacing (omega arith) (omega arith)) plainly_none in
        let near : Nearly l u v = nearly_then p.near (nearly_then (aside_near l ok a TOTAL total (plains.total refl) c) q.near) in
        let was : at c TOTAL ≡ at w TOTAL = p.aside TOTAL (plains.total refl) ∙ low_word k g n i gen s m TOTAL (omega arith) in
        let now : at v TOTAL ≡ at w TOTAL + kind_size k =
        q.aside TOTAL (plains.total refl) ∙ get_or-set_same c TOTAL total 0 (omega (arith, s.long, m.long, p.near.long, o.words, o.header, a)) ∙ sum (at c TOTAL) was in
        let same : (x : ℕ) → x < 14 → at v x ≡ at w x = λ x h. get_or-set_other t PEAK x _ 0 (λ z. omega (arith, z, h)) ∙ get_or-set_other c TOTAL x total 0 (λ z. omega (arith, z, h)) ∙ cleared x (omega (arith, h)) in
        calm_state ok s (nearly_calm l ok a r near (made_calm k g n i gen s m))
        (record {
          out = λ d. q.aside INTERRUPTED (plains.out refl) ∙ get_or-set_other c TOTAL INTERRUPTED total 0 (omega arith) ∙ cleared INTERRUPTED (omega arith) ∙ s.out d;
          mains = mains_same w v (λ x f h. same x h) s.mains;
          sum = record {
            total = worthy (at v TOTAL) (at w TOTAL) (worth l w) (worth l v) (kind_size k) now s.sum.total (worth_more k 1 g v w (sym (counted k g ∙ take_count k g n i gen s e)) (λ j h d. sym (counted j h ∙ other_count k g n i gen s m j h d)));
            most = omega (arith, now, fits);
          };
          nested = nested_same ok a s v (same PROTOTYPES (omega arith))
              (λ x f h. get_or-set_other t PEAK x _ 0 (λ z. omega (arith, z, f, o.header, a)) ∙ get_or-set_other c TOTAL x total 0 (λ z. omega (arith, z, f, o.header, a)) ∙ untouched x f h);
        })
        refl
      where
        sum : (x : ℕ) → x ≡ at w TOTAL → min (x + kind_size k) 4294967295 ≡ at w TOTAL + kind_size k
        sum x e = omega (arith, e, fits)

        past : l.stack.base ≤ body_at (arena_of l k) i
        past = body (state_parted s) k i g

        cleared : (x : ℕ) → x < 73 → at c x ≡ at w x
        cleared x h = clear_out (body_at (arena_of l k) i) n u x (inl (omega (arith, h, past, o.past_stack, o.header, a))) ∙ low_word k g n i gen s m x h

        untouched : (x : ℕ) → l.boundary ≤ x → x < l.stack.base → at c x ≡ at w x
        untouched x f h =
            clear_out (body_at (arena_of l k) i) n u x (inl (omega (arith, h, past)))
            ∙ m.outside x (record {
              header = inr (omega (arith, f, g, top_is l ok a r k g, o.header, a));
              cells = inr (omega (arith, f, arena_lists l o k g, a));
              bodies = inl (omega (arith, h, (state_parted s).bodies k g));
            })

        counted : (j : ℕ) → j ≤ 5 → count (arena_of l j) (begun (arena_of l k) (kind_size k) n i u) ≡ count (arena_of l j) u
        counted j h =
            let t = top_is l ok a r j h in
            get_or-set_other (put TOTAL (min (at c TOTAL + kind_size k) 4294967295) c) PEAK ((arena_of l j).top + 2) _ 0 (λ z. omega (arith, z, t))
            ∙ get_or-set_other c TOTAL ((arena_of l j).top + 2) _ 0 (λ z. omega (arith, z, t))
            ∙ clear_out (body_at (arena_of l k) i) n u ((arena_of l j).top + 2) (inl (omega (arith, h, t, past, o.past_stack, o.header, a)))

        worthy : (x y z t d : ℕ) → x ≡ y + d → y ≡ z → z + 1 * d ≡ t → x ≡ t
        worthy x y z t d e f g = omega (arith, e, f, g)
