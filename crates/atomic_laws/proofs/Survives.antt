-- What the atomic phase leaves in the old white: exactly what is to be freed. From a heap at Pause with every occupied slot in
-- the current white and an empty queue; the roots are marked, any number of steps are made, then the atomic phase. Assumes nothing.
--     header_shade, low_shade, flipped_shade, begun_shade     what the flip, the clearing and the end leave of the colours
--     white_or                  before the flip an occupied slot is marked, or in the current white
--     held_spared, spared_held  the strings that take the new white are exactly the spared ones
--     atomic_exact              after the atomic phase an occupied slot is not in the old white exactly if it is kept or spared
use Rattle.std.specs.Prelude.{◌≡◌, refl, ◌⊎◌, ◌↔◌, ◌≢◌, ℕ, zero, suc, ◌+◌, ◌-◌, ◌*◌, ◌≤◌, ◌<◌, length}
use Rattle.std.proofs.Common.{sym, ap, subst, ◌∙◌, inl, inr, ⊎_elim, arith, length-set}
use mathlib.Core.List.{List, [], Memᴰ}
use Rattle.std.proofs.Math.Decide.{ℕ_discrete}
use Rattle.std.proofs.Math.Seq.{get_or-set_other}
use Rattle.base.specs.Ways.{eq_yes, eq_no}
use Rattle.base.specs.Words.{at, put}
use Rattle.arena.specs.Slots.{used}
use Rattle.value.specs.declared.TableRef.{TableRef}
use Rattle.layout.specs.declared.Lay.{Lay}
use Rattle.layout.specs.Places.{PHASE, WHITE, CURSOR_ARENA, CURSOR_SLOT, TOTAL, ESTIMATE}
use Rattle.lists.specs.declared.Item.TheVariants.{Table}
use Rattle.lists.specs.Lists.{length_of, item_at, cleared}
use Rattle.lists.proofs.Laws.{item_found}
use Rattle.record.specs.Fields.{body_at}
use Rattle.laid.specs.Laid.{Laid}
use Rattle.mark.specs.Ops.{Ref, tab, weak, other_white}
use Rattle.mark.specs.Words.{arena_of, colour_w}
use Rattle.separate.specs.Separation.{separated}
use Rattle.clearing.specs.Strings.{keep_all}
use Rattle.clearing.specs.Entries.{clear_all, clear_weak_tables}
use Rattle.atomic.specs.Atomic.{marked, finished, flipped, begun, atomic}
use Rattle.mark_laws.specs.Apart.{Apart, Order, order, arena_kind, arena_header, arena_lists}
use Rattle.mark_laws.specs.Colours.{shade_parts}
use Rattle.mark_laws.specs.Changes.{counters, Up}
use Rattle.mark_laws.specs.Stays.{colour_rises}
use Rattle.room_laws.specs.Tallies.{Ample}
use Rattle.room_laws.specs.Frames.{OnList}
use Rattle.room_laws.proofs.Payments.{whole_long}
use Rattle.room_laws.proofs.Queues.{queue_count}
use Rattle.room_laws.specs.Flips.{low_none, cleared_low}
use Rattle.reach.specs.Reached.{Occupied, Root}
use Rattle.reach.specs.Cycle.{AllWhite, rooted, advances}
use Rattle.reach.specs.OnLists.{on_same}
use Rattle.reach.specs.Shades.{shade_alike, cleared_shade}
use Rattle.reach.specs.Oks.{Ok}
use Rattle.reach.specs.Exact.{None}
use Rattle.reach.proofs.Exact.{start_ok, advances_ok, marked_ok}
use Rattle.atomic_laws.specs.Kept.{KeptRoot, Kept, table_strings, Spared}
use Rattle.atomic_laws.specs.Bodies.{Bodies, flags_reads, marked_reads}
use Rattle.atomic_laws.specs.Separates.{Sorted}
use Rattle.atomic_laws.proofs.Dues.{sorted, shade_apart, occupied_back}
use Rattle.atomic_laws.proofs.Finishes.{finished_ok, finished_exact}
use Rattle.atomic_laws.specs.Notes.{Noted}
use Rattle.atomic_laws.proofs.Notings.{rooted_noted, advances_noted, marked_noted, weak_kept, kept_weak}
use Rattle.atomic_laws.specs.Spares.{whitens, held_by, held}
use Rattle.atomic_laws.proofs.Spares.{whitens_cases, whitens_in, each_out, each_in, keep_all_lem, strings_same}

-- The other white is white, and another.
pub other_white_lem : (c : ℕ) → 1 ≤ c → c ≤ 2 → (1 ≤ other_white c) × (other_white c ≤ 4) × (other_white c ≢ c)
other_white_lem c f g = go (ℕ_discrete c 1)
  where
    go : Dec (c ≡ 1) → (1 ≤ other_white c) × (other_white c ≤ 4) × (other_white c ≢ c)
    go (yes e) = let k : 2 ≡ other_white c = eq_yes c 1 2 1 2 e refl in (omega (arith, k), omega (arith, k), λ z. omega (arith, k, z, e))
    go (no d) = let k : 1 ≡ other_white c = eq_no c 1 2 1 1 d refl in (omega (arith, k), omega (arith, k), λ z. omega (arith, k, z, d))

module _ (l : Lay) (ok : Laid l) (a : Apart l) where
  abbrev o : Order l
  o = order l ok a

  -- where the fresh indices lie
  top_in : (k i : ℕ) → i < (arena_of l k).slots → (71 < (arena_of l k).top + 1) × ((arena_of l k).top + 1 < 91)
  top_in zero i h = (omega (arith, o.top_strings), omega (arith, o.top_strings))
  top_in (suc zero) i h = (omega (arith, o.top_tables), omega (arith, o.top_tables))
  top_in (suc (suc zero)) i h = (omega (arith, o.top_functions), omega (arith, o.top_functions))
  top_in (suc (suc (suc zero))) i h = (omega (arith, o.top_upvalues), omega (arith, o.top_upvalues))
  top_in (suc (suc (suc (suc zero)))) i h = (omega (arith, o.top_userdata), omega (arith, o.top_userdata))
  top_in (suc (suc (suc (suc (suc zero))))) i h = (omega (arith, o.top_threads), omega (arith, o.top_threads))
  top_in (suc (suc (suc (suc (suc (suc k)))))) i h = absurd (let z : ⊥ = omega (arith, h) in z)

  -- Words that agree from word 72 on to the boundary have the same colours,
  pub low_shade : (u v : List ℕ) → ((q : ℕ) → 71 < q → q < l.boundary → at v q ≡ at u q) → (x : Ref) → 1 ≤ colour_w l x u → colour_w l x v ≡ colour_w l x u
  low_shade u v s x h =
      let p = shade_parts (arena_of l x.kind) x.at x.gen u h in
      let i : x.at < (arena_of l x.kind).slots = omega (arith, p.0) in
      let t = top_in x.kind x.at i in
      let k = arena_kind l o x.kind x.at i in
      let g = arena_header l o x.kind k in
      let e = arena_lists l o x.kind k in
      shade_alike l ok a u v x (rw (s ((arena_of l x.kind).top + 1) t.0 (omega (arith, t.1, o.header, a))))
      (λ j. s ((arena_of l x.kind).base + (arena_of l x.kind).slots + x.at) (omega (arith, g)) (omega (arith, i, e, a)))
      (λ j. s ((arena_of l x.kind).base + x.at) (omega (arith, g)) (omega (arith, i, e, a)))

  -- and so a word of the counters changes none.
  header_shade : (q n : ℕ) (u : List ℕ) → q < 69 → (x : Ref) → 1 ≤ colour_w l x u → colour_w l x (put q n u) ≡ colour_w l x u
  header_shade q n u h x g = low_shade u (put q n u) (λ p f k. get_or-set_other u q p n 0 (λ e. omega (arith, e, f, h))) x g

  -- The end of the phase changes no colour,
  begun_shade : (n : ℕ) (u : List ℕ) (x : Ref) → 1 ≤ colour_w l x u → colour_w l x (begun n u) ≡ colour_w l x u
  unfolding begun
  begun_shade n u x g =
      low_shade u (put PHASE 2 (put CURSOR_SLOT 0 (put CURSOR_ARENA 0 (put ESTIMATE (at u TOTAL - 48 * n) u))))
      (λ p f k. get_or-set_other (put CURSOR_SLOT 0 (put CURSOR_ARENA 0 (put ESTIMATE (at u TOTAL - 48 * n) u))) PHASE p 2 0 (λ e. omega (arith, e, f))
      ∙ get_or-set_other (put CURSOR_ARENA 0 (put ESTIMATE (at u TOTAL - 48 * n) u)) CURSOR_SLOT p 0 0 (λ e. omega (arith, e, f))
      ∙ get_or-set_other (put ESTIMATE (at u TOTAL - 48 * n) u) CURSOR_ARENA p 0 0 (λ e. omega (arith, e, f))
      ∙ get_or-set_other u ESTIMATE p (at u TOTAL - 48 * n) 0 (λ e. omega (arith, e, f))) x g

  -- nor does the clearing of entries.
  cleared_entries : (b : List ℕ) (old : ℕ) (u : List ℕ) → l.words ≤ length u → (x : Ref) → 1 ≤ colour_w l x u → colour_w l x (cleared l.weak (clear_all l b old u)) ≡ colour_w l x u
  cleared_entries b old u long x g =
      let s = cleared_low l ok a u old b u low_none in
      cleared_shade l ok a weak (clear_all l b old u) (omega (arith, long, s.long)) x
      ∙ low_shade u (clear_all l b old u) (λ q f h. s.word q h) x g

module _ (l : Lay) (ok : Laid l) (a : Apart l) (am : Ample l) (y : Bodies l) (w b : List ℕ) (long : l.words ≤ length w) (f : AllWhite l w) (none : length_of l.queue w ≡ 0)
    (u : List ℕ) (c : Ok l w b (Root l w b) (Root l w b) None 0 0 0 [] u) (e : length_of l.gray u ≡ 0) (n : Noted l w b u) where
  abbrev ord : Order l
  ord = order l ok a

  abbrev pub z : List ℕ
  z = (separated l u).1

  -- the words before the flip
  abbrev pub F : List ℕ
  F = (finished l b u).1

  pub s : Sorted l (at u WHITE) u (used l.userdata u) z
  s = sorted l ok a am y w b long f none u c e

  pub z_long : l.words ≤ length z
  z_long = omega (arith, whole_long l ok a am w long c.whole, s.held.long)

  pub done : Ok l z b (KeptRoot l w b) (KeptRoot l w b) None 0 0 0 [] F
  done = (finished_ok l ok a am y w b long f none u c e).0

  pub F_long : l.words ≤ length F
  F_long = whole_long l ok a am z z_long done.whole

  pub same_white : at F WHITE ≡ at w WHITE
  same_white =
      done.marked.kept WHITE (counters (omega arith) (omega arith))
      ∙ s.held.kept WHITE (omega (arith, queue_count l ok)) (inl (omega (arith, ord.header, a))) (omega (arith, ord.header, a))
      ∙ c.marked.kept WHITE (counters (omega arith) (omega arith))

  -- the words with the new white
  abbrev pub new : ℕ
  new = other_white (at F WHITE)

  abbrev pub G : List ℕ
  G = put WHITE new F

  pub G_long : l.words ≤ length G
  G_long = omega (arith, F_long, length-set F WHITE new)

  pub whites : (1 ≤ new) × (new ≤ 4) × (new ≢ at F WHITE)
  whites = other_white_lem (at F WHITE) (omega (arith, same_white, f.low)) (omega (arith, same_white, f.high))

  -- Occupied slots are the same before the collection and at the flip.
  pub occupied_then : (x : Ref) → Occupied l w x ↔ (1 ≤ colour_w l x F)
  occupied_then x =
      let p = occupied_back l ok a am y w b long f none u c e x in
      ((λ h. (done.inv.occ x).0 (p.0 h)), λ h. p.1 ((done.inv.occ x).1 h))

  pub G_shade : (x : Ref) → 1 ≤ colour_w l x F → colour_w l x G ≡ colour_w l x F
  G_shade x h = header_shade l ok a WHITE new F (omega arith) x h

  -- Before the flip an occupied slot is marked, or in the current white.
  pub white_or : (x : Ref) → Occupied l w x → (3 ≤ colour_w l x F) ⊎ (colour_w l x F ≡ at w WHITE)
  white_or x h = go (colour_rises ord done.marked x)
    where
      before : (colour_w l x u ≡ colour_w l x w) ⊎ (3 ≤ colour_w l x u) → colour_w l x F ≡ colour_w l x u → (3 ≤ colour_w l x F) ⊎ (colour_w l x F ≡ at w WHITE)
      before (inl p) q = inr (q ∙ p ∙ f.white x h)
      before (inr p) q = inl (subst (λ k. 3 ≤ k) (sym q) p)

      rises : Up (colour_w l x w) (colour_w l x u) → (colour_w l x u ≡ colour_w l x w) ⊎ (3 ≤ colour_w l x u)
      rises (inl p) = inl p
      rises (inr p) = inr p.2

      three : (k : ℕ) → k ≡ 3 → 3 ≤ k
      three k p = omega (arith, p)

      go : Up (colour_w l x z) (colour_w l x F) → (3 ≤ colour_w l x F) ⊎ (colour_w l x F ≡ at w WHITE)
      go (inr p) = inl p.2
      go (inl p) =
          ⊎_elim (λ d. inl (three (colour_w l x F) (p ∙ d.1))) (λ q. before (rises (colour_rises ord c.marked x)) (p ∙ q))
          (shade_apart l ok a am y w b long f none u c e x)

  -- A table's strings are the same before the collection and at the flip.
  strings_then : (t : TableRef) → t.0 < l.tables.slots → table_strings (body_at l.tables t.0) G ≡ table_strings (body_at l.tables t.0) w
  strings_then t h =
      strings_same (record { word = λ q g k. get_or-set_other F WHITE q new 0 (λ p. omega (arith, p, g, ord.past_tables, ord.header, a)) })
      ∙ strings_same ((marked_reads l ok a done.marked).tables t.0 h)
      ∙ strings_same ((flags_reads l ok a y s.held (omega arith) s.flags).tables t.0 h)
      ∙ strings_same ((marked_reads l ok a c.marked).tables t.0 h)

  weak_words : (q : ℕ) → OnList l.weak q → at G q ≡ at F q
  weak_words q (inl p) = get_or-set_other F WHITE q new 0 (λ k. omega (arith, k, p, ord.weak))
  weak_words q (inr p) = get_or-set_other F WHITE q new 0 (λ k. omega (arith, k, p.0, ord.header, a))

  table_in_lem : (t : TableRef) → 3 ≤ colour_w l (tab t) F → t.0 < l.tables.slots
  table_in_lem t h = let p = shade_parts l.tables t.0 t.1 F (omega (arith, h)) in omega (arith, p.0)

  -- what a marked table on the list holds
  holds : (t : TableRef) → 3 ≤ colour_w l (tab t) F → held_by l G (Table t) ≡ table_strings (body_at l.tables t.0) w
  holds t h =
      let d : colour_w l (tab t) G ≢ 0 = λ k. some (colour_w l (tab t) F) (colour_w l (tab t) G) h (G_shade (tab t) (omega (arith, h))) k in
      sym (eq_no (colour_w l (tab t) G) 0 [] (table_strings (body_at l.tables t.0) G) _ d refl) ∙ strings_then t (table_in_lem t h)
    where
      some : (p q : ℕ) → 3 ≤ p → q ≡ p → q ≡ 0 → ⊥
      some p q h g k = omega (arith, h, g, k)

  -- The strings that take the new white are spared,
  pub held_spared : (x : Ref) → Memᴰ x (held l G) → 1 ≤ colour_w l x G → Occupied l w x → Spared l w b x
  held_spared x m h k =
      let r = each_out (λ j. held_by l G (item_at l.weak j G)) (length_of l.weak G) 0 x m in
      let j = r.0 in
      let p : j < length_of l.weak G = plain j (length_of l.weak G) r.2 in
      let i = weak_kept l ok a am y w b long f none u c e n (item_at l.weak j G) (on_same l.weak (item_at l.weak j G) G F (λ q g. sym (weak_words q g)) (j, p, sym (item_found l.weak j G p))) in
      record {
        table = i.0;
        kept = i.3;
        weak = i.2;
        inside = subst (λ rs. Memᴰ x rs) (holds i.0 i.4) (subst (λ g. Memᴰ x (held_by l G g)) i.1 r.3);
        occupied = k;
      }
    where
      plain : (j m : ℕ) → j < 0 + m → j < m
      plain j m h = omega (arith, h)

  -- and what is spared is among them.
  spared_held : (x : Ref) → Spared l w b x → Memᴰ x (held l G)
  spared_held x d =
      let t = d.table in
      let m = (finished_exact l ok a am y w b long f none u c e (tab t)).1 d.kept in
      let i = on_same l.weak (Table t) F G weak_words (kept_weak l ok a am y w b long f none u c e n t d.kept d.weak) in
      each_in (λ j. held_by l G (item_at l.weak j G)) (length_of l.weak G) 0 i.0 x (omega arith) (plain i.0 (length_of l.weak G) i.1)
      (subst (λ g. Memᴰ x (held_by l G g)) (sym (item_found l.weak i.0 G i.1 ∙ i.2)) (subst (λ rs. Memᴰ x rs) (sym (holds t m)) d.inside))
    where
      plain : (j m : ℕ) → j < m → j < 0 + m
      plain j m h = omega (arith, h)

  -- after the strings are painted
  abbrev pub H : List ℕ
  H = keep_all l new G

  pub H_long : l.words ≤ length H
  H_long =
      let k = keep_all_lem l ok a new G in
      omega (arith, G_long, k.1.long, ap length k.0)

  pub H_shade : (x : Ref) → colour_w l x H ≡ colour_w l x (whitens l new (held l G) G)
  H_shade x = ap (λ (v : List ℕ). colour_w l x v) (keep_all_lem l ok a new G).0

  pub H_occupied : (x : Ref) → 1 ≤ colour_w l x F → 1 ≤ colour_w l x H
  H_occupied x h =
      subst (λ k. 1 ≤ k) (sym (H_shade x))
      (⊎_elim (λ p. subst (λ k. 1 ≤ k) (sym p.2) whites.0) (λ p. subst (λ k. 1 ≤ k) (sym (p ∙ G_shade x h)) h) (whitens_cases l ok a new whites.0 whites.1 (held l G) G G_long x))

  -- The flip, the clearing and the end leave these colours.
  flipped_shade : (k : ℕ) (x : Ref) → 1 ≤ colour_w l x F → colour_w l x (begun k (flipped l b F)) ≡ colour_w l x H
  unfolding flipped clear_weak_tables
  flipped_shade k x h =
      let g = cleared_entries l ok a b (at F WHITE) H H_long x (H_occupied x h) in
      begun_shade l ok a k (cleared l.weak (clear_all l b (at F WHITE) H)) x (subst (λ m. 1 ≤ m) (sym g) (H_occupied x h)) ∙ g

  -- After the flip an occupied slot is not in the old white exactly if a root or a due userdata reaches it, or a kept weak
  -- table holds it as a string.
  pub flipped_exact : (k : ℕ) (x : Ref) → Occupied l w x → (colour_w l x (begun k (flipped l b F)) ≢ at w WHITE) ↔ (Kept l w b x ⊎ Spared l w b x)
  flipped_exact k x i =
      let h : 1 ≤ colour_w l x F = (occupied_then x).0 i in
      let exact = finished_exact l ok a am y w b long f none u c e x in
      let g : 1 ≤ colour_w l x G = subst (λ m. 1 ≤ m) (sym (G_shade x h)) h in
      let is : colour_w l x (begun k (flipped l b F)) ≡ colour_w l x (whitens l new (held l G) G) = flipped_shade k x h ∙ H_shade x in (
        (λ d. ⊎_elim
            (λ p. inr (held_spared x p.0 g i))
            (λ p. ⊎_elim (λ m. inl (exact.0 m)) (λ m. absurd (d (is ∙ p ∙ G_shade x h ∙ m))) (white_or x i))
            (whitens_cases l ok a new whites.0 whites.1 (held l G) G G_long x)),
        λ d z. ⊎_elim
            (λ m. ⊎_elim (λ p. whites.2 (sym p.2 ∙ sym is ∙ z ∙ sym same_white)) (λ p. high (colour_w l x F) (at w WHITE) (exact.1 m) (sym (G_shade x h) ∙ sym p ∙ sym is ∙ z) f.high) (whitens_cases l ok a new whites.0 whites.1 (held l G) G G_long x))
            (λ m. whites.2 (sym (whitens_in l ok a new whites.0 whites.1 (held l G) G G_long x (spared_held x m) g) ∙ sym is ∙ z ∙ sym same_white)) d,
      )
    where
      high : (p q : ℕ) → 3 ≤ p → p ≡ q → q ≤ 2 → ⊥
      high p q h g k = omega (arith, h, g, k)

-- After the atomic phase: from a heap at Pause with every occupied slot in the current white and an empty queue, after the roots
-- are marked, any number of steps are made and the atomic step is done, an occupied slot is not in the old white exactly if a
-- root or a due userdata reaches it, or a kept weak table holds it as a string.
pub atomic_exact : (l : Lay) → Laid l → Apart l → Ample l → Bodies l → (w b : List ℕ) → l.words ≤ length w → AllWhite l w → length_of l.queue w ≡ 0
    → (n : ℕ) (r : Ref) → Occupied l w r → (colour_w l r (atomic l b (advances l b n (rooted l w))) ≢ at w WHITE) ↔ (Kept l w b r ⊎ Spared l w b r)
unfolding atomic
atomic_exact l ok a am y w b long f none n r i =
    let c₀ = advances_ok l ok a am w b long n (rooted l w) (start_ok l ok a am w b long f) in
    let d = marked_ok l ok a am w b long (advances l b n (rooted l w)) c₀ in
    let m = marked_noted l ok a am w b long (advances l b n (rooted l w)) c₀ (advances_noted l ok a am w b long n (rooted l w) (start_ok l ok a am w b long f) (rooted_noted l ok a am w b long f)) in
    flipped_exact l ok a am y w b long f none (marked l b (advances l b n (rooted l w))) d.0 d.1 m _ r i
