-- Marking and the atomic phase change of an arena nothing but colours of occupied slots, which stay occupied: so it stays
-- well-formed, with the same chain, and every slot has its generation and extent. Assumes nothing.
--     Tint, Repainted, repainted_then     such a change; one after the other
--     repainted_keeps, repainted_free     the arena stays well-formed; a free slot stays free, and no other becomes free
--     marked_repainted, sorted_repainted, whitens_repainted, low_repainted     marking, separation, spared strings, the rest
--     atomic_repainted                    the atomic phase, and where it leaves phase, white and cursor
use Rattle.std.specs.Prelude.{◌≡◌, Bool, true, false, ◌⊎◌, ◌≢◌, ◌↔◌}
use Rattle.std.proofs.Math.Path.{refl, ap}
use Rattle.std.proofs.Common.{sym, subst, ◌∙◌, inl, inr, arith, length-set, get_or-set_other}
use mathlib.Core.List.{List, [], ◌∷◌}
use Prim.Native.Nat.{ℕ, min, ◌+◌, ◌-◌, ◌*◌, ◌≤◌, ◌<◌}
use Rattle.std.proofs.Math.Decide.{ℕ_discrete, dec_lt}
use Rattle.std.proofs.Math.ListN.{length}
use Rattle.std.proofs.Math.Seq.{get_or-set_same}
use Rattle.base.specs.Ways.{if_eq, eq_yes, eq_no, le_no}
use Rattle.base.specs.Words.{at, put, bounded}
use Rattle.arena.specs.Slots.{known, colour, gen, extent, head, fresh, used, occupied}
use Rattle.arena_laws.specs.Words.{puts_length, puts_far, puts_at, le_is}
use Rattle.arena_laws.specs.Counts.{one, one_occupied, tally, tally_same, colours, occupied_is}
use Rattle.arena_laws.specs.Chain.{Chain, WellFormed}
use Rattle.arena_laws.specs.Keeps.{chain_frame}
use Rattle.layout.specs.declared.Lay.{Lay}
use Rattle.layout.specs.Places.{PHASE, WHITE, CURSOR_ARENA, CURSOR_SLOT, TOTAL, ESTIMATE}
use Rattle.lists.specs.Lists.{length_of, cleared}
use Rattle.laid.specs.Laid.{Laid}
use Rattle.mark.specs.Ops.{Ref, weak, other_white}
use Rattle.mark.specs.Words.{arena_of, colour_w, paint_w}
use Rattle.separate.specs.Separation.{is_due, separated}
use Rattle.clearing.specs.Strings.{keep_all}
use Rattle.clearing.specs.Entries.{clear_all, clear_weak_tables}
use Rattle.atomic.specs.Atomic.{finished, flipped, begun}
use Rattle.mark_laws.specs.Apart.{Apart, Order, order, arena_kind, arena_before, arena_header, arena_lists}
use Rattle.mark_laws.specs.Colours.{shade_parts, shade_most}
use Rattle.mark_laws.specs.Moves.{still, emptied}
use Rattle.mark_laws.specs.Changes.{counters, tops, slot, Up, Marked, moves_marked, colour_in}
use Rattle.room_laws.specs.Tallies.{Ample}
use Rattle.room_laws.proofs.Queues.{queue_count}
use Rattle.room_laws.specs.Flips.{Low, low_none, cleared_low}
use Rattle.reach.specs.Reached.{Root}
use Rattle.reach.specs.Cycle.{AllWhite}
use Rattle.reach.specs.Oks.{Ok}
use Rattle.reach.specs.Exact.{None}
use Rattle.atomic_laws.specs.Kept.{KeptRoot}
use Rattle.atomic_laws.specs.Bodies.{Bodies}
use Rattle.atomic_laws.specs.Separates.{Sorted}
use Rattle.atomic_laws.proofs.Dues.{due_parts, sorted}
use Rattle.atomic_laws.proofs.Finishes.{finished_ok}
use Rattle.atomic_laws.specs.Spares.{whitens, Tinted, held}
use Rattle.atomic_laws.proofs.Spares.{keep_all_lem}
use Rattle.atomic_laws.proofs.Survives.{other_white_lem}
use Rattle.sweep_laws.specs.Places.{Rows, top_is}

-- A colour stays, or an occupied slot's colour becomes another one.
abbrev pub Tint : ℕ → ℕ → Type 0
Tint c d = (d ≡ c) ⊎ ((1 ≤ c) × (c ≤ 4) × (1 ≤ d) × (d ≤ 4))

tint_then : {c d e : ℕ} → Tint c d → Tint d e → Tint c e
tint_then (inl p) (inl q) = inl (q ∙ p)
tint_then (inl p) (inr q) = inr (omega (arith, p, q.0), omega (arith, p, q.1), q.2, q.3)
tint_then (inr p) (inl q) = inr (p.0, p.1, omega (arith, q, p.2), omega (arith, q, p.3))
tint_then (inr p) (inr q) = inr (p.0, p.1, q.2, q.3)

-- a slot is occupied then exactly if it was
some : (c : ℕ) → 1 ≤ c → c ≤ 4 → known c ≢ 0
some c f g e = omega (arith, f, sym (le_is c 4 g) ∙ e)

tint_free : {c d : ℕ} → Tint c d → (known c ≡ 0) ↔ (known d ≡ 0)
tint_free (inl p) = ((λ e. ap (λ (x : ℕ). known x) p ∙ e), λ e. ap (λ (x : ℕ). known x) (sym p) ∙ e)
tint_free {c} {d} (inr p) = ((λ e. absurd (some c p.0 p.1 e)), λ e. absurd (some d p.2 p.3 e))

tint_one : {c d : ℕ} → Tint c d → one (known d) ≡ one (known c)
tint_one (inl p) = ap (λ (x : ℕ). one (known x)) p
tint_one {c} {d} (inr p) = one_occupied (known d) (some d p.2 p.3) ∙ sym (one_occupied (known c) (some c p.0 p.1))

-- The words w became u: of the arenas at most colours of occupied slots changed, and none to free.
pub record Repainted (l : Lay) (w u : List ℕ) : Type 0 where
  pub long : length u ≡ length w
  pub header : (q : ℕ) → 73 ≤ q → q < 91 → at u q ≡ at w q
  pub cells : (k q : ℕ) → (arena_of l k).base + (arena_of l k).slots ≤ q → q < (arena_of l k).base + 4 * (arena_of l k).slots → at u q ≡ at w q
  pub colours : (k i : ℕ) → i < (arena_of l k).slots → Tint (at w ((arena_of l k).base + i)) (at u ((arena_of l k).base + i))

-- One change after the other.
pub repainted_then : {l : Lay} {w u v : List ℕ} → Repainted l w u → Repainted l u v → Repainted l w v
repainted_then f g = record {
  long = g.long ∙ f.long;
  header = λ q p r. g.header q p r ∙ f.header q p r;
  cells = λ k q p r. g.cells k q p r ∙ f.cells k q p r;
  colours = λ k i p. tint_then (f.colours k i p) (g.colours k i p);
}

module _ (l : Lay) (ok : Laid l) (a : Apart l) (r : Rows l) where
  abbrev o : Order l
  o = order l ok a

  module _ {w u : List ℕ} (s : Repainted l w u) (k : ℕ) (g : k ≤ 5) where
    -- fresh index, generations and extents stay
    pub repainted_fresh : fresh (arena_of l k) u ≡ fresh (arena_of l k) w
    repainted_fresh = s.header ((arena_of l k).top + 1) (omega (arith, top_is l ok a r k g)) (omega (arith, g, top_is l ok a r k g))

    pub repainted_gen : (i : ℕ) → i < (arena_of l k).slots → gen (arena_of l k) i u ≡ gen (arena_of l k) i w
    repainted_gen i h = s.cells k ((arena_of l k).base + (arena_of l k).slots + i) (omega arith) (omega (arith, h))

    pub repainted_extent : (i : ℕ) → i < (arena_of l k).slots → extent (arena_of l k) i u ≡ extent (arena_of l k) i w
    repainted_extent i h = ap (λ (x : ℕ). bounded x (arena_of l k).stride) (s.cells k ((arena_of l k).base + 3 * (arena_of l k).slots + i) (omega arith) (omega (arith, h)))

    -- a slot is free exactly if it was
    pub repainted_free : (i : ℕ) → i < (arena_of l k).slots → (colour (arena_of l k) i w ≡ 0) ↔ (colour (arena_of l k) i u ≡ 0)
    repainted_free i h = tint_free (s.colours k i h)

    repainted_count : occupied (arena_of l k) u ≡ occupied (arena_of l k) w
    repainted_count =
        let e : used (arena_of l k) u ≡ used (arena_of l k) w = ap (λ (n : ℕ). min n (arena_of l k).slots) repainted_fresh in
        occupied_is (arena_of l k) u
        ∙ ap (tally (colours (arena_of l k) u) 0) e
        ∙ tally_same (colours (arena_of l k) w) (colours (arena_of l k) u) (used (arena_of l k) w) 0 (λ j p q. tint_one (s.colours k j (omega (arith, q))))
        ∙ sym (occupied_is (arena_of l k) w)

    -- The arena stays well-formed, with the same chain.
    pub repainted_keeps : (v : WellFormed (arena_of l k) w) → (v' : WellFormed (arena_of l k) u) × (v'.free ≡ v.free)
    repainted_keeps v = (
      record {
        within = omega (arith, repainted_fresh, v.within);
        free = v.free;
        chain = subst (λ (x : ℕ). Chain (arena_of l k) u v.free x) (sym (s.header (arena_of l k).top (omega (arith, top_is l ok a r k g)) (omega (arith, g, top_is l ok a r k g))))
            (chain_frame (arena_of l k) w u v.free (head (arena_of l k) w)
            (λ j m. s.cells k ((arena_of l k).base + 2 * (arena_of l k).slots + j) (omega arith) (omega (arith, ((v.is j).0 m).0, v.within))) v.chain);
        once = v.once;
        is = λ j. (
          (λ m. let q = (v.is j).0 m in (omega (arith, q.0, repainted_fresh), (repainted_free j (omega (arith, q.0, v.within))).0 q.1)),
          (λ q. (v.is j).1 (omega (arith, q.0, repainted_fresh), (repainted_free j (omega (arith, q.0, repainted_fresh, v.within))).1 q.1)),
        );
        unused = λ j p q. (repainted_free j q).0 (v.unused j (omega (arith, p, repainted_fresh)) q);
        counts = s.header ((arena_of l k).top + 2) (omega (arith, top_is l ok a r k g)) (omega (arith, g, top_is l ok a r k g)) ∙ v.counts ∙ sym repainted_count;
      },
      refl,
    )

  -- Marking is such a change,
  pub marked_repainted : {w u : List ℕ} → Marked l w u → Repainted l w u
  marked_repainted m = record {
    long = m.long;
    header = λ q p g. m.kept q (tops (omega (arith, p)) g);
    cells = λ k q p g. m.kept q (slot k p g);
    colours = λ k i h. go (m.colours k i h);
  }
    where
      go : {c d : ℕ} → Up c d → Tint c d
      go (inl p) = inl p
      go {c} {d} (inr p) = inr (p.0, omega (arith, p.1, p.3), omega (arith, p.2), p.3)

  -- and so is what leaves all words from 73 on up to the boundary.
  pub low_repainted : {w u : List ℕ} → length u ≡ length w → ((q : ℕ) → 73 ≤ q → q < l.boundary → at u q ≡ at w q) → Repainted l w u
  low_repainted e h = record {
    long = e;
    header = λ q p g. h q p (omega (arith, g, o.header, a));
    cells = λ k q p g.
        let d = arena_kind l o k 0 (omega (arith, p, g)) in
        h q (omega (arith, p, arena_header l o k d)) (omega (arith, g, arena_lists l o k d, a));
    colours = λ k i p.
        let x = colour_in l ok a k i p in
        inl (h ((arena_of l k).base + i) (omega (arith, x.0)) (omega (arith, x.1, a)));
  }

  -- Separation makes due userdata gray.
  pub sorted_repainted : {c n : ℕ} {w u : List ℕ} → 1 ≤ c → c ≤ 2 → n ≤ l.userdata.slots → Sorted l c w n u → Repainted l w u
  sorted_repainted {c} {n} {w} {u} low high most s = record {
    long = s.held.long;
    header = λ q p g. s.held.kept q (omega (arith, p, queue_count l ok)) (inl (omega (arith, g, o.header, a))) (omega (arith, g, o.header, a));
    cells = λ k q p g. cell k q p g (ℕ_discrete k 4);
    colours = λ k i h. tint k i h (ℕ_discrete k 4);
  }
    where
      -- a word of an arena's cells that is no colour of userdata
      off : (q : ℕ) → 91 ≤ q → q < l.gray.base → (q < l.userdata.base) ⊎ (l.userdata.base + l.userdata.slots ≤ q) → at u q ≡ at w q
      off q f g h = s.held.kept q (omega (arith, f, queue_count l ok)) h (omega (arith, g, a))

      other : (k q : ℕ) → k ≤ 5 → k ≢ 4 → (arena_of l k).base ≤ q → q < (arena_of l k).base + 4 * (arena_of l k).slots → at u q ≡ at w q
      other k q i d f g = off q (omega (arith, f, arena_header l o k i)) (omega (arith, g, arena_lists l o k i)) (out (dec_lt k 4))
        where
          out : Dec (k < 4) → (q < l.userdata.base) ⊎ (l.userdata.base + l.userdata.slots ≤ q)
          out (yes z) = inl (omega (arith, g, arena_before l o k 4 z (omega arith)))
          out (no z) = inr (omega (arith, f, arena_before l o 4 k (omega (arith, z, d)) i))

      cell : (k q : ℕ) → (arena_of l k).base + (arena_of l k).slots ≤ q → q < (arena_of l k).base + 4 * (arena_of l k).slots → Dec (k ≡ 4) → at u q ≡ at w q
      cell k q p g (no d) = other k q (arena_kind l o k 0 (omega (arith, p, g))) d (omega (arith, p)) g
      cell k q p g (yes e) =
          let x : (arena_of l k).base ≡ l.userdata.base = ap (λ (j : ℕ). (arena_of l j).base) e in
          let y : (arena_of l k).slots ≡ l.userdata.slots = ap (λ (j : ℕ). (arena_of l j).slots) e in
          off q (omega (arith, p, x, arena_header l o 4 (omega arith))) (omega (arith, g, x, y, arena_lists l o 4 (omega arith))) (inr (omega (arith, p, x, y)))

      gray : (i : ℕ) → i < l.userdata.slots → (d : Bool) → is_due l i c w ≡ d → Dec (i < n) → Tint (at w (l.userdata.base + i)) (at u (l.userdata.base + i))
      gray i h true e (yes f) =
          let z = (due_parts l i c w e).0 in
          let t : at w (l.userdata.base + i) ≤ 4 = small (at w (l.userdata.base + i)) (omega (arith, z, low)) in
          let x : at w (l.userdata.base + i) ≡ c = sym (le_is (at w (l.userdata.base + i)) 4 t) ∙ z in
          let y = s.grayed i f e in
          inr (omega (arith, x, low), t, omega (arith, y), omega (arith, y))
        where
          small : (x : ℕ) → 1 ≤ known x → x ≤ 4
          small x f = go (dec_lt 4 x)
            where
              go : Dec (4 < x) → x ≤ 4
              go (yes g) = absurd (let z : ⊥ = omega (arith, f, le_no x 4 x 0 0 g refl) in z)
              go (no g) = omega (arith, g)
      gray i h true e (no f) = inl (s.others i h (inl (omega (arith, f))))
      gray i h false e f = inl (s.others i h (inr e))

      tint : (k i : ℕ) → i < (arena_of l k).slots → Dec (k ≡ 4) → Tint (at w ((arena_of l k).base + i)) (at u ((arena_of l k).base + i))
      tint k i h (no d) = inl (other k ((arena_of l k).base + i) (arena_kind l o k i h) d (omega arith) (omega (arith, h)))
      tint k i h (yes e) =
          subst (λ (k : ℕ). i < (arena_of l k).slots → Tint (at w ((arena_of l k).base + i)) (at u ((arena_of l k).base + i))) (sym e)
          (λ h. gray i h (is_due l i c w) refl (dec_lt i n)) h

  -- A slot that a handle names is painted.
  paint_repainted : (c : ℕ) → 1 ≤ c → c ≤ 4 → (x : Ref) (u : List ℕ) → l.words ≤ length u → Repainted l u (if_eq (colour_w l x u) 0 u (paint_w l x c u))
  paint_repainted c low high x u long = go (ℕ_discrete (colour_w l x u) 0)
    where
      go : Dec (colour_w l x u ≡ 0) → Repainted l u (if_eq (colour_w l x u) 0 u (paint_w l x c u))
      go (yes e) = subst (λ (v : List ℕ). Repainted l u v) (eq_yes (colour_w l x u) 0 u (paint_w l x c u) u e refl) (low_repainted refl (λ q p g. refl))
      go (no d) =
          subst (λ (v : List ℕ). Repainted l u v) (eq_no (colour_w l x u) 0 u (paint_w l x c u) (paint_w l x c u) d refl)
          (record {
            long = length-set u ((arena_of l x.kind).base + x.at) c;
            header = λ q p g. get_or-set_other u ((arena_of l x.kind).base + x.at) q c 0 (λ e. omega (arith, e, g, (colour_in l ok a x.kind x.at i).0));
            cells = λ k q p g. get_or-set_other u ((arena_of l x.kind).base + x.at) q c 0 (apart k q p g (ℕ_discrete k x.kind));
            colours = λ k j h. tint k j h (ℕ_discrete ((arena_of l k).base + j) ((arena_of l x.kind).base + x.at));
          })
        where
          named : 1 ≤ colour_w l x u
          named = more (colour_w l x u) d
            where
              more : (n : ℕ) → n ≢ 0 → 1 ≤ n
              more n d = omega (arith, d)

          p : (x.at < used (arena_of l x.kind) u) × (gen (arena_of l x.kind) x.at u ≡ x.gen) × (colour_w l x u ≡ at u ((arena_of l x.kind).base + x.at))
          p = shade_parts (arena_of l x.kind) x.at x.gen u named

          i : x.at < (arena_of l x.kind).slots
          i = omega (arith, p.0)

          apart : (k q : ℕ) → (arena_of l k).base + (arena_of l k).slots ≤ q → q < (arena_of l k).base + 4 * (arena_of l k).slots → Dec (k ≡ x.kind) → q ≢ (arena_of l x.kind).base + x.at
          apart k q f g (yes z) e = omega (arith, f, e, i, ap (λ (j : ℕ). (arena_of l j).base) z, ap (λ (j : ℕ). (arena_of l j).slots) z)
          apart k q f g (no z) e = past (dec_lt k x.kind)
            where
              past : Dec (k < x.kind) → ⊥
              past (yes t) = omega (arith, e, g, arena_before l o k x.kind t (arena_kind l o x.kind x.at i))
              past (no t) = omega (arith, e, f, i, arena_before l o x.kind k (omega (arith, t, z)) (arena_kind l o k 0 (omega (arith, f, g))))

          was : 1 ≤ at u ((arena_of l x.kind).base + x.at)
          was = subst (λ (n : ℕ). 1 ≤ n) p.2 named

          was_most : at u ((arena_of l x.kind).base + x.at) ≤ 4
          was_most = subst (λ (n : ℕ). n ≤ 4) p.2 (shade_most (arena_of l x.kind) x.at x.gen u)

          now : at (paint_w l x c u) ((arena_of l x.kind).base + x.at) ≡ c
          now = get_or-set_same u ((arena_of l x.kind).base + x.at) c 0 (omega (arith, long, (colour_in l ok a x.kind x.at i).1, a, o.words))

          tint : (k j : ℕ) → j < (arena_of l k).slots → Dec ((arena_of l k).base + j ≡ (arena_of l x.kind).base + x.at)
              → Tint (at u ((arena_of l k).base + j)) (at (paint_w l x c u) ((arena_of l k).base + j))
          tint k j h (no z) = inl (get_or-set_other u ((arena_of l x.kind).base + x.at) ((arena_of l k).base + j) c 0 z)
          tint k j h (yes z) =
              subst (λ (y : ℕ). Tint (at u y) (at (paint_w l x c u) y)) (sym z)
              (inr (was, was_most, omega (arith, now, low), omega (arith, now, high)))

  -- Strings that weak tables hold are painted.
  pub whitens_repainted : (c : ℕ) → 1 ≤ c → c ≤ 4 → (rs : List Ref) (u : List ℕ) → l.words ≤ length u → Repainted l u (whitens l c rs u)
  unfolding whitens
  whitens_repainted c low high [] u long = low_repainted refl (λ q p g. refl)
  whitens_repainted c low high (x ∷ rs) u long =
      let s = paint_repainted c low high x u long in
      repainted_then s (whitens_repainted c low high rs (if_eq (colour_w l x u) 0 u (paint_w l x c u)) (omega (arith, long, s.long)))

  -- The end of the phase: the cursor at the first slot, the phase SweepString.
  pub begun_words : (n : ℕ) (u : List ℕ) → l.words ≤ length u
      → Repainted l u (begun n u) × (at (begun n u) WHITE ≡ at u WHITE) × (at (begun n u) PHASE ≡ 2) × (at (begun n u) CURSOR_SLOT ≡ 0)
  unfolding begun
  begun_words n u long =
      let e : ℕ = at u TOTAL - 48 * n in
      let cs : List (ℕ × ℕ) = (PHASE, 2) ∷ (CURSOR_SLOT, 0) ∷ (CURSOR_ARENA, 0) ∷ (ESTIMATE, e) ∷ [] in
      let room : 91 ≤ length u = omega (arith, long, o.words, o.header, a) in (
        low_repainted (puts_length cs u) (λ q p g. puts_far cs u q ((λ z. omega (arith, z, p)), ((λ z. omega (arith, z, p)), ((λ z. omega (arith, z, p)), ((λ z. omega (arith, z, p)), tt))))),
        puts_far cs u WHITE ((λ z. omega (arith, z)), ((λ z. omega (arith, z)), ((λ z. omega (arith, z)), ((λ z. omega (arith, z)), tt)))),
        puts_at [] PHASE 2 ((CURSOR_SLOT, 0) ∷ (CURSOR_ARENA, 0) ∷ (ESTIMATE, e) ∷ []) u tt (omega (arith, room)),
        puts_at ((PHASE, 2) ∷ []) CURSOR_SLOT 0 ((CURSOR_ARENA, 0) ∷ (ESTIMATE, e) ∷ []) u ((λ z. omega (arith, z)), tt) (omega (arith, room)),
      )

  -- The flip, the spared strings and the entries that die.
  pub flipped_words : (b F : List ℕ) → l.words ≤ length F → 1 ≤ at F WHITE → at F WHITE ≤ 2 → Repainted l F (flipped l b F) × (at (flipped l b F) WHITE ≡ other_white (at F WHITE))
  unfolding flipped clear_weak_tables
  flipped_words b F long low high = (
    repainted_then flip (repainted_then strings (repainted_then entries (marked_repainted list))),
    list.kept WHITE (counters (omega arith) (omega arith))
        ∙ dies.word WHITE (omega (arith, o.header, a))
        ∙ ap (λ (x : List ℕ). at x WHITE) kept.0
        ∙ kept.1.word WHITE (inl (omega (arith, o.header, a)))
        ∙ get_or-set_same F WHITE new 0 (omega (arith, long, o.words, o.header, a)),
  )
    where
      new : ℕ
      new = other_white (at F WHITE)

      whites : (1 ≤ other_white (at F WHITE)) × (other_white (at F WHITE) ≤ 4) × (other_white (at F WHITE) ≢ at F WHITE)
      whites = other_white_lem (at F WHITE) low high

      G : List ℕ
      G = put WHITE (other_white (at F WHITE)) F

      H : List ℕ
      H = keep_all l (other_white (at F WHITE)) G

      I : List ℕ
      I = clear_all l b (at F WHITE) H

      flip : Repainted l F G
      flip = low_repainted (length-set F WHITE new) (λ q p g. get_or-set_other F WHITE q new 0 (λ e. omega (arith, e, p)))

      kept : (keep_all l new G ≡ whitens l new (held l G) G) × Tinted l G (whitens l new (held l G) G)
      kept = keep_all_lem l ok a new G

      strings : Repainted l G H
      strings = subst (λ (x : List ℕ). Repainted l G x) (sym kept.0) (whitens_repainted new whites.0 whites.1 (held l G) G (omega (arith, long, flip.long)))

      dies : Low l H I
      dies = cleared_low l ok a H (at F WHITE) b H low_none

      entries : Repainted l H I
      entries = low_repainted dies.long (λ q p g. dies.word q g)

      list : Marked l I (cleared l.weak I)
      list = moves_marked l ok a (emptied (still refl) weak refl) (omega (arith, long, flip.long, strings.long, entries.long))

-- The second part of the atomic phase, from words u in which what the roots reach is marked.
module _ (l : Lay) (ok : Laid l) (a : Apart l) (r : Rows l) (am : Ample l) (y : Bodies l) (w b : List ℕ) (long : l.words ≤ length w) (f : AllWhite l w) (none : length_of l.queue w ≡ 0)
    (u : List ℕ) (c : Ok l w b (Root l w b) (Root l w b) None 0 0 0 [] u) (e : length_of l.gray u ≡ 0) where
  abbrev ord : Order l
  ord = order l ok a

  abbrev z : List ℕ
  z = (separated l u).1

  abbrev F : List ℕ
  F = (finished l b u).1

  s : Sorted l (at u WHITE) u (used l.userdata u) z
  s = sorted l ok a am y w b long f none u c e

  done : Ok l z b (KeptRoot l w b) (KeptRoot l w b) None 0 0 0 [] F
  done = (finished_ok l ok a am y w b long f none u c e).0

  u_white : at u WHITE ≡ at w WHITE
  u_white = c.marked.kept WHITE (counters (omega arith) (omega arith))

  F_white : at F WHITE ≡ at w WHITE
  F_white =
      done.marked.kept WHITE (counters (omega arith) (omega arith))
      ∙ s.held.kept WHITE (omega (arith, queue_count l ok)) (inl (omega (arith, ord.header, a))) (omega (arith, ord.header, a))
      ∙ u_white

  F_repainted : Repainted l w F
  F_repainted =
      repainted_then (marked_repainted l ok a r c.marked)
      (repainted_then (sorted_repainted l ok a r (omega (arith, u_white, f.low)) (omega (arith, u_white, f.high)) (omega arith) s) (marked_repainted l ok a r done.marked))

  pub atomic_repainted : (k : ℕ) → let x = begun k (flipped l b F) in
      Repainted l w x × (at x WHITE ≡ other_white (at w WHITE)) × (at x PHASE ≡ 2) × (at x CURSOR_SLOT ≡ 0)
  atomic_repainted k =
      let F_long : l.words ≤ length F = omega (arith, long, F_repainted.long) in
      let g = flipped_words l ok a r b F F_long (omega (arith, F_white, f.low)) (omega (arith, F_white, f.high)) in
      let h = begun_words l ok a r k (flipped l b F) (omega (arith, F_long, g.0.long)) in
      (repainted_then F_repainted (repainted_then g.0 h.0), h.1 ∙ g.1 ∙ ap (λ (n : ℕ). other_white n) F_white, h.2, h.3)
