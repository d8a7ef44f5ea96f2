-- Weak tables against the manual: what the atomic phase does to the entries of a table that is retained, by the definitions of
-- specs/Weak.antt. Assumes nothing.
--     flipped_cleared                   the second part of the atomic phase
--     planned_cleared, collected_cleared     the atomic phase, after any number of steps, for the layout of any sizes; by single steps
use Rattle.std.specs.Prelude.{◌≡◌, refl, Bool, ◌⊎◌, ◌↔◌, ◌≢◌, ltb, length, Some, None as Absent, Option}
use Rattle.std.proofs.Math.Path.{sym, ap}
use Rattle.std.proofs.Common.{subst, ◌∙◌, true≢false, inr, ⊎_elim, arith, length-set}
use Rattle.std.proofs.Math.Bool.{true, false, cond}
use mathlib.Core.List.Memᴰ
use mathlib.Core.List.{List, [], Memᴰ}
use Rattle.std.proofs.Math.Logic.{inl}
use Prim.Native.Nat.{ℕ, min, ◌+◌, ◌-◌, ◌*◌, ◌≤◌, ◌<◌}
use Rattle.std.proofs.Math.Decide.{ℕ_discrete}
use Rattle.std.proofs.Math.Seq.{get_or-set_other}
use borrow.Author.Tests.{eqb-true, eq-eqb}
use Rattle.base.specs.Ways.{if_eq, eq_yes, eq_no}
use Rattle.base.specs.Words.{at, put, bounded}
use Rattle.base.specs.Heap as base
use Rattle.arena.specs.Slots.{gen, used, named}
use Rattle.value.specs.declared.TableRef.{TableRef}
use Rattle.value.specs.declared.Value.{Value}
use Rattle.value.specs.declared.Value.TheVariants.{Nil, Boolean, Light, Number, Str, Table, Function, Userdata, Thread}
use Rattle.value.specs.Values.{is_nil, value_at}
use Rattle.value.specs.Laws.{value_three}
use Rattle.layout.specs.declared.Sizes.{Sizes}
use Rattle.layout.specs.declared.Lay.{Lay}
use Rattle.layout.specs.Sizes.{SizesOk}
use Rattle.layout.specs.Layout.{lay_of}
use Rattle.layout.specs.Places.{PHASE, WHITE, CURSOR_ARENA, CURSOR_SLOT, TOTAL, ESTIMATE}
use Rattle.lists.specs.declared.Item.TheVariants as item
use Rattle.lists.specs.Lists.{length_of, item_at, cleared}
use Rattle.lists.proofs.Laws.{item_found, cleared_kept}
use Rattle.record.specs.Fields.{body_at}
use Rattle.record.specs.Tables.{table_meta, array_size, node_number, node_count, array_place, array_value, node_place, node_key, node_value}
use Rattle.record.specs.Userdata.{ud_finalized}
use Rattle.laid.specs.Laid.{Laid, weak_room_lem, laid_of}
use Rattle.mark.specs.Ops.{Ref, ref, tab, other_white}
use Rattle.mark.specs.Words.{arena_of, shade, colour_w}
use Rattle.modes.specs.declared.Mode.{Mode}
use Rattle.modes.specs.Modes.{is_weak, weak_mode}
use Rattle.links.specs.Links.{value_links}
use Rattle.separate.specs.Separation.{is_due, separated}
use Rattle.clearing.specs.Strings.{keep_all}
use Rattle.clearing.specs.Entries.{is_finalized, is_dead, key_dies, value_dies, node_dies, clear_all, clear_weak_tables}
use Rattle.atomic.specs.Atomic.{marked, finished, flipped, begun, atomic}
use Rattle.step.specs.Step.{start_cycle}
use Rattle.link_laws.specs.Agrees.{Agree, table_same, bounded_most, nodes_most}
use Rattle.link_laws.specs.Reads.{Reads, weak_mode_same}
use Rattle.mark_laws.specs.Apart.{Apart, Order, order, apart}
use Rattle.mark_laws.specs.Colours.{shade_parts, named_shade}
use Rattle.mark_laws.specs.Stays.{below}
use Rattle.room_laws.specs.Tallies.{Ample}
use Rattle.room_laws.proofs.Tallies.{ample}
use Rattle.reach.specs.Reached.{Occupied, Root}
use Rattle.reach.specs.Cycle.{AllWhite, rooted, advances}
use Rattle.reach.specs.OnLists.{on_same}
use Rattle.reach.specs.Oks.{Ok}
use Rattle.reach.specs.Exact.{None}
use Rattle.reach.proofs.Exact.{start_ok, advances_ok, marked_ok}
use Rattle.atomic_laws.specs.Kept.{Due, KeptRoot, Kept}
use Rattle.atomic_laws.specs.Bodies.{Bodies, bodies, flags_reads, marked_reads}
use Rattle.atomic_laws.proofs.Alikes.{occupied_in}
use Rattle.atomic_laws.specs.Separates.{Sorted}
use Rattle.atomic_laws.proofs.Dues.{due_parts, due_handle, handle_due}
use Rattle.atomic_laws.proofs.Finishes.{finished_exact}
use Rattle.atomic_laws.specs.Notes.{Noted}
use Rattle.atomic_laws.proofs.Notings.{rooted_noted, advances_noted, marked_noted, kept_weak}
use Rattle.atomic_laws.specs.Spares.{whitens, held, Tinted}
use Rattle.atomic_laws.proofs.Spares.{whitens_cases, keep_all_lem}
use Rattle.atomic_laws.proofs.Survives.{low_shade, s, done, same_white, G_long, whites, occupied_then, white_or, held_spared, H_long}
use Rattle.cycle_laws.specs.Counters.{stored, phase_counter, stored_white}
use Rattle.cycle_laws.specs.Singles.{singles}
use Rattle.cycle_laws.specs.Collects.{Collected as Steps, steps_ok, steps_noted, none_v}
use Rattle.sweep_laws.specs.Places.{Rows, rows}
use Rattle.manual.specs.Manual.{WeakKeys, WeakValues, WeakTable, Strong-key, Strong-value, From-step, Collected, ToFinalize, Retained}
use Rattle.manual.specs.Instance.{Object, EntryOf, EntryOf-array, EntryOf-node, key_links, values_links, in_tables, FinalizedIs, heap}
use Rattle.manual.proofs.Agrees.{weak_keys, weak_values, finalize_exact, retained_exact}
use Rattle.manual.proofs.Agreement.{agreement}
use Rattle.weak_laws.specs.Cuts.{size, nodes, key_at, mode_at, ArrayDies, NodeDies, Same, Zero, Cut, same_value, zero_value}
use Rattle.weak_laws.specs.Clears.{Done, Listed, all_cleared}
use Rattle.weak_laws.specs.Weak.{place_of, Lost, Ended, Cleared}

module _ (l : Lay) (ok : Laid l) (a : Apart l) (am : Ample l) (y : Bodies l) (r : Rows l) (w b : List ℕ) (long : l.words ≤ length w) (f : AllWhite l w) (none : length_of l.queue w ≡ 0)
    (u : List ℕ) (c : Ok l w b (Root l w b) (Root l w b) None 0 0 0 [] u) (e : length_of l.gray u ≡ 0) (n : Noted l w b u) where
  abbrev o : Order l
  o = order l ok a

  abbrev z : List ℕ
  z = (separated l u).1

  abbrev F : List ℕ
  F = (finished l b u).1

  abbrev old : ℕ
  old = at F WHITE

  abbrev Y : List ℕ
  Y = keep_all l (other_white (at F WHITE)) (put WHITE (other_white (at F WHITE)) F)

  F_white : at F WHITE ≡ at w WHITE
  F_white = same_white l ok a am y w b long f none u c e n

  -- the words at the flip, from word 72 on
  flip_word : (q : ℕ) → q ≢ WHITE → at (put WHITE (other_white (at F WHITE)) F) q ≡ at F q
  flip_word q d = get_or-set_other F WHITE q (other_white (at F WHITE)) 0 d

  abbrev K : List ℕ
  K = put WHITE (other_white (at F WHITE)) F

  tint : Tinted l K (whitens l (other_white (at F WHITE)) (held l K) K)
  tint = (keep_all_lem l ok a (other_white (at F WHITE)) K).1

  -- All words but the white and the colours of strings are as before the flip.
  Y_word : (q : ℕ) → q ≢ WHITE → (q < l.strings.base) ⊎ (l.strings.base + l.strings.slots ≤ q) → at Y q ≡ at F q
  Y_word q d g = ap (λ (x : List ℕ). at x q) (keep_all_lem l ok a (other_white (at F WHITE)) K).0 ∙ tint.word q g ∙ flip_word q d

  Y_past : (q : ℕ) → l.boundary ≤ q → at Y q ≡ at F q
  Y_past q h = Y_word q (λ x. omega (arith, x, h, o.header, a)) (inr (omega (arith, h, a)))

  -- Handles name what they named.
  K_shade : (x : Ref) → colour_w l x K ≡ colour_w l x F
  K_shade x = go (ℕ_discrete (colour_w l x F) 0) (ℕ_discrete (colour_w l x K) 0)
    where
      some : (n : ℕ) → n ≢ 0 → 1 ≤ n
      some n d = omega (arith, d)

      go : Dec (colour_w l x F ≡ 0) → Dec (colour_w l x K ≡ 0) → colour_w l x K ≡ colour_w l x F
      go (no d) h = low_shade l ok a F K (λ q g k. flip_word q (λ z. omega (arith, z, g))) x (some (colour_w l x F) d)
      go (yes d) (yes h) = h ∙ sym d
      go (yes d) (no h) = sym (low_shade l ok a K F (λ q g k. sym (flip_word q (λ z. omega (arith, z, g)))) x (some (colour_w l x K) h))

  Y_cases : (x : Ref) → (Memᴰ x (held l K) × (1 ≤ colour_w l x F) × (colour_w l x Y ≡ other_white (at F WHITE))) ⊎ (colour_w l x Y ≡ colour_w l x F)
  Y_cases x =
      let g = whites l ok a am y w b long f none u c e n in
      let k = ap (λ (v : List ℕ). colour_w l x v) (keep_all_lem l ok a (other_white (at F WHITE)) K).0 in
      ⊎_elim (λ p. inl (p.0, subst (λ m. 1 ≤ m) (K_shade x) p.1, k ∙ p.2)) (λ p. inr (k ∙ p ∙ K_shade x))
      (whitens_cases l ok a (other_white (at F WHITE)) g.0 g.1 (held l K) K (G_long l ok a am y w b long f none u c e n) x)

  Y_shade : (x : Ref) → x.kind ≢ 0 → colour_w l x Y ≡ colour_w l x F
  Y_shade x d =
      ⊎_elim (λ p. absurd (d ((agreement l w b).only_strings x (held_spared l ok a am y w b long f none u c e n x p.0 (subst (λ m. 1 ≤ m) (sym (K_shade x)) p.1) ((occupied_then l ok a am y w b long f none u c e n x).1 p.1)))))
      (λ p. p) (Y_cases x)

  Y_names : (k i g : ℕ) → named (arena_of l k) i g Y ≡ named (arena_of l k) i g F
  Y_names k i g = named_shade (arena_of l k) i g Y ∙ ⊎_elim both (λ p. ap (λ (c : ℕ). if_eq c 0 Absent (Some i)) p) (Y_cases (ref k i g)) ∙ sym (named_shade (arena_of l k) i g F)
    where
      none_zero : (n m : ℕ) → 1 ≤ m → n ≡ m → n ≢ 0
      none_zero n m f e z = omega (arith, f, e, z)

      zero_not : (n : ℕ) → 1 ≤ n → n ≢ 0
      zero_not n f z = omega (arith, f, z)

      both : Memᴰ (ref k i g) (held l K) × (1 ≤ colour_w l (ref k i g) F) × (colour_w l (ref k i g) Y ≡ other_white (at F WHITE))
          → if_eq (colour_w l (ref k i g) Y) 0 Absent (Some i) ≡ if_eq (colour_w l (ref k i g) F) 0 Absent (Some i)
      both p =
          sym (eq_no (colour_w l (ref k i g) Y) 0 Absent (Some i) (Some i) (none_zero (colour_w l (ref k i g) Y) (other_white (at F WHITE)) (whites l ok a am y w b long f none u c e n).0 p.2) refl)
          ∙ eq_no (colour_w l (ref k i g) F) 0 Absent (Some i) (Some i) (zero_not (colour_w l (ref k i g) F) p.1) refl

  Y_reads : Reads l F Y
  Y_reads = record {
    header = record { word = λ q g h. Y_word q (λ x. omega (arith, x, h)) (inl (omega (arith, h, o.header))) };
    protos = record { word = λ q g h. Y_past q (omega (arith, g, o.past_protos)) };
    strings = λ i x. record { word = λ q g h. Y_past q (omega (arith, g, o.past_strings)) };
    tables = λ i x. record { word = λ q g h. Y_past q (omega (arith, g, o.past_tables)) };
    functions = λ i x. record { word = λ q g h. Y_past q (omega (arith, g, o.past_functions)) };
    upvalues = λ i x. record { word = λ q g h. Y_past q (omega (arith, g, o.past_upvalues)) };
    userdata = λ i x. record { word = λ q g h. Y_past q (omega (arith, g, o.past_userdata)) };
    threads = λ i x. record { word = λ q g h. Y_past q (omega (arith, g, o.past_threads)) };
    string_names = λ i g. Y_names 0 i g;
    table_names_lem = λ i g. Y_names 1 i g;
  }

  S : Sorted l (at u WHITE) u (used l.userdata u) z
  S = s l ok a am y w b long f none u c e n

  D : Ok l z b (KeptRoot l w b) (KeptRoot l w b) None 0 0 0 [] F
  D = done l ok a am y w b long f none u c e n

  z_reads : Reads l u z
  z_reads = flags_reads l ok a y S.held (omega arith) S.flags

  -- A table's record and its mode are those before the collection.
  table_word : (t : ℕ) → t < l.tables.slots → (q : ℕ) → body_at l.tables t ≤ q → q < body_at l.tables t + 580 → at Y q ≡ at w q
  table_word t h q g k =
      Y_past q (omega (arith, g, o.past_tables))
      ∙ ((marked_reads l ok a D.marked).tables t h).word q g k
      ∙ (z_reads.tables t h).word q g k
      ∙ ((marked_reads l ok a c.marked).tables t h).word q g k

  mode_then : (m : Option TableRef) → weak_mode l m Y b ≡ weak_mode l m w b
  mode_then m = weak_mode_same Y_reads b m ∙ weak_mode_same (marked_reads l ok a D.marked) b m ∙ weak_mode_same z_reads b m ∙ weak_mode_same (marked_reads l ok a c.marked) b m

  mode_is : (t : ℕ) → t < l.tables.slots → mode_at l b old Y t ≡ weak_mode l (table_meta (body_at l.tables t) w) w b
  mode_is t h =
      let g : Agree w Y (body_at l.tables t) 580 = record { word = λ q x k. table_word t h q x k } in
      ap (λ (m : Option TableRef). weak_mode l m Y b) (table_same g (body_at l.tables t) (omega arith) (omega arith)) ∙ mode_then (table_meta (body_at l.tables t) w)

  -- An object that is no string is in the old white exactly if it is not kept.
  old_out : (x : Ref) → x.kind ≢ 0 → colour_w l x Y ≡ old → Occupied l w x × (Kept l w b x → ⊥)
  old_out x d p =
      let q : colour_w l x F ≡ at w WHITE = sym (Y_shade x d) ∙ p ∙ F_white in (
        (occupied_then l ok a am y w b long f none u c e n x).1 (one (colour_w l x F) q),
        λ k. high (colour_w l x F) q ((finished_exact l ok a am y w b long f none u c e x).1 k),
      )
    where
      one : (m : ℕ) → m ≡ at w WHITE → 1 ≤ m
      one m q = omega (arith, q, f.low)

      high : (m : ℕ) → m ≡ at w WHITE → 3 ≤ m → ⊥
      high m q g = omega (arith, q, g, f.high)

  old_in : (x : Ref) → x.kind ≢ 0 → Occupied l w x → (Kept l w b x → ⊥) → colour_w l x Y ≡ old
  old_in x d i k =
      Y_shade x d ∙ ⊎_elim (λ g. absurd (k ((finished_exact l ok a am y w b long f none u c e x).0 g))) (λ g. g ∙ sym F_white) (white_or l ok a am y w b long f none u c e n x i)

  -- A userdata is finalized then if it was, or if it is due.
  mark_then : (i : ℕ) → at Y (body_at l.userdata i + 6) ≡ at z (body_at l.userdata i + 6)
  mark_then i = Y_past (body_at l.userdata i + 6) (omega (arith, o.past_userdata)) ∙ below o D.marked (body_at l.userdata i + 6) (inr (omega (arith, o.past_userdata)))

  mark_before : (i : ℕ) → at u (body_at l.userdata i + 6) ≡ at w (body_at l.userdata i + 6)
  mark_before i = below o c.marked (body_at l.userdata i + 6) (inr (omega (arith, o.past_userdata)))

  finalized_out : (i g : ℕ) → Occupied l w (ref 4 i g) → ud_finalized (body_at l.userdata i) Y ≡ true → (ud_finalized (body_at l.userdata i) w ≡ true) ⊎ Due l w b (ref 4 i g)
  finalized_out i g h p = go (is_due l i (at u WHITE) u) refl
    where
      parts : (i < used l.userdata u) × (gen l.userdata i u ≡ g) × (colour_w l (ref 4 i g) u ≡ at u (l.userdata.base + i))
      parts = shade_parts l.userdata i g u ((c.inv.occ (ref 4 i g)).0 h)

      go : (d : Bool) → is_due l i (at u WHITE) u ≡ d → (ud_finalized (body_at l.userdata i) w ≡ true) ⊎ Due l w b (ref 4 i g)
      go true q = inr (subst (λ k. Due l w b (ref 4 i k)) parts.1 (handle_due l ok a am y w b long f none u c e i parts.0 q).0)
      go false q = inl (ap (λ (k : ℕ). ltb 0 k) (sym (mark_then i ∙ S.unmarked i (inr q) ∙ mark_before i)) ∙ p)

  finalized_in : (x : Ref) → ((ud_finalized (body_at l.userdata x.at) w ≡ true) ⊎ Due l w b x) → ud_finalized (body_at l.userdata x.at) Y ≡ true
  finalized_in x (inr d) =
      let p = due_handle l ok a am y w b long f none u c e x d in
      ap (λ (k : ℕ). ltb 0 k) (mark_then x.at ∙ S.marks x.at p.0 p.2)
  finalized_in x (inl p) = go (is_due l x.at (at u WHITE) u) refl
    where
      go : (d : Bool) → is_due l x.at (at u WHITE) u ≡ d → ud_finalized (body_at l.userdata x.at) Y ≡ true
      go false q = ap (λ (k : ℕ). ltb 0 k) (mark_then x.at ∙ S.unmarked x.at (inr q) ∙ mark_before x.at) ∙ p
      go true q = absurd (true≢false (sym p ∙ ap (λ (k : ℕ). ltb 0 k) (sym (mark_before x.at)) ∙ (due_parts l x.at (at u WHITE) u q).1))

  -- What is dead, as a key or as a value: no string and not kept; or, as a value, a userdata that is finalized.
  abbrev Dead : Value → Type 0
  Dead v = (x : Object l w b) × Memᴰ x.0 (value_links v) × (x.0.kind ≢ 0) × (Kept l w b x.0 → ⊥)

  abbrev Ending : Value → Type 0
  Ending v = (x : Object l w b) × Memᴰ x.0 (value_links v) × (x.0.kind ≡ 4) × (FinalizedIs l w b x.0 ⊎ ToFinalize (heap l w b) x)

  old_dead : (v : Value) (x : Ref) → x.kind ≢ 0 → Memᴰ x (value_links v) → colour_w l x Y ≡ old → Dead v
  old_dead v x d m p = let q = old_out x d p in ((x, q.0), m, d, q.1)

  dead_out : (key : Bool) (v : Value) → is_dead l old key v Y ≡ true → Dead v ⊎ ((key ≡ false) × Ending v)
  unfolding is_dead is_finalized
  dead_out key Nil p = absurd (true≢false (sym p))
  dead_out key (Boolean x) p = absurd (true≢false (sym p))
  dead_out key (Light x) p = absurd (true≢false (sym p))
  dead_out key (Number x) p = absurd (true≢false (sym p))
  dead_out key (Str x) p = absurd (true≢false (sym p))
  dead_out key (Table x) p = inl (old_dead (Table x) (ref 1 x.0 x.1) (omega arith) (Memᴰ.head refl) (eqb-true (shade l.tables x.0 x.1 Y) old p))
  dead_out key (Function x) p = inl (old_dead (Function x) (ref 2 x.0 x.1) (omega arith) (Memᴰ.head refl) (eqb-true (shade l.functions x.0 x.1 Y) old p))
  dead_out key (Thread x) p = inl (old_dead (Thread x) (ref 5 x.0 x.1) (omega arith) (Memᴰ.head refl) (eqb-true (shade l.threads x.0 x.1 Y) old p))
  dead_out key (Userdata x) p = go (ℕ_discrete (shade l.userdata x.0 x.1 Y) old)
    where
      q : Ref
      q = ref 4 x.0 x.1

      go : Dec (shade l.userdata x.0 x.1 Y ≡ old) → Dead (Userdata x) ⊎ ((key ≡ false) × Ending (Userdata x))
      go (yes g) = inl (old_dead (Userdata x) q (omega arith) (Memᴰ.head refl) g)
      go (no d) = by_key key (eq_no (shade l.userdata x.0 x.1 Y) old true (cond key false (is_finalized l x Y)) _ d refl ∙ p)
        where
          there : is_finalized l x Y ≡ true → Dec (shade l.userdata x.0 x.1 Y ≡ 0) → Ending (Userdata x)
          there g (yes h) = absurd (true≢false (sym g ∙ sym (eq_yes (shade l.userdata x.0 x.1 Y) 0 false (ud_finalized (body_at l.userdata x.0) Y) false h refl)))
          there g (no h) =
              let i : Occupied l w q = (occupied_then l ok a am y w b long f none u c e n q).1 (subst (λ m. 1 ≤ m) (Y_shade q (omega arith)) (some (colour_w l q Y) h)) in
              let k = finalized_out x.0 x.1 i (eq_no (shade l.userdata x.0 x.1 Y) 0 false (ud_finalized (body_at l.userdata x.0) Y) _ h refl ∙ g) in
              ((q, i), Memᴰ.head refl, refl, ⊎_elim (λ t. inl (refl, t)) (λ t. inr ((finalize_exact l w b (q, i)).1 t)) k)
            where
              some : (m : ℕ) → m ≢ 0 → 1 ≤ m
              some m d = omega (arith, d)

          by_key : (k : Bool) → cond k false (is_finalized l x Y) ≡ true → Dead (Userdata x) ⊎ ((k ≡ false) × Ending (Userdata x))
          by_key true g = absurd (true≢false (sym g))
          by_key false g = inr (refl, there g (ℕ_discrete (shade l.userdata x.0 x.1 Y) 0))

  -- and the other way round
  module _ (x : Object l w b) where
    white_then : (q : Ref) → x.0 ≡ q → x.0.kind ≢ 0 → (Kept l w b x.0 → ⊥) → colour_w l q Y ≡ old
    white_then q g d k = subst (λ (z : Ref). colour_w l z Y ≡ old) g (old_in x.0 d x.1 k)

    dead_in : (key : Bool) (v : Value) → Memᴰ x.0 (value_links v) → x.0.kind ≢ 0 → (Kept l w b x.0 → ⊥) → is_dead l old key v Y ≡ true
    unfolding is_dead
    dead_in key Nil m d k = absurd (Memᴰ.not-nil m)
    dead_in key (Boolean z) m d k = absurd (Memᴰ.not-nil m)
    dead_in key (Light z) m d k = absurd (Memᴰ.not-nil m)
    dead_in key (Number z) m d k = absurd (Memᴰ.not-nil m)
    dead_in key (Str z) m d k = absurd (d (ap (λ (q : Ref). q.kind) (Memᴰ.eq_of_singleton m)))
    dead_in key (Table z) m d k = eq-eqb (shade l.tables z.0 z.1 Y) old (white_then (ref 1 z.0 z.1) (Memᴰ.eq_of_singleton m) d k)
    dead_in key (Function z) m d k = eq-eqb (shade l.functions z.0 z.1 Y) old (white_then (ref 2 z.0 z.1) (Memᴰ.eq_of_singleton m) d k)
    dead_in key (Thread z) m d k = eq-eqb (shade l.threads z.0 z.1 Y) old (white_then (ref 5 z.0 z.1) (Memᴰ.eq_of_singleton m) d k)
    dead_in key (Userdata z) m d k = sym (eq_yes (shade l.userdata z.0 z.1 Y) old true _ true (white_then (ref 4 z.0 z.1) (Memᴰ.eq_of_singleton m) d k) refl)

    ending_in : (v : Value) → Memᴰ x.0 (value_links v) → x.0.kind ≡ 4 → (FinalizedIs l w b x.0 ⊎ ToFinalize (heap l w b) x) → is_dead l old false v Y ≡ true
    unfolding is_dead is_finalized
    ending_in Nil m d k = absurd (Memᴰ.not-nil m)
    ending_in (Boolean z) m d k = absurd (Memᴰ.not-nil m)
    ending_in (Light z) m d k = absurd (Memᴰ.not-nil m)
    ending_in (Number z) m d k = absurd (Memᴰ.not-nil m)
    ending_in (Str z) m d k = absurd (let q = ap (λ (q : Ref). q.kind) (Memᴰ.eq_of_singleton m) in let t : ⊥ = omega (arith, q, d) in t)
    ending_in (Table z) m d k = absurd (let q = ap (λ (q : Ref). q.kind) (Memᴰ.eq_of_singleton m) in let t : ⊥ = omega (arith, q, d) in t)
    ending_in (Function z) m d k = absurd (let q = ap (λ (q : Ref). q.kind) (Memᴰ.eq_of_singleton m) in let t : ⊥ = omega (arith, q, d) in t)
    ending_in (Thread z) m d k = absurd (let q = ap (λ (q : Ref). q.kind) (Memᴰ.eq_of_singleton m) in let t : ⊥ = omega (arith, q, d) in t)
    ending_in (Userdata z) m d k = go (ℕ_discrete (shade l.userdata z.0 z.1 Y) old)
      where
        g : x.0 ≡ ref 4 z.0 z.1
        g = Memᴰ.eq_of_singleton m

        there : shade l.userdata z.0 z.1 Y ≢ 0
        there h =
            zero_not (colour_w l x.0 F) ((occupied_then l ok a am y w b long f none u c e n x.0).0 x.1)
            (sym (Y_shade x.0 (λ p. omega (arith, p, d))) ∙ ap (λ (q : Ref). colour_w l q Y) g ∙ h)
          where
            zero_not : (n : ℕ) → 1 ≤ n → n ≡ 0 → ⊥
            zero_not n f p = omega (arith, f, p)

        mark : ud_finalized (body_at l.userdata z.0) Y ≡ true
        mark =
            subst (λ (q : Ref). ud_finalized (body_at l.userdata q.at) Y ≡ true) g
            (finalized_in x.0 (⊎_elim (λ p. inl p.1) (λ p. inr ((finalize_exact l w b x).0 p)) k))

        go : Dec (shade l.userdata z.0 z.1 Y ≡ old) → if_eq (shade l.userdata z.0 z.1 Y) old true (if_eq (shade l.userdata z.0 z.1 Y) 0 false (ud_finalized (body_at l.userdata z.0) Y)) ≡ true
        go (yes p) = sym (eq_yes (shade l.userdata z.0 z.1 Y) old true _ true p refl)
        go (no p) = sym (eq_no (shade l.userdata z.0 z.1 Y) old true _ true p (eq_no (shade l.userdata z.0 z.1 Y) 0 false _ true there (sym mark)))

  -- The words after the flip.
  Y_long : l.words ≤ length Y
  Y_long = H_long l ok a am y w b long f none u c e n

  abbrev W : List ℕ
  W = clear_all l b (at F WHITE) Y

  all : Cut l b old Y W × ((k : ℕ) → k < length_of l.weak Y → (t : ℕ) → Listed l b old Y ok a y r Y_long (item_at l.weak k Y) t → Done l b old Y ok a y r Y_long t W)
  all = all_cleared l b old Y ok a y r Y_long

  -- past the boundary they are those that the phase leaves
  end_word : (k q : ℕ) → l.boundary ≤ q → at (begun k (flipped l b F)) q ≡ at W q
  unfolding begun flipped clear_weak_tables
  end_word k q h =
      get_or-set_other (put CURSOR_SLOT 0 (put CURSOR_ARENA 0 (put ESTIMATE (at x TOTAL - 48 * k) x))) PHASE q 2 0 (λ p. omega (arith, p, h, o.header, a))
      ∙ get_or-set_other (put CURSOR_ARENA 0 (put ESTIMATE (at x TOTAL - 48 * k) x)) CURSOR_SLOT q 0 0 (λ p. omega (arith, p, h, o.header, a))
      ∙ get_or-set_other (put ESTIMATE (at x TOTAL - 48 * k) x) CURSOR_ARENA q 0 0 (λ p. omega (arith, p, h, o.header, a))
      ∙ get_or-set_other x ESTIMATE q (at x TOTAL - 48 * k) 0 (λ p. omega (arith, p, h, o.header, a))
      ∙ cleared_kept l.weak W (weak_room_lem l W ok (omega (arith, Y_long, all.0.long))) q (λ p. omega (arith, p, h, o.weak, o.header, a)) (inr (past_weak (at W l.weak.count) h))
    where
      x : List ℕ
      x = cleared l.weak W

      past_weak : (n : ℕ) → l.boundary ≤ q → l.weak.base + 3 * min n l.weak.room ≤ q
      past_weak n h = omega (arith, h, a)

  module _ (k : ℕ) where
    abbrev E : List ℕ
    E = begun k (flipped l b F)

    end_value : (q : ℕ) → l.boundary ≤ q → value_at E q ≡ value_at W q
    end_value q h = value_three q E W (end_word k q h) (end_word k (q + 1) (omega (arith, h))) (end_word k (q + 2) (omega (arith, h)))

    -- One table, by its slot.
    module _ (t : ℕ) (h : t < l.tables.slots) where
      p : ℕ
      p = body_at l.tables t

      sizes : size l b old Y t ≡ array_size (body_at l.tables t) w
      sizes = ap (λ (m : ℕ). bounded m 64) (table_word t h (body_at l.tables t + 2) (omega arith) (omega arith))

      counts : nodes l b old Y t ≡ node_count (body_at l.tables t) w
      counts = ap node_number (table_word t h (body_at l.tables t + 3) (omega arith) (omega arith))

      place : (j : ℕ) → key_at l b old Y t j ≡ node_place (body_at l.tables t) j w
      place j = ap (λ (m : ℕ). body_at l.tables t + 4 + 3 * m + 6 * j) sizes

      low : (q : ℕ) → body_at l.tables t ≤ q → l.boundary ≤ q
      low q g = omega (arith, g, o.past_tables)

      value_before : (q : ℕ) → body_at l.tables t ≤ q → q + 3 ≤ body_at l.tables t + 580 → value_at Y q ≡ value_at w q
      value_before q g m = value_three q Y w (table_word t h q g (omega (arith, m))) (table_word t h (q + 1) (omega (arith, g)) (omega (arith, m))) (table_word t h (q + 2) (omega (arith, g)) (omega (arith, m)))

      -- three words that stay, and three that are cleared
      same_then : (q : ℕ) → body_at l.tables t ≤ q → q + 3 ≤ body_at l.tables t + 580 → Same l b old Y W q → value_at E q ≡ value_at w q
      same_then q g m d = end_value q (low q g) ∙ same_value l b old Y W q d ∙ value_before q g m

      nil_then : (q : ℕ) → body_at l.tables t ≤ q → Zero l b old Y W q → value_at E q ≡ Nil
      nil_then q g d = end_value q (low q g) ∙ zero_value l b old Y W q d

      array_in : (i : ℕ) → i < array_size (body_at l.tables t) w → body_at l.tables t + 4 + 3 * i + 3 ≤ body_at l.tables t + 580
      array_in i g = omega (arith, g, bounded_most (at w (body_at l.tables t + 2)) 64)

      node_in : (j : ℕ) → j < node_count (body_at l.tables t) w → node_place (body_at l.tables t) j w + 6 ≤ body_at l.tables t + 580
      node_in j g = omega (arith, g, bounded_most (at w (body_at l.tables t + 2)) 64, nodes_most (at w (body_at l.tables t + 3)))

      -- A value of the array stays, or is nil, and then it dies.
      array_cases : (i : ℕ) → i < array_size (body_at l.tables t) w
          → (value_at E (array_place (body_at l.tables t) i) ≡ value_at w (array_place (body_at l.tables t) i)) ⊎ ((value_at E (array_place (body_at l.tables t) i) ≡ Nil) × ArrayDies l b old Y t i)
      array_cases i g =
          ⊎_elim (λ d. inl (same_then (array_place (body_at l.tables t) i) (omega arith) (array_in i g) d)) (λ d. inr (nil_then (array_place (body_at l.tables t) i) (omega arith) d.0, d.1))
          (all.0.array t i h (subst (λ m. i < m) (sym sizes) g))

      node_cases : (j : ℕ) → j < node_count (body_at l.tables t) w
          → (value_at E (node_place (body_at l.tables t) j w + 3) ≡ value_at w (node_place (body_at l.tables t) j w + 3)) ⊎ ((value_at E (node_place (body_at l.tables t) j w + 3) ≡ Nil) × NodeDies l b old Y t j)
      node_cases j g =
          ⊎_elim (λ d. inl (same_then (node_place (body_at l.tables t) j w + 3) (omega arith) (omega (arith, node_in j g)) (subst (λ q. Same l b old Y W (q + 3)) (place j) d)))
          (λ d. inr (nil_then (node_place (body_at l.tables t) j w + 3) (omega arith) (subst (λ q. Zero l b old Y W (q + 3)) (place j) d.0), d.1))
          (all.0.node t j h (subst (λ m. j < m) (sym counts) g))

      key_stays : (j : ℕ) → j < node_count (body_at l.tables t) w → value_at E (node_place (body_at l.tables t) j w) ≡ node_key (body_at l.tables t) j w
      key_stays j g =
          same_then (node_place (body_at l.tables t) j w) (omega arith) (omega (arith, node_in j g)) (subst (λ q. Same l b old Y W q) (place j) (all.0.keys t j h (subst (λ m. j < m) (sym counts) g)))

      -- Of a table that is kept and weak all that dies is nil.
      module _ (gen : ℕ) (kept : Kept l w b (ref 1 t gen)) (weak : is_weak (mode_at l b old Y t) ≡ true) where
        abbrev z₀ : TableRef
        z₀ = record { 0 = t; 1 = gen }

        finished_there : 1 ≤ colour_w l (tab z₀) Y
        finished_there = subst (λ m. 1 ≤ m) (sym (Y_shade (tab z₀) (omega arith))) (one (colour_w l (tab z₀) F) ((finished_exact l ok a am y w b long f none u c e (tab z₀)).1 kept))
          where
            one : (m : ℕ) → 3 ≤ m → 1 ≤ m
            one m g = omega (arith, g)

        weak_word : (q : ℕ) → (q ≡ l.weak.count) ⊎ ((l.weak.base ≤ q) × (q < l.weak.base + 3 * l.weak.room)) → at Y q ≡ at F q
        weak_word q (inl g) = Y_word q (λ m. omega (arith, m, g, o.weak)) (inl (omega (arith, g, o.weak, o.header)))
        weak_word q (inr g) = Y_word q (λ m. omega (arith, m, g.0, o.header, a)) (inr (omega (arith, g.0, a)))

        done_then : Done l b old Y ok a y r Y_long t W
        done_then =
            let i = on_same l.weak (item.Table z₀) F Y weak_word (kept_weak l ok a am y w b long f none u c e n z₀ kept (ap is_weak (sym (mode_is t h)) ∙ weak)) in
            all.1 i.0 i.1 t (z₀, item_found l.weak i.0 Y i.1 ∙ i.2, refl, finished_there, weak)

        array_nil : (i : ℕ) → i < array_size (body_at l.tables t) w → ArrayDies l b old Y t i → value_at E (array_place (body_at l.tables t) i) ≡ Nil
        array_nil i g d = let m = subst (λ x. i < x) (sym sizes) g in nil_then (array_place (body_at l.tables t) i) (omega arith) (done_then.0 i m m d)

        node_nil : (j : ℕ) → j < node_count (body_at l.tables t) w → NodeDies l b old Y t j → value_at E (node_place (body_at l.tables t) j w + 3) ≡ Nil
        node_nil j g d =
            let m = subst (λ x. j < x) (sym counts) g in
            nil_then (node_place (body_at l.tables t) j w + 3) (omega arith) (subst (λ q. Zero l b old Y W (q + 3)) (place j) (done_then.1 j m m d))

    -- A table that is an object lies below the slots.
    slot_in_lem : (x : Object l w b) → x.0.kind ≡ 1 → x.0.at < l.tables.slots
    slot_in_lem x g = subst (λ m. x.0.at < (arena_of l m).slots) g (occupied_in l w x.0 x.1)

    -- the manual's weak tables, by the mode that clearing reads
    values_is : (x : Object l w b) → x.0.kind ≡ 1 → WeakValues (heap l w b) x ↔ ((mode_at l b old Y x.0.at).values ≡ true)
    values_is x g =
        let m = ap (λ (d : Mode). d.values) (mode_is x.0.at (slot_in_lem x g)) in
        ((λ d. m ∙ (weak_values l w b x g).0 d), λ d. (weak_values l w b x g).1 (sym m ∙ d))

    keys_is : (x : Object l w b) → x.0.kind ≡ 1 → WeakKeys (heap l w b) x ↔ ((mode_at l b old Y x.0.at).keys ≡ true)
    keys_is x g =
        let m = ap (λ (d : Mode). d.keys) (mode_is x.0.at (slot_in_lem x g)) in
        ((λ d. m ∙ (weak_keys l w b x g).0 d), λ d. (weak_keys l w b x g).1 (sym m ∙ d))

    either_weak : (m : Mode) → (m.keys ≡ true) ⊎ (m.values ≡ true) → is_weak m ≡ true
    either_weak m (inl d) = ap (λ (q : Bool). cond q true m.values) d
    either_weak m (inr d) = go m.keys d
      where
        go : (q : Bool) → m.values ≡ true → cond q true m.values ≡ true
        go true d = refl
        go false d = d

    kept_of : (x : Object l w b) → x.0.kind ≡ 1 → Retained (heap l w b) x → Kept l w b (ref 1 x.0.at x.0.gen)
    kept_of x g d = subst (λ (m : ℕ). Kept l w b (ref m x.0.at x.0.gen)) g ((retained_exact l w b x).0 d)

    -- What is lost by an entry's key or value,
    lost_by : (x : Object l w b) (q : EntryOf l w b x.0) → WeakTable (heap l w b) x → (d : Object l w b) → Memᴰ d.0 (key_links l w b x.0 q) ⊎ Memᴰ d.0 (values_links l w b x.0 q)
        → d.0.kind ≢ 0 → (Kept l w b d.0 → ⊥) → Lost l w b x q
    lost_by x q t d m g h = (record { weak = t; lost = d; part = m; collected = λ v. h ((retained_exact l w b d).0 v) }, g)

    not_kept : (d : Object l w b) → Collected (heap l w b) d → Kept l w b d.0 → ⊥
    not_kept d g h = g ((retained_exact l w b d).1 h)

    -- is held weakly: what a retained table holds strongly is retained.
    value_weak : (x : Object l w b) (g : x.0.kind ≡ 1) → Retained (heap l w b) x → (q : EntryOf l w b x.0) (d : Object l w b) → Memᴰ d.0 (values_links l w b x.0 q) → Collected (heap l w b) d
        → (mode_at l b old Y x.0.at).values ≡ true
    value_weak x g v q d m n = go (mode_at l b old Y x.0.at).values refl
      where
        go : (t : Bool) → (mode_at l b old Y x.0.at).values ≡ t → t ≡ true
        go true i = refl
        go false i = absurd (n (From-step v (Strong-value q m (λ z. true≢false (sym ((values_is x g).0 z) ∙ i)))))

    key_weak : (x : Object l w b) (g : x.0.kind ≡ 1) → Retained (heap l w b) x → (q : EntryOf l w b x.0) (d : Object l w b) → Memᴰ d.0 (key_links l w b x.0 q) → Collected (heap l w b) d
        → (mode_at l b old Y x.0.at).keys ≡ true
    key_weak x g v q d m n = go (mode_at l b old Y x.0.at).keys refl
      where
        go : (t : Bool) → (mode_at l b old Y x.0.at).keys ≡ t → t ≡ true
        go true i = refl
        go false i = absurd (n (From-step v (Strong-key q m (λ z. true≢false (sym ((keys_is x g).0 z) ∙ i)))))

    -- An entry of the array.
    module _ (x : Object l w b) (v : Retained (heap l w b) x) (g : x.0.kind ≡ 1) (i : ℕ) (m : i < array_size (in_tables l w b x.0) w) (d : is_nil (array_value (in_tables l w b x.0) i w) ≡ false) where
      abbrev entry : EntryOf l w b x.0
      entry = EntryOf-array g i m d

      abbrev c₀ : ℕ
      c₀ = array_place (in_tables l w b x.0) i

      before : value_at Y c₀ ≡ value_at w c₀
      before = value_before x.0.at (slot_in_lem x g) c₀ (omega arith) (array_in x.0.at (slot_in_lem x g) i m)

      array_out : is_nil (value_at E c₀) ≡ true → Lost l w b x entry ⊎ Ended l w b x entry
      array_out q = go (array_cases x.0.at (slot_in_lem x g) i m)
        where
          by : ArrayDies l b old Y x.0.at i → Dead (value_at w c₀) ⊎ ((false ≡ false) × Ending (value_at w c₀)) → Lost l w b x entry ⊎ Ended l w b x entry
          by t (inl (z, j, k, h)) = inl (lost_by x entry (inr ((values_is x g).1 t.0)) z (inr j) k h)
          by t (inr (j, z)) = inr ((values_is x g).1 t.0, z)

          go : (value_at E c₀ ≡ value_at w c₀) ⊎ ((value_at E c₀ ≡ Nil) × ArrayDies l b old Y x.0.at i) → Lost l w b x entry ⊎ Ended l w b x entry
          go (inl t) = absurd (true≢false (sym q ∙ ap is_nil t ∙ d))
          go (inr t) = by t.1 (dead_out false (value_at w c₀) (ap (λ (z : Value). is_dead l old false z Y) (sym before) ∙ t.1.1))

      dies : (mode_at l b old Y x.0.at).values ≡ true → is_dead l old false (value_at w c₀) Y ≡ true → is_nil (value_at E c₀) ≡ true
      dies t q =
          ap is_nil (array_nil x.0.at (slot_in_lem x g) x.0.gen (kept_of x g v) (either_weak (mode_at l b old Y x.0.at) (inr t)) i m (t, ap (λ (z : Value). is_dead l old false z Y) before ∙ q))

      array_back : Lost l w b x entry ⊎ Ended l w b x entry → is_nil (value_at E c₀) ≡ true
      array_back (inl (t, q)) = ⊎_elim (λ j. absurd (Memᴰ.not-nil j))
          (λ j. dies (value_weak x g v entry t.lost j t.collected) (dead_in t.lost false (value_at w c₀) j q (not_kept t.lost t.collected))) t.part
      array_back (inr (t, (z, j, q, h))) = dies ((values_is x g).0 t) (ending_in z (value_at w c₀) j q h)

    -- An entry of the nodes.
    module _ (x : Object l w b) (v : Retained (heap l w b) x) (g : x.0.kind ≡ 1) (j : ℕ) (m : j < node_count (in_tables l w b x.0) w) (s₀ : is_nil (node_key (in_tables l w b x.0) j w) ≡ false)
        (d : is_nil (node_value (in_tables l w b x.0) j w) ≡ false) where
      abbrev node : EntryOf l w b x.0
      node = EntryOf-node g j m s₀ d

      abbrev q₀ : ℕ
      q₀ = node_place (in_tables l w b x.0) j w

      key_before : value_at Y (key_at l b old Y x.0.at j) ≡ value_at w q₀
      key_before = ap (λ (q : ℕ). value_at Y q) (place x.0.at (slot_in_lem x g) j) ∙ value_before x.0.at (slot_in_lem x g) q₀ (omega arith) (omega (arith, node_in x.0.at (slot_in_lem x g) j m))

      val_before : value_at Y (key_at l b old Y x.0.at j + 3) ≡ value_at w (q₀ + 3)
      val_before = ap (λ (q : ℕ). value_at Y (q + 3)) (place x.0.at (slot_in_lem x g) j) ∙ value_before x.0.at (slot_in_lem x g) (q₀ + 3) (omega arith) (omega (arith, node_in x.0.at (slot_in_lem x g) j m))

      abbrev M : Mode
      M = mode_at l b old Y x.0.at

      -- a node dies by its key, or by its value
      node_test : node_dies l old M (key_at l b old Y x.0.at j) Y ≡ cond (cond M.keys (is_dead l old true (value_at w q₀) Y) false) true (cond M.values (is_dead l old false (value_at w (q₀ + 3)) Y) false)
      unfolding node_dies key_dies value_dies
      node_test =
          ap (λ (z : Value). cond (cond M.keys (is_dead l old true z Y) false) true (cond M.values (is_dead l old false (value_at Y (key_at l b old Y x.0.at j + 3)) Y) false)) key_before
          ∙ ap (λ (z : Value). cond (cond M.keys (is_dead l old true (value_at w q₀) Y) false) true (cond M.values (is_dead l old false z Y) false)) val_before

      node_out : is_nil (value_at E (q₀ + 3)) ≡ true → Lost l w b x node ⊎ Ended l w b x node
      node_out q = go (node_cases x.0.at (slot_in_lem x g) j m)
        where
          by_key : M.keys ≡ true → Dead (value_at w q₀) ⊎ ((true ≡ false) × Ending (value_at w q₀)) → Lost l w b x node ⊎ Ended l w b x node
          by_key t (inl (z, i, k, h)) = inl (lost_by x node (inl ((keys_is x g).1 t)) z (inl i) k h)
          by_key t (inr (i, z)) = absurd (true≢false i)

          by_value : M.values ≡ true → Dead (value_at w (q₀ + 3)) ⊎ ((false ≡ false) × Ending (value_at w (q₀ + 3))) → Lost l w b x node ⊎ Ended l w b x node
          by_value t (inl (z, i, k, h)) = inl (lost_by x node (inr ((values_is x g).1 t)) z (inr i) k h)
          by_value t (inr (i, z)) = inr ((values_is x g).1 t, z)

          tests : (ks vs : Bool) → M.keys ≡ ks → M.values ≡ vs → (dk dv : Bool) → is_dead l old true (value_at w q₀) Y ≡ dk → is_dead l old false (value_at w (q₀ + 3)) Y ≡ dv
              → cond (cond ks dk false) true (cond vs dv false) ≡ true → Lost l w b x node ⊎ Ended l w b x node
          tests true vs ek ev true dv fk fv t = by_key ek (dead_out true (value_at w q₀) fk)
          tests true true ek ev false true fk fv t = by_value ev (dead_out false (value_at w (q₀ + 3)) fv)
          tests true true ek ev false false fk fv t = absurd (true≢false (sym t))
          tests true false ek ev false dv fk fv t = absurd (true≢false (sym t))
          tests false true ek ev dk true fk fv t = by_value ev (dead_out false (value_at w (q₀ + 3)) fv)
          tests false true ek ev dk false fk fv t = absurd (true≢false (sym t))
          tests false false ek ev dk dv fk fv t = absurd (true≢false (sym t))

          go : (value_at E (q₀ + 3) ≡ value_at w (q₀ + 3)) ⊎ ((value_at E (q₀ + 3) ≡ Nil) × NodeDies l b old Y x.0.at j) → Lost l w b x node ⊎ Ended l w b x node
          go (inl t) = absurd (true≢false (sym q ∙ ap is_nil t ∙ d))
          go (inr t) = tests M.keys M.values refl refl (is_dead l old true (value_at w q₀) Y) (is_dead l old false (value_at w (q₀ + 3)) Y) refl refl (sym node_test ∙ t.1.1)

      node_dies_lem : is_weak M ≡ true → cond (cond M.keys (is_dead l old true (value_at w q₀) Y) false) true (cond M.values (is_dead l old false (value_at w (q₀ + 3)) Y) false) ≡ true → is_nil (value_at E (q₀ + 3)) ≡ true
      node_dies_lem t q = ap is_nil (node_nil x.0.at (slot_in_lem x g) x.0.gen (kept_of x g v) t j m (ap is_nil key_before ∙ s₀, node_test ∙ q))

      key_dies_lem : M.keys ≡ true → is_dead l old true (value_at w q₀) Y ≡ true → is_nil (value_at E (q₀ + 3)) ≡ true
      key_dies_lem t q =
          node_dies_lem (either_weak M (inl t))
          (ap (λ (z : Bool). cond (cond z (is_dead l old true (value_at w q₀) Y) false) true (cond M.values (is_dead l old false (value_at w (q₀ + 3)) Y) false)) t
          ∙ ap (λ (z : Bool). cond z true (cond M.values (is_dead l old false (value_at w (q₀ + 3)) Y) false)) q)

      value_dies_lem : M.values ≡ true → is_dead l old false (value_at w (q₀ + 3)) Y ≡ true → is_nil (value_at E (q₀ + 3)) ≡ true
      value_dies_lem t q =
          node_dies_lem (either_weak M (inr t))
          (ap (λ (z : Bool). cond (cond M.keys (is_dead l old true (value_at w q₀) Y) false) true (cond z (is_dead l old false (value_at w (q₀ + 3)) Y) false)) t
          ∙ ap (λ (z : Bool). cond (cond M.keys (is_dead l old true (value_at w q₀) Y) false) true z) q
          ∙ last (cond M.keys (is_dead l old true (value_at w q₀) Y) false))
        where
          last : (z : Bool) → cond z true true ≡ true
          last true = refl
          last false = refl

      node_back : Lost l w b x node ⊎ Ended l w b x node → is_nil (value_at E (q₀ + 3)) ≡ true
      node_back (inl (t, q)) = ⊎_elim
          (λ i. key_dies_lem (key_weak x g v node t.lost i t.collected) (dead_in t.lost true (value_at w q₀) i q (not_kept t.lost t.collected)))
          (λ i. value_dies_lem (value_weak x g v node t.lost i t.collected) (dead_in t.lost false (value_at w (q₀ + 3)) i q (not_kept t.lost t.collected))) t.part
      node_back (inr (t, (z, i, q, h))) = value_dies_lem ((values_is x g).0 t) (ending_in z (value_at w (q₀ + 3)) i q h)

    -- So the entries are as the definition says.
    pub flipped_cleared : Cleared l w b (begun k (flipped l b F))
    flipped_cleared = record { gone = gone; stays = stays; key = λ x g j m. key_stays x.0.at (slot_in_lem x g) j m }
      where
        gone : (x : Object l w b) → Retained (heap l w b) x → (q : EntryOf l w b x.0) → (is_nil (value_at E (place_of l w b x.0 q)) ≡ true) ↔ (Lost l w b x q ⊎ Ended l w b x q)
        gone x v (EntryOf-array g i m d) = (array_out x v g i m d, array_back x v g i m d)
        gone x v (EntryOf-node g j m s₀ d) = (node_out x v g j m s₀ d, node_back x v g j m s₀ d)

        stays : (x : Object l w b) (q : EntryOf l w b x.0) → is_nil (value_at E (place_of l w b x.0 q)) ≡ false → value_at E (place_of l w b x.0 q) ≡ value_at w (place_of l w b x.0 q)
        stays x (EntryOf-array g i m d) t = ⊎_elim (λ z. z) (λ z. absurd (true≢false (sym (ap is_nil z.0) ∙ t))) (array_cases x.0.at (slot_in_lem x g) i m)
        stays x (EntryOf-node g j m s₀ d) t = ⊎_elim (λ z. z) (λ z. absurd (true≢false (sym (ap is_nil z.0) ∙ t))) (node_cases x.0.at (slot_in_lem x g) j m)

-- From a heap at Pause, every occupied slot in the current white and the queue empty, after the roots are marked, any number of steps are
-- made and the atomic step is done: for the layout of any sizes within their ranges.
pub planned_cleared : (s : Sizes) → SizesOk s → (w b : List ℕ) → (lay_of s).words ≤ length w → AllWhite (lay_of s) w → length_of (lay_of s).queue w ≡ 0 → (n : ℕ)
    → Cleared (lay_of s) w b (atomic (lay_of s) b (advances (lay_of s) b n (rooted (lay_of s) w)))
unfolding atomic
planned_cleared s h w b long f none n =
    let l = lay_of s in
    let ok = laid_of s h in
    let a = apart s in
    let am = ample s in
    let c₀ = advances_ok l ok a am w b long n (rooted l w) (start_ok l ok a am w b long f) in
    let d = marked_ok l ok a am w b long (advances l b n (rooted l w)) c₀ in
    let m = marked_noted l ok a am w b long (advances l b n (rooted l w)) c₀ (advances_noted l ok a am w b long n (rooted l w) (start_ok l ok a am w b long f) (rooted_noted l ok a am w b long f)) in
    flipped_cleared l ok a am (bodies s) (rows s) w b long f none (marked l b (advances l b n (rooted l w))) d.0 d.1 m _

-- The same by single steps from Pause: the state after the atomic step. `Cleared` is read from the words before with the phase that the
-- first step sets; nothing that it reads is the phase.
pub collected_cleared : (s : Sizes) → SizesOk s → (w b : List ℕ) → (lay_of s).words ≤ length w → AllWhite (lay_of s) w → length_of (lay_of s).queue w ≡ 0 → (c : Steps (lay_of s) w b)
    → Cleared (lay_of s) (stored PHASE 1 w) b (singles (lay_of s) (c.steps + 2) (base.heap w b)).words
unfolding atomic
collected_cleared s h w b long f none c =
    let l = lay_of s in
    let ok = laid_of s h in
    let a = apart s in
    let am = ample s in
    let w₁ = stored PHASE 1 w in
    let long₁ : l.words ≤ length w₁ = omega (arith, long, length-set w PHASE 1) in
    let u = advances l b c.steps (start_cycle l w) in
    let o = steps_ok l ok a am w b long f c.steps in
    let m = steps_noted l ok a am w b long f c.steps in
    let d = marked_ok l ok a am w₁ b long₁ u o in
    subst (λ (g : base.Heap). Cleared l w₁ b g.words) (sym c.state)
    (flipped_cleared l ok a am (bodies s) (rows s) w₁ b long₁ (stored_white l ok a PHASE phase_counter 1 f) (none_v l ok a am w b long f c.steps none) (marked l b u) d.0 d.1 (marked_noted l ok a am w₁ b long₁ u o m) _)
