-- Test 1 lets every call in on a heap that the calls make: no call answers 1 or 8 on it. And its total is the sum of sizes. Assumes
-- nothing.
--     made_opened       test 1 gives the layout of the sizes in the header
--     made_call, made_marked, made_ask     so a call is its work
--     made_total        the total is the sum of the occupied slots times their sizes
use Rattle.std.specs.Prelude.{◌≡◌, Bool, true, false, cond, ◌&&◌, List, [], ◌∷◌, ℕ, ◌+◌, ◌*◌, ◌≤◌, eqb, length, Ok, Err, Result}
use Rattle.std.proofs.Math.Path.{refl, subst}
use Rattle.std.proofs.Common.{sym, ap, ◌∙◌, true≢false, ⊎_elim, arith, le-leb, eq-eqb}
use Rattle.std.proofs.Math.Decide.{ℕ_discrete}
use Rattle.std.proofs.Math.Dec.{leb}
use Rattle.base.specs.Ways.{eq_yes}
use Rattle.base.specs.Words.{at}
use Rattle.base.specs.Heap.{Heap}
use Rattle.base.specs.declared.Refusal.TheVariants.{Unfit, Damaged}
use Rattle.base.specs.declared.Refusal.{Refusal}
use Rattle.arena.specs.Slots.{fresh, count, occupied}
use Rattle.arena_laws.specs.Keeps.{occupied_most}
use Rattle.layout.specs.declared.Sizes.{Sizes}
use Rattle.layout.specs.declared.Lay.{Lay}
use Rattle.layout.specs.Table.{Row, every, all, Hold}
use Rattle.layout.specs.Sizes.{size_rows, sizes_fit, SizesOk}
use Rattle.layout.specs.Layout.{lay_of}
use Rattle.layout.specs.Places.{DAMAGE, PHASE, TOTAL, HEADER, STRINGS, TABLES, FUNCTIONS, UPVALUES, USERDATA, THREADS}
use Rattle.test1.specs.Test1.{sizes_at, arena_rows, arenas_fit, list_rows, main_rows, state_rows, counts_fit, accepted, opened}
use Rattle.test1.specs.Calls.{on_opened, call, on_marked, call_marked, on_asked, ask}
use Rattle.mark.specs.Words.{arena_of}
use Rattle.laid.specs.Laid.{laid_of}
use Rattle.mark_laws.specs.Apart.{apart, Order, order}
use Rattle.sweep_laws.specs.Places.{rows, top_is}
use Rattle.state_laws.specs.State.{Swept, State}
use Rattle.made.specs.Made.{Made}
use Rattle.made_laws.specs.Sounds.{Sound}
use Rattle.made_laws.proofs.Sounds.{made_sound}
use Rattle.made_laws.specs.Pauses.{lay_at}

both : (x y : Bool) → x ≡ true → y ≡ true → x && y ≡ true
both true y e f = f
both false y e f = e

-- rows that hold pass the test
hold_every : (b : Bool) (rs : List Row) → b ≡ true → Hold rs → every b rs ≡ true
hold_every b [] e h = e
hold_every b (r ∷ rs) e h = hold_every (b && leb r.this r.most) rs (both b (leb r.this r.most) e (le-leb r.this r.most h.0)) h.1

hold_all : (rs : List Row) → Hold rs → all rs ≡ true
hold_all [] h = refl
hold_all (r ∷ rs) h = hold_every (leb r.this r.most) rs (le-leb r.this r.most h.0) h.1

-- The sizes pass theirs.
pub sizes_pass : (s : Sizes) → SizesOk s → sizes_fit s ≡ true
unfolding sizes_fit
sizes_pass s f =
    hold_all (size_rows s)
    (f.strings2, (f.strings, (f.tables2, (f.tables, (f.functions, (f.upvalues, (f.userdata, (f.threads, (f.protos, (f.stack, (f.opens, (f.frames1, (f.frames, tt)))))))))))))

module _ (s : Sizes) (f : SizesOk s) (h : Heap) (t : State (lay_of s) h) where
  abbrev w : List ℕ
  w = h.words

  -- an arena's fresh index and count
  arena_pass : (k : ℕ) → k ≤ 5 → (top slots : ℕ) → top ≡ 73 + 3 * k → (arena_of (lay_of s) k).slots ≡ slots → all (arena_rows h.words top slots) ≡ true
  arena_pass k g top slots e d =
      hold_all (arena_rows h.words top slots) (
        subst (λ (x : ℕ). at h.words (x + 1) ≤ slots) same (subst (λ (n : ℕ). fresh (arena_of (lay_of s) k) h.words ≤ n) d (t.arenas k g).within),
        (subst (λ (x : ℕ). at h.words (x + 2) ≤ at h.words (x + 1)) same few, tt),
      )
    where
      same : (arena_of (lay_of s) k).top ≡ top
      same = top_is (lay_of s) (laid_of s f) (apart s) (rows s) k g ∙ sym e

      few : count (arena_of (lay_of s) k) h.words ≤ fresh (arena_of (lay_of s) k) h.words
      few = omega (arith, (t.arenas k g).counts, occupied_most (arena_of (lay_of s) k) h.words)

  phase_most : at h.words PHASE ≤ 4
  phase_most = go (ℕ_discrete (at h.words PHASE) 1)
    where
      go : Dec (at h.words PHASE ≡ 1) → at h.words PHASE ≤ 4
      go (yes e) = omega (arith, e)
      go (no d) = place (ℕ_discrete m.arena 0) (ℕ_discrete m.arena 6)
        where
          m : Swept (lay_of s) h.words
          m = t.swept d

          place : Dec (m.arena ≡ 0) → Dec (m.arena ≡ 6) → at h.words PHASE ≤ 4
          place (yes e) z = omega (arith, (m.strings e).0)
          place (no e) (yes z) = ⊎_elim (λ y. omega (arith, y)) (λ y. omega (arith, y)) (m.ended z)
          place (no e) (no z) = omega (arith, (m.others (omega (arith, e)) (omega (arith, z, m.most))).0)

  counts_pass : counts_fit h.words s ≡ true
  unfolding counts_fit arenas_fit lay_of
  counts_pass =
      both _ (all (state_rows h.words))
      (both _ (all (main_rows h.words s))
      (both _ (all (list_rows h.words s))
      (both _ (all (arena_rows h.words THREADS s.threads))
      (both _ (all (arena_rows h.words USERDATA s.userdata))
      (both _ (all (arena_rows h.words UPVALUES s.upvalues))
      (both _ (all (arena_rows h.words FUNCTIONS s.functions))
      (both (all (arena_rows h.words STRINGS s.strings)) (all (arena_rows h.words TABLES s.tables))
      (arena_pass 0 (omega arith) STRINGS s.strings refl refl) (arena_pass 1 (omega arith) TABLES s.tables refl refl))
      (arena_pass 2 (omega arith) FUNCTIONS s.functions refl refl))
      (arena_pass 3 (omega arith) UPVALUES s.upvalues refl refl))
      (arena_pass 4 (omega arith) USERDATA s.userdata refl refl))
      (arena_pass 5 (omega arith) THREADS s.threads refl refl))
      (hold_all (list_rows h.words s) (t.lists.gray, (t.lists.grayagain, (t.lists.weak, (t.lists.queue, tt))))))
      (hold_all (main_rows h.words s) (t.mains.protos, (t.mains.top, (t.mains.opens, (t.mains.frame, tt))))))
      (hold_all (state_rows h.words) (phase_most, (t.low, (t.high, (t.sum.most, tt)))))

  header_in : HEADER ≤ length h.words
  header_in = let o : Order (lay_of s) = order (lay_of s) (laid_of s f) (apart s) in omega (arith, t.long, o.words, o.header, o.parts)

  accepts : sizes_at h.words ≡ s → accepted h.words (length h.bytes) ≡ true
  unfolding accepted
  accepts e =
      subst (λ (x : Sizes). leb HEADER (length h.words) && sizes_fit x && counts_fit h.words x && leb (lay_of x).words (length h.words) && leb (lay_of x).bytes (length h.bytes) ≡ true) (sym e)
      (both _ (leb (lay_of s).bytes (length h.bytes))
      (both _ (leb (lay_of s).words (length h.words))
      (both _ (counts_fit h.words s)
      (both (leb HEADER (length h.words)) (sizes_fit s) (le-leb HEADER (length h.words) header_in) (sizes_pass s f)) counts_pass)
      (le-leb (lay_of s).words (length h.words) t.long))
      (le-leb (lay_of s).bytes (length h.bytes) t.wide))

-- Test 1 gives the layout: neither 1 nor 8.
pub made_opened : (h : Heap) → Made h → opened h.words (length h.bytes) ≡ Ok (sizes_at h.words)
unfolding opened
made_opened h m = go (accepted h.words (length h.bytes)) (eqb (at h.words DAMAGE) 0) (accepts (sizes_at h.words) s.fits h s.state refl) (eq-eqb (at h.words DAMAGE) 0 s.state.whole)
  where
    s : Sound h
    s = made_sound m

    go : (a d : Bool) → a ≡ true → d ≡ true → ◌≡◌ {A = Result Sizes Refusal} (cond a (cond d (Ok (sizes_at h.words)) (Err Damaged)) (Err Unfit)) (Ok (sizes_at h.words))
    go true true e f = refl
    go true false e f = absurd (true≢false (sym f))
    go false d e f = absurd (true≢false (sym e))

-- So a call is its work with that layout,
pub made_call : {A : Type 0} (refuse : Refusal → A) (f : Lay → Heap → A × Heap) (h : Heap) → Made h → call refuse f h ≡ f (lay_at h) h
unfolding call
made_call refuse f h m = ap (on_opened refuse f h) (made_opened h m)

-- one whose work can set the damage mark too, where the heap after it is sound,
pub made_marked : {A : Type 0} (refuse : Refusal → A) (f : Lay → Heap → A × Heap) (h : Heap) → Made h → Sound (call_marked refuse f h).1 → call_marked refuse f h ≡ f (lay_at h) h
unfolding call_marked
made_marked {A} refuse f h m s =
    e ∙ ap (λ (x : A). (x, (f (lay_at h) h).1)) (sym (eq_yes (at (f (lay_at h) h).1.words DAMAGE) 0 (f (lay_at h) h).0 (refuse Damaged) _ (ap (λ (x : A × Heap). at x.1.words DAMAGE) (sym e) ∙ s.state.whole) refl))
  where
    e : call_marked refuse f h ≡ on_marked refuse f h (Ok (sizes_at h.words))
    e = ap (on_marked refuse f h) (made_opened h m)

-- and one that only reads.
pub made_ask : {A : Type 0} (refuse : Refusal → A) (f : Lay → Heap → A) (h : Heap) → Made h → ask refuse f h ≡ f (lay_at h) h
unfolding ask
made_ask refuse f h m = ap (on_asked refuse f h) (made_opened h m)

-- The total is the sum of the occupied slots of each arena times their sizes.
pub made_total : (h : Heap) → Made h
    → at h.words TOTAL ≡ 48 * occupied (lay_at h).strings h.words + 64 * occupied (lay_at h).tables h.words + 48 * occupied (lay_at h).functions h.words
    + 24 * occupied (lay_at h).upvalues h.words + 48 * occupied (lay_at h).userdata h.words + 256 * occupied (lay_at h).threads h.words
made_total h m =
    let s = (made_sound m).state in
    omega (
      arith,
      s.sum.total,
      (s.arenas 0 (omega arith)).counts,
      (s.arenas 1 (omega arith)).counts,
      (s.arenas 2 (omega arith)).counts,
      (s.arenas 3 (omega arith)).counts,
      (s.arenas 4 (omega arith)).counts,
      (s.arenas 5 (omega arith)).counts,
    )
