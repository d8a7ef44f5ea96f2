-- What is written of words of pacing keeps the state, and so do a hand-out in Finalize and its end. Assumes nothing.
--     free_plain, ends_plain, cycle_plain, grown_plain     words of pacing
--     handed_state, taken_free     a hand-out in Finalize; its end
use Rattle.std.specs.Prelude.{◌≡◌, refl, length}
use Rattle.std.proofs.Common.{sym, ap, ◌∙◌, inl, inr, arith, length-set, get_or-set_same, get_or-set_other}
use mathlib.Core.List.{List}
use Prim.Native.Nat.{ℕ, ◌+◌, ◌*◌, ◌≤◌, ◌<◌}
use Rattle.std.proofs.Math.Decide.{ℕ_discrete}
use Rattle.base.specs.Words.{at, put, bounded}
use Rattle.base.specs.Heap.{heap}
use Rattle.arena.specs.Slots.{count}
use Rattle.arena_laws.specs.Words.{le_is}
use Rattle.arena_laws.specs.Keeps.{occupied_most}
use Rattle.value.specs.declared.UdRef.{UdRef}
use Rattle.layout.specs.declared.Lay.{Lay}
use Rattle.layout.specs.Places.{PHASE, TOTAL, THRESHOLD, DEBT, INTERRUPTED, OUT, REMAINING}
use Rattle.laid.specs.Laid.{Laid}
use Rattle.mark.specs.Words.{arena_of}
use Rattle.accounts.specs.Accounts.{memory_of, update_threshold, step_ends, handed, taken_back, grown}
use Rattle.mark_laws.specs.Apart.{Apart, Order, order}
use Rattle.sweep_laws.specs.Places.{Rows, six_room, top_is}
use Rattle.state_laws.specs.State.{State}
use Rattle.state_laws.specs.Plains.{pacing, handed as handing, marks, Plainly, plainly_none, plainly_two, plainly_handle, plain_state, out_state}
use Rattle.state_laws.specs.Plains as plains
use Rattle.state_step_laws.specs.Marks.{Free}

module _ (l : Lay) (ok : Laid l) (a : Apart l) (r : Rows l) where
  abbrev o : Order l
  o = order l ok a

  -- Plain words change.
  pub free_plain : {w u b : List ℕ} → Plainly l w u → Free l (heap w b) → Free l (heap u b)
  free_plain p c = record { state = plain_state l ok a r p c.state; none = p.aside INTERRUPTED (plains.out refl) ∙ c.none }

  -- The ends of a step and of a cycle, and a debt that grows, write words of pacing.
  pub ends_plain : (w : List ℕ) → Plainly l w (step_ends w)
  unfolding step_ends
  ends_plain w =
      plainly_two l ok a THRESHOLD _ _ (pacing (omega arith) (omega arith)) (pacing (omega arith) (omega arith))
      (plainly_two l ok a DEBT _ _ (pacing (omega arith) (omega arith)) (pacing (omega arith) (omega arith)) plainly_none)

  -- the total that is counted anew is the total
  memory_is : {w b : List ℕ} → State l (heap w b) → memory_of w ≡ at w TOTAL
  memory_is {w} {b} s =
      let c : (k : ℕ) (g : k ≤ 5) → bounded (at w (73 + 3 * k + 2)) 4096 ≡ count (arena_of l k) w =
      λ k g. le_is (at w (73 + 3 * k + 2)) 4096 (omega (arith, here k g, (s.arenas k g).counts, occupied_most (arena_of l k) w, (six_room l ok a r w s.long k g).slots)) ∙ here k g in
      omega (arith, s.sum.total, c 0 (omega arith), c 1 (omega arith), c 2 (omega arith), c 3 (omega arith), c 4 (omega arith), c 5 (omega arith))
    where
      here : (k : ℕ) → k ≤ 5 → at w (73 + 3 * k + 2) ≡ count (arena_of l k) w
      here k g = ap (λ (x : ℕ). at w (x + 2)) (sym (top_is l ok a r k g))

  -- a word stored as it stands
  stored_same : (p n : ℕ) (w : List ℕ) → p < length w → n ≡ at w p → (x : ℕ) → at (put p n w) x ≡ at w x
  stored_same p n w h e x = go (ℕ_discrete x p)
    where
      go : Dec (x ≡ p) → at (put p n w) x ≡ at w x
      go (yes z) = ap (at (put p n w)) z ∙ get_or-set_same w p n 0 h ∙ e ∙ ap (at w) (sym z)
      go (no d) = get_or-set_other w p x n 0 d

  pub cycle_plain : {w b : List ℕ} → State l (heap w b) → Plainly l w (update_threshold w)
  unfolding update_threshold
  cycle_plain {w} {b} s =
      plainly_two l ok a THRESHOLD _ _ (pacing (omega arith) (omega arith)) (pacing (omega arith) (omega arith)) counted
    where
      same : (x : ℕ) → at (put TOTAL (memory_of w) w) x ≡ at w x
      same x = stored_same TOTAL (memory_of w) w (omega (arith, s.long, o.words, o.header, a)) (memory_is s) x

      counted : Plainly l w (put TOTAL (memory_of w) w)
      counted = record { near = record { long = length-set w TOTAL (memory_of w); same = λ x h. same x }; aside = λ x h. same x }

  pub grown_plain : (w : List ℕ) → Plainly l w (grown w)
  grown_plain w = plainly_two l ok a DEBT _ _ (pacing (omega arith) (omega arith)) (pacing (omega arith) (omega arith)) plainly_none

  -- A finalizer is handed out in Finalize,
  pub handed_state : (kind : ℕ) (x : UdRef) (left : ℕ) {w b : List ℕ} → at w PHASE ≡ 4 → State l (heap w b) → State l (heap (handed kind x left w) b)
  unfolding handed
  handed_state kind x left p s =
      plain_state l ok a r
      (plainly_two l ok a REMAINING _ _ (handing (omega arith) (omega arith)) (handing (omega arith) (omega arith))
      (plainly_handle l ok a OUT _ (handing (omega arith) (omega arith)) (handing (omega arith) (omega arith)) plainly_none))
      (out_state l ok a r kind (inl p) s)

  -- and taken back.
  back_plain : (w : List ℕ) → Plainly l (put INTERRUPTED 0 w) (taken_back w)
  unfolding taken_back
  back_plain w =
      plainly_two l ok a REMAINING _ _ (handing (omega arith) (omega arith)) (handing (omega arith) (omega arith))
      (plainly_handle l ok a OUT _ (handing (omega arith) (omega arith)) (handing (omega arith) (omega arith)) plainly_none)

  pub taken_free : {w b : List ℕ} → State l (heap w b) → Free l (heap (taken_back w) b)
  taken_free {w} {b} s =
      free_plain (back_plain w)
      (record { state = out_state l ok a r 0 (inr refl) s; none = get_or-set_same w INTERRUPTED 0 0 (omega (arith, s.long, o.words, o.header, a)) })

  pub taken_phase : (w : List ℕ) → at (taken_back w) PHASE ≡ at w PHASE
  taken_phase w = (back_plain w).near.same PHASE (marks (omega arith) (omega arith)) ∙ get_or-set_other w INTERRUPTED PHASE 0 0 (omega arith)
