-- What all calls that make an object begin with keeps the state. Assumes nothing.
--     new_state      a refusal, or a new record past the prototypes
--     on_new_lem     a kind then writes its record
use Rattle.std.specs.Prelude.{◌≡◌, Ok, Err, Result}
use Rattle.std.proofs.Math.Path.{sym, subst}
use Rattle.std.proofs.Common.{◌∙◌, true≢false, arith, lt-ltb}
use Rattle.std.proofs.Math.Bool.{false}
use Rattle.std.proofs.Math.Logic.{⊎_elim}
use mathlib.Core.List.{List}
use Prim.Native.Nat.{ℕ, min, ◌+◌, ◌≤◌, ◌<◌}
use Rattle.std.proofs.Math.Decide.{dec_lt}
use Rattle.std.proofs.Math.Dec.{ltb}
use Rattle.base.specs.Words.{at}
use Rattle.base.specs.Heap.{heap}
use Rattle.base.specs.declared.Refusal.{Refusal}
use Rattle.arena.specs.declared.Untaken.{Untaken}
use Rattle.arena.specs.Slots.{take_slot}
use Rattle.arena_laws.specs.Takes.{take-answers}
use Rattle.layout.specs.declared.Lay.{Lay}
use Rattle.layout.specs.Places.{WHITE, TOTAL}
use Rattle.laid.specs.Laid.{Laid}
use Rattle.counters.specs.Count.{counters_at, would_pass}
use Rattle.making.specs.declared.Made as making
use Rattle.making.specs.Making.{on_took, new_object, on_new}
use Rattle.mark.specs.Words.{arena_of}
use Rattle.mark_laws.specs.Apart.{Apart}
use Rattle.sweep_laws.specs.Places.{Rows, six_room}
use Rattle.state_laws.specs.State.{State, state_parted}
use Rattle.state_laws.specs.Plains.{cond_both}
use Rattle.state_laws.specs.Takes.{kind_size, Begun}
use Rattle.state_laws.proofs.Takes.{body, begun_state}

module _ (l : Lay) (ok : Laid l) (a : Apart l) (r : Rows l) where
  -- A refusal leaves all as it was, and else a slot is taken.
  pub new_state : (k : ℕ) → k ≤ 5 → (n : ℕ) {w b : List ℕ} → State l (heap w b) → Begun l ok a r b (new_object (arena_of l k) (kind_size k) n w)
  unfolding new_object
  new_state k g n {w} {b} s =
      cond_both (Begun l ok a r b) (would_pass (counters_at w) (kind_size k)) _ _ (λ e. s)
      (λ e. ⊎_elim
      (λ q. subst (λ (t : Result (ℕ × ℕ) Untaken). Begun l ok a r b (on_took (arena_of l k) (kind_size k) n (t, (take_slot (arena_of l k) (at w WHITE) n w).1))) (sym q.2)
      (begun_state l ok a r k g n q.0 q.1 s q.2 q.3 (fits (at w TOTAL + kind_size k) e), body l ok a r (state_parted s) k q.0 g))
      (λ q. subst (λ (t : Result (ℕ × ℕ) Untaken × List ℕ). Begun l ok a r b (on_took (arena_of l k) (kind_size k) n t)) (sym q.0) s)
      (take-answers (arena_of l k) (at w WHITE) n w (six_room l ok a r w s.long k g) (s.arenas k g) s.low (omega (arith, s.high))))
    where
      fits : (x : ℕ) → ltb 2147483647 (min x 4294967295) ≡ false → x ≤ 2147483647
      fits x e = go (dec_lt 2147483647 (min x 4294967295))
        where
          go : Dec (2147483647 < min x 4294967295) → x ≤ 2147483647
          go (yes h) = absurd (true≢false (sym (lt-ltb 2147483647 (min x 4294967295) h) ∙ e))
          go (no h) = omega (arith, h)

  -- Each kind writes its record.
  pub on_new_lem : (f : ℕ → ℕ → ℕ → List ℕ → Result making.Made Refusal × List ℕ) (b : List ℕ) (x : Result (ℕ × ℕ × ℕ) Refusal × List ℕ) → Begun l ok a r b x
      → ((i g p : ℕ) (u : List ℕ) → l.stack.base ≤ p → State l (heap u b) → State l (heap (f i g p u).1 b)) → State l (heap (on_new f x).1 b)
  on_new_lem f b (Ok (i, g, p), u) s write = write i g p u s.1 s.0
  on_new_lem f b (Err k, u) s write = s
