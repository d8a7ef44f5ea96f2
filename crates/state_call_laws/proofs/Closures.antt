-- A new closure is as a new object of 48 bytes. Assumes nothing.
--     headed_state          the head of a closure
--     new_closure_lem       a closure
use Rattle.std.specs.Prelude.{Bool, Ok, Err, Option, Result}
use Rattle.std.proofs.Common.{arith}
use mathlib.Core.List.{List}
use Prim.Native.Nat.{ℕ, ◌+◌, ◌≤◌}
use Rattle.base.specs.Heap.{Heap}
use Rattle.base.specs.declared.Refusal.{Refusal}
use Rattle.value.specs.declared.TableRef.{TableRef}
use Rattle.layout.specs.declared.Lay.{Lay}
use Rattle.laid.specs.Laid.{Laid}
use Rattle.run_record.specs.Closures.{closure_extent}
use Rattle.making.specs.Making.{new_object}
use Rattle.closures.specs.Closures.{put_head, headed, new_closure}
use Rattle.mark_laws.specs.Apart.{Apart}
use Rattle.room_laws.specs.Tallies.{Ample}
use Rattle.sweep_laws.specs.Places.{Rows}
use Rattle.state_laws.specs.State.{State}
use Rattle.state_laws.specs.Plains.{Plainly, plainly_none, past_put, past_handle, plain_state}
use Rattle.state_laws.specs.Takes.{Begun}
use Rattle.state_laws.proofs.Begins.{new_state}

module _ (l : Lay) (ok : Laid l) (a : Apart l) (r : Rows l) (am : Ample l) where
  -- The head of a closure.
  head_plain : {w u : List ℕ} (p : ℕ) (rust : Bool) (env : Option TableRef) (proto n : ℕ) → l.stack.base ≤ p → Plainly l w u → Plainly l w (put_head p rust env proto n u)
  unfolding put_head
  head_plain p rust env proto n g t =
      past_put l ok a (p + 4) _ (omega (arith, g))
      (past_put l ok a (p + 3) _ (omega (arith, g))
      (past_handle l ok a (p + 1) _ (omega (arith, g))
      (past_put l ok a p _ g t)))

  headed_state : (rust : Bool) (env : Option TableRef) (proto n : ℕ) (b : List ℕ) (x : Result (ℕ × ℕ × ℕ) Refusal × List ℕ) → Begun l ok a r b x → Begun l ok a r b (headed rust env proto n x)
  headed_state rust env proto n b (Ok (i, g, p), u) s = (plain_state l ok a r (head_plain p rust env proto n s.1 plainly_none) s.0, s.1)
  headed_state rust env proto n b (Err k, u) s = s

  module _ (h : Heap) (s : State l h) where
    abbrev w : List ℕ
    w = h.words

    -- A closure.
    pub new_closure_lem : (rust : Bool) (env : Option TableRef) (proto n : ℕ) → Begun l ok a r h.bytes (new_closure rust env proto n l w)
    unfolding new_closure
    new_closure_lem rust env proto n =
        headed_state rust env proto n h.bytes (new_object l.functions 48 (closure_extent rust n) w) (new_state l ok a r 2 (omega arith) (closure_extent rust n) s)
