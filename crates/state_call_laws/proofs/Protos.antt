-- Making a prototype keeps the state: its nested numbers are below its own, had no parent and have it as theirs. Assumes nothing.
--     proto_state           the state
use Rattle.std.specs.Prelude.{◌≡◌}
use Rattle.std.proofs.Math.Path.{refl}
use Rattle.std.proofs.Common.{◌∙◌, arith}
use Rattle.std.proofs.Math.Bool.{true}
use mathlib.Core.List.{List}
use Prim.Native.Nat.{ℕ, ◌+◌, ◌/◌, ◌≤◌, ◌<◌}
use Rattle.std.proofs.Math.ListN.{length}
use Rattle.base.specs.Words.{put, clear}
use Rattle.base.specs.Heap.{heap}
use Rattle.layout.specs.declared.Lay.{Lay}
use Rattle.layout.specs.Places.{PROTOTYPES, TOP, OPENS, CI, TOTAL, INTERRUPTED, PROTO_WORDS}
use Rattle.main_record.specs.Prototypes.{protos_used, proto_at}
use Rattle.laid.specs.Laid.{Laid}
use Rattle.making.specs.Making.{put_values}
use Rattle.make_protos.specs.Making.{are_nestable, put_nested, put_proto}
use Rattle.mark.specs.Words.{arena_of}
use Rattle.mark_laws.specs.Apart.{Apart, Order, order}
use Rattle.sweep_laws.specs.Places.{Rows, top_is}
use Rattle.state_laws.specs.State.{State, sum_same, calm_state}
use Rattle.state_laws.specs.Plains.{nearly_calm, calm_none}
use Rattle.state_call_laws.proofs.Written

module _ (l : Lay) (ok : Laid l) (a : Apart l) (r : Rows l) (constants nested : List ℕ) {w b : List ℕ} (t : State l (heap w b)) (h : protos_used l w < l.protos.room)
    (few : (length constants ≤ 48) × (length nested ≤ 8)) (p : are_nestable l w nested ≡ true) where
  abbrev o : Order l
  o = order l ok a

  abbrev w₂ : List ℕ
  w₂ = put (proto_at l (protos_used l w) + 1) (length nested) (put (proto_at l (protos_used l w)) (length constants / 3) (clear (proto_at l (protos_used l w)) PROTO_WORDS w))

  abbrev w₃ : List ℕ
  w₃ = put_values (proto_at l (protos_used l w) + 3) constants (length constants / 3) w₂

  abbrev w₄ : List ℕ
  w₄ = put_nested l (protos_used l w) nested w₃

  abbrev u : List ℕ
  u = put PROTOTYPES (protos_used l w + 1) w₄

  pub proto_state : State l (heap (put_proto l (protos_used l w) constants nested w) b)
  unfolding put_proto
  proto_state =
      let below = Written.below l ok a r constants nested t h few p in
      let new_used = Written.new_used l ok a r constants nested t h few p in
      calm_state ok t (nearly_calm l ok a r (Written.near l ok a r constants nested t h few p) (calm_none l ok a t))
      (record {
        out = λ d. below INTERRUPTED (omega arith) (omega (arith, o.header, a)) ∙ t.out d;
        mains = record {
          protos = omega (arith, new_used, h);
          top = omega (arith, t.mains.top, below TOP (omega arith) (omega (arith, o.header, a)));
          opens = omega (arith, t.mains.opens, below OPENS (omega arith) (omega (arith, o.header, a)));
          frame = omega (arith, t.mains.frame, below CI (omega arith) (omega (arith, o.header, a)));
        };
        sum = sum_same l w u (below TOTAL (omega arith) (omega (arith, o.header, a)))
            (λ j g. below ((arena_of l j).top + 2) (λ e. omega (arith, e, top_is l ok a r j g)) (omega (arith, g, top_is l ok a r j g, o.header, a))) t.sum;
        nested = Written.nested_now l ok a r constants nested t h few p;
      })
      refl
