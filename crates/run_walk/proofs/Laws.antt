-- The parts of a layout in a number of words; one prototype by the definition, step by step. Assumes nothing.
--     parts_in, stack_most, frames_most                  what a planned layout gives
--     Nested                                             the invariant of the loop over nested prototypes
--     below_enough, proto_step                           any bound above a number walks it the same way
--     nested_below, nested_skipped                       the two ways of a turn
--     proto_seen, proto_walked                           the two ways of a walk
use mathlib.Core.Path.{◌≡◌, refl, sym, ◌∙◌}
use mathlib.Core.List.{List}
use Prim.Native.Nat.{ℕ, zero, suc, ◌≤◌, ◌<◌}
use native.Mathlib.Decide.{dec_lt}
use native.Mathlib.Omega.{arith}
use lib.ListN.{length}
use Rattle.base.specs.Ways.{lt_yes, lt_no, eq_yes, eq_no}
use Rattle.base.specs.Loop.{run}
use Rattle.base.specs.Words.{at, put}
use Rattle.layout.specs.declared.Lay.{Lay}
use Rattle.main_record.specs.Parts.{Parts, parts}
use Rattle.main_record.specs.Prototypes.{proto_nested, proto_child}
use Rattle.laid.specs.Laid.{Laid}
use Rattle.mark.specs.Ops.{Ops}
use Rattle.run_walk.specs.Prototypes.{mark_constants, nested_one, proto_by, below, mark_proto}

pub parts_in : {l : Lay} {n : ℕ} → Laid l → l.words ≤ n → Parts l n
unfolding Laid
parts_in {l} ok h =
    let p = parts l l.words l.bytes ok in
    record {
      header = omega (arith, p.header);
      protos = omega (arith, p.protos);
      stack = omega (arith, p.stack);
      opens = omega (arith, p.opens);
      frames = omega (arith, p.frames);
      frame = p.frame;
      sizes = p.sizes;
    }

module _ (l : Lay) where
  pub stack_most : Laid l → l.stack.room ≤ 256
  unfolding Laid
  stack_most ok = ok.stack.room

  pub frames_most : Laid l → l.frames.room ≤ 32
  unfolding Laid
  frames_most ok = ok.frames.room

-- What is left gives the whole, and both buffers stay as long.
pub record Nested (step : ℕ → List ℕ × List ℕ → List ℕ × List ℕ) (m : ℕ) (w₀ seen₀ w seen : List ℕ) (j : ℕ) : Type 0 where
  pub rest : run step j m (w, seen) ≡ run step 0 m (w₀, seen₀)
  pub long : length w ≡ length w₀
  pub full : length seen ≡ length seen₀

module _ {S : Type 0} (O : Ops S) (l : Lay) where
  pub below_enough : (b n : ℕ) (x : S × List ℕ) → n < b → below O l b n x ≡ mark_proto O l n x
  unfolding below mark_proto
  below_enough zero n x h = absurd (let z : ⊥ = omega arith in z)
  below_enough (suc b) n x h = go (dec_lt n b) (λ k. below_enough b n x k)
    where
      go : Dec (n < b) → (n < b → below O l b n x ≡ mark_proto O l n x) → below O l (suc b) n x ≡ mark_proto O l n x
      go (yes k) ih = sym (eq_no n b (proto_by O l (below O l b) n x) (below O l b n x) (mark_proto O l n x) (λ e. omega arith) (sym (ih k)))
      go (no k) ih = let e : n ≡ b = omega arith in rw e

  pub proto_step : (n : ℕ) (x : S × List ℕ) → proto_by O l (below O l n) n x ≡ mark_proto O l n x
  unfolding below mark_proto
  proto_step n x = eq_yes n n (proto_by O l (below O l n) n x) (below O l n n x) (proto_by O l (below O l n) n x) refl refl

  -- one nested prototype: walked, or skipped
  pub nested_below : (n j : ℕ) (x y : S × List ℕ) {q : ℕ} → q ≡ proto_child l n j (O.body x.0) → q < n → y ≡ mark_proto O l q x → y ≡ nested_one O l (below O l n) n j x
  unfolding nested_one
  nested_below n j x y {q} p h r = rw (← p) (lt_yes q n (below O l n q x) x y h (r ∙ sym (below_enough n q x h)))

  pub nested_skipped : (n j : ℕ) (x y : S × List ℕ) {q : ℕ} → q ≡ proto_child l n j (O.body x.0) → n ≤ q → y ≡ x → y ≡ nested_one O l (below O l n) n j x
  unfolding nested_one
  nested_skipped n j x y {q} p h r = rw (← p) (lt_no q n (below O l n q x) x y h r)

  pub proto_seen : (n : ℕ) (x : S × List ℕ) → 0 < at x.1 n → x ≡ mark_proto O l n x
  unfolding proto_by
  proto_seen n x h = lt_yes 0 (at x.1 n) x _ x h refl ∙ proto_step n x

  pub proto_walked : (n : ℕ) (x y : S × List ℕ) {s : S} {m : ℕ} → at x.1 n ≤ 0 → s ≡ mark_constants O l n x.0 → m ≡ proto_nested l n (O.body s) → y ≡ run (nested_one O l (below O l n) n) 0 m (s, put n 1 x.1) → y ≡ mark_proto O l n x
  unfolding proto_by
  proto_walked n x y {s} {m} h p q r = lt_no 0 (at x.1 n) x _ y h (rw (← p, ← q) r) ∙ proto_step n x
