-- What the test says of each nested prototype: it is made and has no parent. Assumes nothing.
--     nest_made, nest_free     its number is below those in use; it has no parent
use Rattle.std.specs.Prelude.{◌≡◌}
use Rattle.std.proofs.Math.Path.{refl, sym}
use Rattle.std.proofs.Common.{◌∙◌, arith}
use Rattle.std.proofs.Math.Bool.{true, false, true≢false}
use mathlib.Core.List.{List}
use Prim.Native.Nat.{ℕ, ◌<◌}
use Rattle.std.proofs.Math.Decide.{dec_lt}
use Rattle.std.proofs.Math.ListN.{length}
use Rattle.base.specs.Ways.{if_lt, le_yes, le_no, lt_yes}
use Rattle.base.specs.Words.{at}
use Rattle.layout.specs.declared.Lay.{Lay}
use Rattle.main_record.specs.Prototypes.{protos_used, proto_parent}
use Rattle.making.specs.Turns.{each_holds}
use Rattle.make_protos.specs.Making.{is_first, can_nest, are_nestable}

-- What the test says: it is made, has no parent and is named once.
module _ (l : Lay) (w s : List ℕ) (p : are_nestable l w s ≡ true) where
  holds : (k : ℕ) → k < length s → can_nest l w s k ≡ true
  unfolding are_nestable
  holds k h = each_holds (can_nest l w s) (length s) p k h

  pub nest_made : (k : ℕ) → k < length s → at s k < protos_used l w
  unfolding can_nest
  nest_made k h = go (dec_lt (at s k) (protos_used l w))
    where
      go : Dec (at s k < protos_used l w) → at s k < protos_used l w
      go (yes x) = x
      go (no x) = absurd (true≢false (sym (holds k h) ∙ sym (le_yes (protos_used l w) (at s k) false (if_lt 0 (proto_parent l (at s k) w) false (is_first s k)) false (omega (arith, x)) refl)))

  pub nest_rest : (k : ℕ) → k < length s → if_lt 0 (proto_parent l (at s k) w) false (is_first s k) ≡ true
  unfolding can_nest
  nest_rest k h = le_no (protos_used l w) (at s k) false (if_lt 0 (proto_parent l (at s k) w) false (is_first s k)) _ (nest_made k h) refl ∙ holds k h

  pub nest_free : (k : ℕ) → k < length s → proto_parent l (at s k) w ≡ 0
  nest_free k h = go (dec_lt 0 (proto_parent l (at s k) w))
    where
      go : Dec (0 < proto_parent l (at s k) w) → proto_parent l (at s k) w ≡ 0
      go (yes x) = absurd (true≢false (sym (nest_rest k h) ∙ sym (lt_yes 0 (proto_parent l (at s k) w) false (is_first s k) false x refl)))
      go (no x) = omega (arith, x)
