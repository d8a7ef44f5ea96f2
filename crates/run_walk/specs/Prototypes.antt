-- Document 01, 'Followed links': constants of a prototype and of all nested ones. A nested number not below its parent's is
-- skipped. Each number is walked once: `seen` has a 1 for those that were. Assumes nothing.
use Rattle.std.specs.Prelude.{List, ℕ, zero, suc, ◌+◌, replicate}
use Rattle.base.specs.Ways.{if_lt, if_le, if_eq}
use Rattle.base.specs.Loop.{run}
use Rattle.base.specs.Words.{at, put}
use Rattle.layout.specs.declared.Lay.{Lay}
use Rattle.main_record.specs.Prototypes.{proto_at, proto_constants, proto_nested, proto_child}
use Rattle.mark.specs.Ops.{Ops}
use Rattle.mark.specs.Marking.{mark_values}

-- none was walked
unfoldable pub zeros : ℕ → List ℕ
zeros n = replicate n 0

module _ {S : Type 0} (O : Ops S) (l : Lay) where
  unfoldable pub mark_constants : ℕ → S → S
  mark_constants n s = mark_values O l (proto_at l n + 3) (proto_constants l n (O.body s)) s

  -- the j-th prototype nested in n, by `mark`, if its number is below n
  unfoldable pub nested_one : (ℕ → S × List ℕ → S × List ℕ) → ℕ → ℕ → S × List ℕ → S × List ℕ
  nested_one mark n j x = if_lt (proto_child l n j (O.body x.0)) n (mark (proto_child l n j (O.body x.0)) x) x

  -- prototype n, its nested ones by `mark`
  unfoldable pub proto_by : (ℕ → S × List ℕ → S × List ℕ) → ℕ → S × List ℕ → S × List ℕ
  proto_by mark n x =
      let s₁ = mark_constants n x.0 in
      if_lt 0 (at x.1 n) x
      (run (nested_one mark n) 0 (proto_nested l n (O.body s₁)) (s₁, put n 1 x.1))

  -- prototype n, if its number is below b
  unfoldable pub below : ℕ → ℕ → S × List ℕ → S × List ℕ
  below zero n x = x
  below (suc b) n x = if_eq n b (proto_by (below b) n x) (below b n x)

  unfoldable pub mark_proto : ℕ → S × List ℕ → S × List ℕ
  mark_proto n x = below (suc n) n x

  -- A number with no prototype has no constants. One with none nested is walked with no set.
  unfoldable pub mark_proto_constants : ℕ → S → S
  mark_proto_constants n s =
      if_le l.protos.room n s
      (if_eq (proto_nested l n (O.body s)) 0 (mark_constants n s)
      (mark_proto n (s, zeros 256)).0)
