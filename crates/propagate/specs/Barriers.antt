-- Both barriers. They act during Propagate only (phase 1). Assumes nothing.
use Rattle.std.specs.Prelude.{ℕ}
use Rattle.base.specs.Ways.{if_eq}
use Rattle.base.specs.Words.{at}
use Rattle.value.specs.declared.TableRef.{TableRef}
use Rattle.value.specs.declared.Value.{Value}
use Rattle.layout.specs.declared.Lay.{Lay}
use Rattle.layout.specs.Places.{PHASE, WHITE}
use Rattle.lists.specs.declared.Item.TheVariants.{Table}
use Rattle.mark.specs.Ops.{tab, grayagain, Ops}
use Rattle.mark.specs.Marking.{mark_value, value_colour}

module _ {S : Type 0} (O : Ops S) where
  -- A black table is gray again, and listed for the atomic phase.
  unfoldable pub barrier_back : TableRef → S → S
  barrier_back r s =
      if_eq (at (O.body s) PHASE) 1
      (if_eq (O.colour (tab r) s) 4 (O.push grayagain (Table r) (O.paint (tab r) 3 s)) s)
      s

  -- A child in the current white of a black parent is marked.
  unfoldable pub barrier_forward : Lay → ℕ → Value → S → S
  barrier_forward l parent v s =
      if_eq (at (O.body s) PHASE) 1
      (if_eq parent 4
      (if_eq (value_colour O v s) (at (O.body s) WHITE) (mark_value O l v s) s)
      s)
      s
