-- Propagation: one gray object after the other is taken off the end of the list and traversed. Assumes nothing.
use Rattle.std.specs.Prelude.{Bool, true, false, cond, List, ℕ, zero, suc, ◌+◌, ◌≤◌, Some, None, Option}
use Rattle.layout.specs.declared.Lay.{Lay}
use Rattle.lists.specs.declared.Item.{Item}
use Rattle.lists.specs.declared.Item.TheVariants.{Table, Function, Userdata, Thread, Main, Unknown}
use Rattle.mark.specs.Ops.{gray, Ops}
use Rattle.table_walk.specs.Tables.{traverse_table}
use Rattle.run_walk.specs.Closures.{traverse_closure}
use Rattle.run_walk.specs.Threads.{traverse_thread}
use Rattle.propagate.specs.declared.Propagated.{Propagated}
use Rattle.propagate.specs.declared.Propagated.TheVariants.{Done, NeedMainThread, Empty}

-- no cost is larger
abbrev pub Costs : Propagated → Type 0
Costs (Done c) = c ≤ 3136
Costs NeedMainThread = Unit {0}
Costs Empty = Unit {0}

abbrev pub goes_on : Propagated → Bool
goes_on (Done c) = true
goes_on NeedMainThread = true
goes_on Empty = false

-- A step takes one item out, and an item is listed only where a white slot becomes gray: so many steps are enough.
abbrev pub rounds : Lay → ℕ
rounds l = l.gray.room + l.tables.slots + l.functions.slots + l.threads.slots

module _ {S : Type 0} (O : Ops S) (l : Lay) (b : List ℕ) where
  abbrev pub done : ℕ × S → Propagated × S
  done x = (Done x.0, x.1)

  -- An unknown list item is taken out at cost 0.
  unfoldable pub propagate_item : Item → S → Propagated × S
  propagate_item (Table r) s = done (traverse_table O l b r s)
  propagate_item (Function r) s = done (traverse_closure O l r s)
  propagate_item (Thread r) s = done (traverse_thread O l r s)
  propagate_item Main s = (NeedMainThread, s)
  propagate_item (Userdata r) s = (Done 0, s)
  propagate_item Unknown s = (Done 0, s)

  abbrev pub propagate_popped : Option Item × S → Propagated × S
  propagate_popped (Some x, s) = propagate_item x s
  propagate_popped (None, s) = (Empty, s)

  unfoldable pub propagate_one : S → Propagated × S
  propagate_one s = propagate_popped (O.pop gray s)

  -- until nothing is gray, n steps at most
  unfoldable pub propagate_for : ℕ → S → S
  propagate_for zero s = s
  propagate_for (suc n) s = cond (goes_on (propagate_one s).0) (propagate_for n (propagate_one s).1) (propagate_one s).1

  unfoldable pub propagate_all : S → S
  propagate_all s = propagate_for (rounds l) s
