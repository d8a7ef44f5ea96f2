-- What pays for the lists, before and after a thing that marking does. Assumes nothing.
--     Whole              words got from others: as long, the damage mark as it was, the lists paid for
--     Painted, Grown     the numbers before and after: a slot painted, an item pushed onto gray
use Rattle.std.specs.Prelude.{◌≡◌, List, ℕ, ◌+◌, ◌≤◌, eqb, length}
use Rattle.base.specs.Words.{at}
use Rattle.layout.specs.declared.Lay.{Lay}
use Rattle.lists.specs.Lists.{damage}
use Rattle.mark_laws.specs.Items.{one}
use Rattle.room_laws.specs.Tallies.{Tally, tally, Paid}

-- The words u were got from the words w: they are as long, the damage mark is as it was, and the lists are paid for.
pub record Whole (l : Lay) (p t q : ℕ) (w u : List ℕ) : Type 0 where
  pub long : length u ≡ length w
  pub mark : at u damage ≡ at w damage
  pub paid : Paid (tally l u) p t q

-- Sums over any tallies: x before, y after the painting, z after the push.
-- A painted slot: the lists as they were, no dark slot lost.
pub record Painted (x y : Tally) : Type 0 where
  pub gray : y.gray ≡ x.gray
  pub weak : y.weak ≡ x.weak
  pub again : y.again ≡ x.again
  pub tables : y.tables ≡ x.tables
  pub threads : y.threads ≡ x.threads
  pub mains : y.mains ≡ x.mains
  pub later : y.later ≡ x.later
  pub dark_tables : x.dark_tables ≤ y.dark_tables
  pub dark_closures : x.dark_closures ≤ y.dark_closures
  pub dark_threads : x.dark_threads ≤ y.dark_threads

-- An item of kind c pushed onto gray: the colours and the other lists as they were.
pub record Grown (c : ℕ) (y z : Tally) : Type 0 where
  pub gray : z.gray ≤ y.gray + 1
  pub weak : z.weak ≡ y.weak
  pub again : z.again ≡ y.again
  pub tables : z.tables ≤ y.tables + one (eqb c 5)
  pub threads : z.threads ≤ y.threads + one (eqb c 8)
  pub mains : z.mains ≤ y.mains + one (eqb c 9)
  pub later : z.later ≡ y.later
  pub dark_tables : z.dark_tables ≡ y.dark_tables
  pub dark_closures : z.dark_closures ≡ y.dark_closures
  pub dark_threads : z.dark_threads ≡ y.dark_threads
  pub gray_tables : z.gray_tables ≡ y.gray_tables
