-- A counted part of the words, and a value that a call is given to store at a place. Assumes nothing.
use Rattle.std.specs.Prelude.{cond, List, ℕ, ◌+◌, ◌*◌, ◌≤◌, ◌<◌, Ok, Err, Result}
use Rattle.base.specs.declared.Refusal.TheVariants.{Stale}
use Rattle.base.specs.declared.Refusal.{Refusal}
use Rattle.value.specs.declared.Value.{Value}
use Rattle.value.specs.Values.{put_value}
use Rattle.layout.specs.declared.Lay.{Lay}
use Rattle.given.specs.Given.{is_sound}
use Rattle.stacks.specs.declared.Counted.{Counted}

-- It lies within n words, with `size` words for each of its places, and its count within its room.
pub record Holds (s : Counted) (size n : ℕ) : Type 0 where
  pub word : s.word < n
  pub room : s.room ≤ 256
  pub fits : s.base + size * s.room ≤ n
  pub count : s.count ≤ s.room

-- A handle given that names no occupied slot of its kind is 2, and changes nothing.
unfoldable pub store_value : Lay → ℕ → Value → List ℕ → Result Unit Refusal × List ℕ
store_value l p v w = cond (is_sound l v w) (Ok tt, put_value p v w) (Err Stale, w)
