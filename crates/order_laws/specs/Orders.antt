-- Separation queues by rising creation number, ties by rising index. `w` are the words before it. That it does so, from an empty queue,
-- is proved in proofs/Orders.antt.
--     Before, Ordered      the order, and a queue in it
use Rattle.std.specs.Prelude.{◌≡◌, List, ◌⊎◌}
use Prim.Native.Nat.{ℕ, ◌<◌}
use Rattle.layout.specs.declared.Lay.{Lay}
use Rattle.lists.specs.Lists.{index_of, item_in, length_of, place}
use Rattle.record.specs.Fields.{body_at}
use Rattle.record.specs.Userdata.{ud_creation}

-- the creation number of the userdata in slot i
abbrev pub created : Lay → List ℕ → ℕ → ℕ
created l w i = ud_creation (body_at l.userdata i) w

-- By rising creation number, ties by rising index.
abbrev pub Before : Lay → List ℕ → ℕ → ℕ → Type 0
Before l w i j = (created l w i < created l w j) ⊎ ((created l w i ≡ created l w j) × (i < j))

-- the slot of the queue's item k
abbrev pub slot_of : Lay → List ℕ → ℕ → ℕ
slot_of l u k = index_of (item_in u (place l.queue k))

-- Each item of the queue comes before all behind it.
abbrev pub Ordered : Lay → List ℕ → List ℕ → Type 0
Ordered l w u = (i j : ℕ) → i < j → j < length_of l.queue u → Before l w (slot_of l u i) (slot_of l u j)
