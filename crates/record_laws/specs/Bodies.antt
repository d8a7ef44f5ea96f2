-- The bodies of one arena are apart, so a store into one slot's record leaves the records of the others. Assumes nothing.
use Rattle.std.specs.Prelude.{◌≡◌, List, ◌≢◌, ℕ, ◌+◌, ◌*◌, ◌≤◌, ◌<◌, take}
use Rattle.std.proofs.Common.{inl, inr, arith}
use Rattle.std.proofs.Math.Decide.{dec_lt}
use Rattle.arena.specs.declared.Arena.{Arena}
use Rattle.arena.specs.Slots.{row}
use Rattle.record.specs.Fields.{body_at}
use Rattle.record_laws.specs.Stores.{Only, Apart, apart_in, below_stays}

pub bodies_apart : (a : Arena) (i j : ℕ) → i ≢ j → Apart (body_at a i) a.stride (body_at a j) a.stride
bodies_apart a i j d = go (dec_lt i j)
  where
    go : Dec (i < j) → Apart (body_at a i) a.stride (body_at a j) a.stride
    go (yes h) = inr (omega (arith, row a.stride h))
    go (no h) = let g : j < i = omega arith in inl (omega (arith, row a.stride g))

-- m words of slot j's body, from place k of it on, are apart from slot i's body
pub other_body : (a : Arena) (i j k m : ℕ) → i ≢ j → k + m ≤ a.stride → Apart (body_at a i) a.stride (body_at a j + k) m
other_body a i j k m d h = apart_in (body_at a i) a.stride (body_at a j) a.stride (bodies_apart a i j d) (body_at a j + k) m (omega arith) (omega arith)

-- a body lies among the arena's bodies
pub body_in_lem : (a : Arena) (i : ℕ) → i < a.slots → body_at a i + a.stride ≤ a.bodies + a.slots * a.stride
body_in_lem a i h = omega (arith, row a.stride h)

-- where the bodies lie past a boundary, a store into one leaves all words below it
pub body_below : {w u : List ℕ} (a : Arena) (i d : ℕ) → Only (body_at a i) a.stride w u → d ≤ a.bodies → take d u ≡ take d w
body_below a i d o h = below_stays o d (omega arith)
