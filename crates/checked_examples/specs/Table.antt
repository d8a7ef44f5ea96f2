-- Document 01, 'Checked examples': those marked * as one table. A row is what the definitions give and what the document says.
-- Assumes nothing.
use Rattle.std.specs.Prelude.{List, [], ◌∷◌, ℕ}
use Rattle.arena.specs.Slots.{gen, head}
use Rattle.pacing.specs.Pacing.{automatic_budget, cycle_threshold}
use Rattle.checked_examples.specs.Slots.{small, chain_from, said, eighty, first, second, five, wrapped}
use Rattle.checked_examples.specs.Queue.{due, handed}

unfoldable pub table : List (List ℕ × List ℕ)
table =
    -- stepmul 200: budget 2,000
    (automatic_budget 200 ∷ [], 2000 ∷ [])
    -- estimate 4,199, pause 100: threshold 4,100; 112, pause 200: 4,096
    ∷ (cycle_threshold 4199 100 ∷ [], 4100 ∷ [])
    ∷ (cycle_threshold 112 200 ∷ [], 4096 ∷ [])
    -- 80 slots all occupied: one sweep step, next 80, done
    ∷ (said eighty.0, 80 ∷ 1 ∷ [])
    -- 81 slots, last free: next 80 not done, then 81 done
    ∷ (said first.0, 80 ∷ 0 ∷ [])
    ∷ (said second.0, 81 ∷ 1 ∷ [])
    -- five slots, 4 free, 1 and 3 dead: chain 3, 1, 4
    ∷ (chain_from (small 5) 6 (head (small 5) five.1.words) five.1.words, 3 ∷ 1 ∷ 4 ∷ [])
    -- generation 4,294,967,295 freed becomes 0
    ∷ (gen (small 5) 2 wrapped.words ∷ [], 0 ∷ [])
    -- creation numbers 4, 9, 7 queued: handed out 9, 7, 4
    ∷ (handed 3 due, 9 ∷ 7 ∷ 4 ∷ [])
    ∷ []
