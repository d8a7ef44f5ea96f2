-- The counters total, peak and limit: what an allocation does to them, and where the header has them. Assumes nothing.
use Rattle.std.specs.Prelude.{Bool, List, ℕ, ◌+◌, min, max, ltb}
use Rattle.base.specs.Words.{at, put, get64}
use Rattle.layout.specs.Places.{LIMIT, TOTAL, PEAK}
use Rattle.counters.specs.declared.Counters.{Counters}

-- An allocation adds to the total, which stops at the end of its word, and raises the peak to it.
abbrev pub tracked : Counters → ℕ → Counters
tracked c n = record { total = min (c.total + n) 4294967295; peak = max c.peak (min (c.total + n) 4294967295); limit = c.limit }

-- Refusal 6: the tracked total would pass 2^31 - 1.
abbrev pub would_pass : Counters → ℕ → Bool
would_pass c n = ltb 2147483647 (min (c.total + n) 4294967295)

-- total and peak have a word each, the limit has 64 bits
abbrev pub counters_at : List ℕ → Counters
counters_at w = record { total = at w TOTAL; peak = at w PEAK; limit = get64 w LIMIT }

abbrev pub put_counters : Counters → List ℕ → List ℕ
put_counters c w = put PEAK c.peak (put TOTAL c.total w)

unfoldable pub track : ℕ → List ℕ → List ℕ
track n w = put_counters (tracked (counters_at w) n) w
