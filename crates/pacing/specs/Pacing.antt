-- Document 01, 'Steps and pacing': budgets, debt, thresholds and estimate as numbers. The debt is stored plus 2^63.
-- Assumes nothing.
use Rattle.std.specs.Prelude.{ℕ, ◌+◌, ◌-◌, ◌*◌, ◌/◌, min, max, ℤ, pos, negsuc}
use Rattle.base.specs.Ways.{if_lt, if_eq}
use Rattle.pacing.specs.declared.Counts.{Counts}

-- A budget below 0 acts as 0.
abbrev pub budget_of : ℤ → ℕ
budget_of (pos n) = n
budget_of (negsuc n) = 0

-- Automatic budget: (1024/100) * stepmul, whole division; for stepmul 0, 2^62 - 1.
unfoldable pub automatic_budget : ℕ → ℕ
automatic_budget stepmul = if_eq stepmul 0 4611686018427387903 (10 * stepmul)

-- The debt grows by total minus threshold. Sums stop at the ends of 64 bits.
abbrev pub grown_debt : ℕ → ℕ → ℕ → ℕ
grown_debt debt total threshold = min (debt + total - threshold) 18446744073709551615

-- At the end of a cycle the threshold is (estimate / 100) * pause, at least 4,096.
abbrev pub cycle_threshold : ℕ → ℕ → ℕ
cycle_threshold estimate pause = max (estimate / 100 * pause) 4096

-- Finish with success sets the threshold to total * pause / 100.
abbrev pub finish_threshold : ℕ → ℕ → ℕ
finish_threshold total pause = total * pause / 100

-- A budgeted step that does not end the cycle: where the debt is below 1,024 the threshold is total + 1,024; else it is the
-- total, and the debt is 1,024 less.
unfoldable pub step_threshold : ℕ → ℕ → ℕ
step_threshold debt total = if_lt debt 9223372036854776832 (total + 1024) total

unfoldable pub debt_after : ℕ → ℕ
debt_after debt = if_lt debt 9223372036854776832 debt (debt - 1024)

-- An entry that does not fail lowers an estimate above 100 by 100.
unfoldable pub lowered : ℕ → ℕ
lowered estimate = if_lt 100 estimate (estimate - 100) estimate

-- Total and estimate stop at 0.
abbrev pub less : ℕ → ℕ → ℕ
less x n = x - n

-- Sizes in the total: string 48, table 64, closure 48, upvalue 24, userdata 48, thread 256.
abbrev pub memory : Counts → ℕ
memory c = 48 * c.strings + 64 * c.tables + 48 * c.functions + 24 * c.upvalues + 48 * c.userdata + 256 * c.threads
