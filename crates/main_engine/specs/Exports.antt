-- How a setting is told: 0 with the value before in words 0 and 1, the low one first, or the refusal. Assumes nothing.
use Rattle.std.specs.Prelude.{List, ℕ, Ok, Err, Result}
use Rattle.base.specs.Words.{put64}
use Rattle.base.specs.declared.Refusal.{Refusal}
use Rattle.base.specs.Refusals.{number}

unfoldable pub setting_told : Result ℕ Refusal → List ℕ → ℕ × List ℕ
setting_told (Ok n) out = (0, put64 0 n out)
setting_told (Err k) out = (number k, out)
