-- Document 01, 'Refusal numbers': what each refusal is told as. Assumes nothing.
use Rattle.std.specs.Prelude.{ℕ}
use Rattle.base.specs.declared.Refusal.{Refusal}
use Rattle.base.specs.declared.Refusal.TheVariants.{Unfit, Stale, Full, OutOfRange, WrongState, TooLarge, OverLimit, Damaged, Other}

abbrev pub number : Refusal → ℕ
number Unfit = 1
number Stale = 2
number Full = 3
number OutOfRange = 4
number WrongState = 5
number TooLarge = 6
number OverLimit = 7
number Damaged = 8
number (Other n) = n
