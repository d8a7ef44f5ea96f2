-- Numbers as patterns of 64 bits (IEEE 754): a sign, 11 bits of exponent, 52 of mantissa. Assumes nothing.
use Rattle.std.specs.Prelude.{ℕ, ◌%◌, Bool, true, false, ◌==◌, nat_lt}
use Rattle.base.specs.Ways.{if_lt, if_eq}

-- the bits without the sign
abbrev pub magnitude : ℕ → ℕ
magnitude x = x % 9223372036854775808

-- the bits of infinity: exponent all ones, mantissa 0
abbrev pub infinity : ℕ
infinity = 9218868437227405312

-- NaN: exponent all ones and a mantissa that is not 0.
abbrev pub is_nan : ℕ → Bool
is_nan x = nat_lt infinity (magnitude x)

-- Numbers as keys: NaN equals nothing; else equal bits are equal, and so are two zeros (0 equals -0).
unfoldable pub same_number : ℕ → ℕ → Bool
same_number x y =
    if_lt infinity (magnitude x) false
    (if_eq x y true
    (if_lt 0 (magnitude x) false (magnitude y == 0)))
