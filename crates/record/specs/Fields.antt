-- What the records share: the place of a body, and the fields that are no value and no handle that may be missing.
-- Assumes nothing.
use Rattle.std.specs.Prelude.{Bool, List, ℕ, ◌+◌, ◌*◌}
use Rattle.base.specs.Words.{at, put}
use Rattle.arena.specs.declared.Arena.{Arena}
use Rattle.value.specs.declared.UpvalRef.{UpvalRef}
use Rattle.value.specs.Values.{word_of}

-- The body of slot i: stride words from here on.
abbrev pub body_at : Arena → ℕ → ℕ
body_at a i = a.bodies + i * a.stride

-- A flag: 1 for yes, 0 for no.
abbrev pub put_flag : ℕ → Bool → List ℕ → List ℕ
put_flag p b w = put p (word_of b) w

-- An upvalue's handle that is always there, in two words: index and generation.
abbrev pub upval_at : List ℕ → ℕ → UpvalRef
upval_at w p = record { 0 = at w p; 1 = at w (p + 1) }

abbrev pub put_upval : ℕ → UpvalRef → List ℕ → List ℕ
put_upval p u w = put (p + 1) u.1 (put p u.0 w)
