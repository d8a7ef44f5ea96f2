-- Bytes kept one after another in lent bytes: a pair is the place of the next byte, and the bytes. Assumes nothing.
use Rattle.std.specs.Prelude.{true, false, List, [], ◌∷◌, ℕ, ◌+◌, length, drop}
use Rattle.base.specs.Ways.{if_lt, if_eq}
use Rattle.base.specs.Words.{put}
use Rattle.script_bytes.specs.declared.Gathered.{Gathered}

-- A byte that finds no room is left out.
unfoldable pub kept : ℕ → ℕ × List ℕ → ℕ × List ℕ
kept c p = if_lt p.0 (length p.1) (p.0 + 1, put p.0 c p.1) p

-- A text, byte by byte.
unfoldable pub said : List ℕ → ℕ × List ℕ → ℕ × List ℕ
said [] p = p
said (c ∷ cs) p = said cs (kept c p)

-- A part's bytes that start at `i` go on with a line: a newline (byte 10), which is passed, makes it whole.
unfoldable pub gather_on : ℕ → ℕ × List ℕ → List ℕ → Gathered × List ℕ
gather_on i p [] = (record { next = i; count = p.0; whole = false }, p.1)
gather_on i p (c ∷ cs) = if_eq c 10 (record { next = i + 1; count = p.0; whole = true }, p.1) (gather_on (i + 1) (kept c p) cs)

abbrev pub gather : List ℕ → ℕ → ℕ × List ℕ → Gathered × List ℕ
gather part i p = gather_on i p (drop i part)
