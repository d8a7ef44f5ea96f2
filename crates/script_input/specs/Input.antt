-- Where the reading of a script stands. Lines end at a newline; the last may have none, and input that ends in a newline has no
-- further line. Assumes nothing.
use Rattle.std.specs.Prelude.{◌≡◌, Bool, false, List, ℕ, ◌≤◌, ◌<◌, ltb, length, drop}
use Rattle.std.proofs.Common.{ap}
use Rattle.base.specs.Words.{add_sat}
use Rattle.script_bytes.specs.declared.Gathered.{Gathered}
use Rattle.script_bytes.specs.Bytes.{gather}
use Rattle.script_bytes.specs.Laws.{gather_count, gather_past}
use Rattle.script_input.specs.declared.Reading.{Reading}

-- Lines are numbered from 1.
abbrev pub started : Reading
started = record { at = 0; count = 0; whole = false; number = 1 }

abbrev pub renewed : Reading → Reading
renewed s = record { at = 0; count = s.count; whole = s.whole; number = s.number }

-- What is gathered of a part goes on with the line.
abbrev pub of_gathered : ℕ → Gathered × List ℕ → Reading × List ℕ
of_gathered n x = (record { at = x.0.next; count = x.0.count; whole = x.0.whole; number = n }, x.1)

unfoldable pub read_on : List ℕ → Reading → List ℕ → Reading × List ℕ
read_on part s line = of_gathered s.number (gather part s.at (s.count, line))

-- Every line counts, also an empty one.
unfoldable pub passed : Reading → Reading
passed s = record { at = s.at; count = 0; whole = false; number = add_sat s.number 1 }

abbrev pub is_left : Reading → Bool
is_left s = ltb 0 s.count

-- reading goes forward, and what is gathered lies within the line's bytes
pub record Onward (part line : List ℕ) (s r : Reading) : Type 0 where
  pub forth : s.at < length part → s.at < r.at
  pub within : s.count ≤ length line → r.count ≤ length line

pub onward : (part line : List ℕ) (s : Reading) (n : ℕ) (g : Gathered) (l : List ℕ)
    → (g, l) ≡ gather part s.at (s.count, line) → Onward part line s (record { at = g.next; count = g.count; whole = g.whole; number = n })
onward part line s n g l e = record {
  forth = λ h. rw (ap (λ (x : Gathered × List ℕ). x.0.next) e) (gather_past part s.at (s.count, line) h);
  within = λ h. rw (ap (λ (x : Gathered × List ℕ). x.0.count) e) (gather_count s.at (s.count, line) (drop s.at part) h);
}
