-- A heap is what lies in its two lent buffers. Assumes nothing.
use Rattle.std.specs.Prelude.{List, ℕ}

-- the words and the bytes of a heap
pub record Heap : Type 0 where
  pub words : List ℕ
  pub bytes : List ℕ

abbrev pub heap : List ℕ → List ℕ → Heap
heap w b = record { words = w; bytes = b }
