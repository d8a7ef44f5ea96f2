-- What the exported functions of one arena answer: a code (0, or a refusal number) and words lent for the rest. Assumes nothing.
use Rattle.std.specs.Prelude.{List, ℕ, ◌+◌, ◌*◌, ◌≤◌, length, Ok, Err, Result}
use Rattle.base.specs.Ways.{if_lt}
use Rattle.base.specs.Heap.{Heap}
use Rattle.base.specs.declared.Refusal.TheVariants.{Unfit}
use Rattle.base.specs.declared.Refusal.{Refusal}
use Rattle.base.specs.Refusals.{number}
use Rattle.arena.specs.declared.Arena.{Arena}
use Rattle.arena.specs.Slots.{Room}
use Rattle.arena_codes.specs.Codes.{take_in, free_in, paint_in, sweep_in}

-- An arena from word 0 on, if `n` words and `m` bytes hold it; else 1.
abbrev pub arena_of : ℕ → ℕ → ℕ → Arena
arena_of slots stride width = record { top = 0; base = 3; slots = slots; bodies = 3 + 4 * slots; stride = stride; width = width }

unfoldable pub placed : ℕ → ℕ → ℕ → ℕ → ℕ → Result Arena Refusal
placed n m slots stride width =
    if_lt 4096 slots (Err Unfit)
    (if_lt 1024 stride (Err Unfit)
    (if_lt 64 width (Err Unfit)
    (if_lt n (3 + 4 * slots + slots * stride) (Err Unfit)
    (if_lt m (slots * width) (Err Unfit)
    (Ok (arena_of slots stride width))))))

-- what a place gives of `n` words and `m` bytes
pub record Lies (a : Arena) (n m : ℕ) : Type 0 where
  pub slots : a.slots ≤ 4096
  pub apart : a.top + 3 ≤ a.base
  pub below : a.base + 4 * a.slots ≤ a.bodies
  pub fits : a.bodies + a.slots * a.stride ≤ n
  pub wide : a.slots * a.width ≤ m

pub lies_room : (a : Arena) (w : List ℕ) (m : ℕ) → Lies a (length w) m → Room a w
lies_room a w m l = record { slots = l.slots; apart = l.apart; below = l.below; fits = l.fits }

abbrev pub Places : Result Arena Refusal → ℕ → ℕ → Type 0
Places (Ok a) n m = Lies a n m
Places (Err r) n m = Unit {0}

-- Each call, on the arena so placed.
abbrev pub take_placed : ℕ → ℕ → Heap → Result Arena Refusal → ℕ × Heap
take_placed c n h (Ok a) = take_in a c n h
take_placed c n h (Err r) = (number r, h)

unfoldable pub take_on : ℕ → ℕ → ℕ → ℕ → ℕ → ℕ → Heap → ℕ × Heap
take_on m slots stride width c n h =
    if_lt (length h.bytes) 3 (1, h) (take_placed c n h (placed (length h.words) m slots stride width))

abbrev pub free_placed : ℕ → ℕ → Heap → Result Arena Refusal → ℕ × Heap
free_placed i g h (Ok a) = free_in a i g h
free_placed i g h (Err r) = (number r, h)

unfoldable pub free_on : ℕ → ℕ → ℕ → ℕ → ℕ → Heap → ℕ × Heap
free_on slots stride width i g h = free_placed i g h (placed (length h.words) (length h.bytes) slots stride width)

abbrev pub paint_placed : ℕ → ℕ → ℕ → List ℕ → Result Arena Refusal → ℕ × List ℕ
paint_placed i g c w (Ok a) = paint_in a i g c w
paint_placed i g c w (Err r) = (number r, w)

unfoldable pub paint_on : ℕ → ℕ → ℕ → ℕ → ℕ → ℕ → ℕ → List ℕ → ℕ × List ℕ
paint_on m slots stride width i g c w = paint_placed i g c w (placed (length w) m slots stride width)

abbrev pub sweep_placed : ℕ → ℕ → ℕ → ℕ → Heap × List ℕ → Result Arena Refusal → ℕ × (Heap × List ℕ)
sweep_placed dead white start most p (Ok a) = sweep_in a dead white start most p
sweep_placed dead white start most p (Err r) = (number r, p)

unfoldable pub sweep_on : ℕ → ℕ → ℕ → ℕ → ℕ → ℕ → ℕ → Heap × List ℕ → ℕ × (Heap × List ℕ)
sweep_on slots stride width dead white start most p =
    if_lt (length p.1) 3 (1, p)
    (sweep_placed dead white start most p (placed (length p.0.words) (length p.0.bytes) slots stride width))
