-- The starred examples of document 01 that speak of slots: small arenas, and what the definitions make of them. Assumes nothing.
use Rattle.std.specs.Prelude.{List, [], ◌∷◌, ◌++◌, Bool, cond, ℕ, zero, suc, ◌+◌, ◌*◌, replicate}
use Rattle.base.specs.Heap.{Heap, heap}
use Rattle.arena.specs.Slots.{link, free_slot, sweep_partial}
use Rattle.arena.specs.declared.Arena.{Arena}
use Rattle.arena.specs.declared.Swept.{Swept}

-- an arena of n slots of one word and one byte each, from word 0 on
unfoldable pub small : ℕ → Arena
small n = record { top = 0; base = 3; slots = n; bodies = 3 + 4 * n; stride = 1; width = 1 }

-- its heap: all n slots in use, with these colours, each at generation g, and x the head
unfoldable pub heap_of : ℕ → ℕ → List ℕ → ℕ → Heap
heap_of x n colours g =
    heap (x ∷ n ∷ n ∷ (colours ++ replicate n g ++ replicate n 0 ++ replicate n 1 ++ replicate n 7)) (replicate n 7)

-- the slots of the chain, from the head on, at most k
unfoldable pub chain_from : Arena → ℕ → ℕ → List ℕ → List ℕ
chain_from a zero x w = []
chain_from a (suc k) zero w = []
chain_from a (suc k) (suc i) w = i ∷ chain_from a k (link a i w) w

unfoldable pub told : Bool → ℕ
told b = cond b 1 0

unfoldable pub said : Swept → List ℕ
said r = r.next ∷ told r.done ∷ []

-- 80 slots all occupied: one sweep step
unfoldable pub eighty : Swept × Heap
eighty = sweep_partial (small 80) 2 1 0 80 (heap_of 0 80 (replicate 80 4) 0)

-- 81 slots, last free: one step, and then another from where it ended
unfoldable pub first : Swept × Heap
first = sweep_partial (small 81) 2 1 0 80 (heap_of 81 81 (replicate 80 4 ++ 0 ∷ []) 0)

unfoldable pub second : Swept × Heap
second = sweep_partial (small 81) 2 1 first.0.next 80 first.1

-- five slots, 4 free, 1 and 3 dead
unfoldable pub five : Swept × Heap
five = sweep_partial (small 5) 1 2 0 80 (heap_of 5 5 (2 ∷ 1 ∷ 4 ∷ 1 ∷ 0 ∷ []) 6)

-- a slot at generation 4,294,967,295 is freed
unfoldable pub wrapped : Heap
wrapped = free_slot (small 5) 2 (heap_of 0 5 (replicate 5 1) 4294967295)
