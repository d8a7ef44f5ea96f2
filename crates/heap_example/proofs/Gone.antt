-- All that the collection of the small heap frees: no string, one table and 81 upvalues. Assumes nothing.
use Rattle.std.specs.Prelude.{◌≡◌, refl, ℕ, length}
use Rattle.std.proofs.Common.{ap, ◌∙◌, arith}
use mathlib.Core.List.{List, [], ◌∷◌}
use Rattle.heap_example.specs.Freed.{down}
use Rattle.heap_example.proofs.Freed.{collection, freed_upvalues, freed_tables, freed_strings}

-- So the slots freed are these, and the chains lead through them.
pub freed : (collection.arenas 0 (omega arith)).gone ∷ (collection.arenas 1 (omega arith)).gone ∷ (collection.arenas 3 (omega arith)).gone ∷ [] ≡ [] ∷ (2 ∷ []) ∷ down 81 0 ∷ []
unfolding down
freed =
    ap (λ (xs : List ℕ). xs ∷ (collection.arenas 1 (omega arith)).gone ∷ (collection.arenas 3 (omega arith)).gone ∷ []) freed_strings
    ∙ ap (λ (xs : List ℕ). [] ∷ xs ∷ (collection.arenas 3 (omega arith)).gone ∷ []) freed_tables
    ∙ ap (λ (xs : List ℕ). [] ∷ (2 ∷ []) ∷ xs ∷ []) freed_upvalues

pub many : length (down 81 0) ≡ 81
unfolding down
many = refl
