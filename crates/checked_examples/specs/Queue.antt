-- The starred example of document 01 that speaks of finalizers: a small heap, its due userdata separated, and what Finalize
-- then hands out. Assumes nothing.
use Rattle.std.specs.Prelude.{List, [], ◌∷◌, ℕ, zero, suc, ◌+◌, replicate}
use Rattle.layout.specs.declared.Sizes.{Sizes}
use Rattle.layout.specs.declared.Lay.{Lay}
use Rattle.layout.specs.Places.{NAME_GC, WHITE}
use Rattle.layout.specs.Layout.{lay_of}
use Rattle.record.specs.Fields.{body_at}
use Rattle.newheap.specs.New.{puts}
use Rattle.separate.specs.Separation.{creation_of, separated}
use Rattle.step.specs.declared.Single.{Single}
use Rattle.step.specs.declared.Single.TheVariants.{Cost, Out}
use Rattle.step.specs.Step.{finalize_step}

-- the smallest heap with slots for three userdata
unfoldable pub sizes : Sizes
sizes = record { strings = 2; tables = 2; functions = 0; upvalues = 0; userdata = 3; threads = 0; protos = 0; stack = 0; opens = 0; frames = 1 }

unfoldable pub lay : Lay
lay = lay_of sizes

-- table 1 has one node: the name `__gc`, string 1, has the value true
unfoldable pub metatable : List ℕ → List ℕ
metatable =
    let p = body_at lay.tables 1 in
    puts ((NAME_GC, 2) ∷ (lay.tables.top + 1, 2) ∷ (lay.tables.base + 1, 1) ∷ (p + 3, 1) ∷ (p + 4, 4) ∷ (p + 5, 1) ∷ (p + 7, 1) ∷ (p + 8, 1) ∷ [])

-- userdata i is in the current white, with table 1 as its metatable and creation number c
unfoldable pub userdata : ℕ → ℕ → List ℕ → List ℕ
userdata i c = puts ((lay.userdata.base + i, 1) ∷ (body_at lay.userdata i, 2) ∷ (body_at lay.userdata i + 4, c) ∷ [])

unfoldable pub start : List ℕ
start = userdata 0 4 (userdata 1 9 (userdata 2 7 (metatable (puts ((WHITE, 1) ∷ (lay.userdata.top + 1, 3) ∷ []) (replicate lay.words 0)))))

-- creation numbers 4, 9, 7 are separated
unfoldable pub due : List ℕ
due = (separated lay start).1

-- the creation number of what a step of Finalize hands out, and of what the next n hand out
unfoldable pub number : Single → List ℕ → ℕ
number (Out r v) w = creation_of lay r w
number (Cost c) w = 0

unfoldable pub handed : ℕ → List ℕ → List ℕ
handed zero w = []
handed (suc n) w =
    let x = finalize_step lay w in
    number x.0 x.1 ∷ handed n x.1
