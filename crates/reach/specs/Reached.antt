-- Document 01, 'Followed links': what the roots reach. A link is a handle; it leads to the occupied slot that it names, and one
-- that names none leads nowhere. A slot is reached if a root names it, or if a slot that is reached has a link that names it:
-- so by a chain of followed links from the roots, of any length, zero too. All is read from the words w and the bytes b of one
-- heap. Assumes nothing: these are definitions.
use mathlib.Core.List.{List, Memᴰ}
use Rattle.std.specs.Prelude.{ℕ, ◌≤◌}
use Rattle.layout.specs.declared.Lay.{Lay}
use Rattle.mark.specs.Ops.{Ref}
use Rattle.mark.specs.Words.{colour_w}
use Rattle.links.specs.Links.{links, roots}

-- Reached from roots along links, over occupied nodes only.
pub data Reach {Node : Type 0} (Link : Node → Node → Type 0) (Root Occ : Node → Type 0) : Node → Type 0 where
  Reach-root : {i : Node} → Root i → Occ i → Reach Link Root Occ i
  Reach-step : {i j : Node} → Reach Link Root Occ i → Link i j → Occ j → Reach Link Root Occ j

-- A handle names an occupied slot of its generation: it has a colour.
abbrev pub Occupied : Lay → List ℕ → Ref → Type 0
Occupied l w r = 1 ≤ colour_w l r w

-- q is a followed link of r.
abbrev pub Link : Lay → List ℕ → List ℕ → Ref → Ref → Type 0
Link l w b r q = Memᴰ q (links w l b r)

-- Roots: global, registry, type metatables, both names; main stack below top, open upvalues, error value, hook function, and
-- the stack value at the function index of each frame up to `ci`, also above top.
abbrev pub Root : Lay → List ℕ → List ℕ → Ref → Type 0
Root l w b q = Memᴰ q (roots w l b)

-- Reached from the roots.
abbrev pub Reached : Lay → List ℕ → List ℕ → Ref → Type 0
Reached l w b r = Reach (Link l w b) (Root l w b) (Occupied l w) r
