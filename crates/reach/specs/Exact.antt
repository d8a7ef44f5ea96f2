-- What the theorem on marking speaks of beside the roots: nothing, and the roots that are marked first. Assumes nothing.
use mathlib.Core.List.{List, Memᴰ}
use Prim.Native.Nat.{ℕ}
use Rattle.layout.specs.declared.Lay.{Lay}
use Rattle.mark.specs.Ops.{Ref}
use Rattle.links.specs.Links.{root_links}

-- none
abbrev pub None : Ref → Type 0
None r = ⊥

-- the roots that are marked first
abbrev pub First : Lay → List ℕ → Ref → Type 0
First l w q = Memᴰ q (root_links w l)
