-- Demand 3 of every heap that the calls make, with no premise but that. Assumes nothing.
--     made_freed, made_calls     by single steps, and by any steps
use Rattle.std.specs.Prelude.{◌≡◌, ◌⊎◌, List, ◌∷◌}
use Rattle.base.specs.Words.{at}
use Rattle.base.specs.Heap.{Heap}
use Rattle.layout.specs.Places.{PHASE}
use Rattle.test1.specs.Test1.{sizes_at}
use Rattle.sweep_laws.specs.Collections.{Collection}
use Rattle.sweep_laws.proofs.Collections.{planned_freed}
use Rattle.sweep_laws.specs.Mixtures.{Outcome}
use Rattle.pace_laws.specs.Budgets.{Call, calls, planned_calls}
use Rattle.made.specs.Made.{Made}
use Rattle.made_laws.specs.Pauses.{lay_at}
use Rattle.made_laws.proofs.Pauses.{made_pause, made_arenas}

-- Demand 3 by single steps, of every heap that the calls make, at Pause: a sequence that ends the sweep exists, and at its first
-- state at Finalize the slots freed are exactly the occupied ones that are neither kept nor spared, each once.
pub made_freed : (h : Heap) (m : Made h) → at h.words PHASE ≡ 0 → Collection (lay_at h) h.words h.bytes (made_arenas h m)
made_freed h m e =
    let p = made_pause h m e in
    planned_freed (sizes_at h.words) p.fits h.words h.bytes p.long p.wide e p.white p.none (made_arenas h m)

-- Demand 3 by any single, budgeted and automatic steps: when one has ended the sweep.
pub made_calls : (h : Heap) (m : Made h) → at h.words PHASE ≡ 0 → (c : Call) (cs : List Call)
    → ((at (calls (lay_at h) (c ∷ cs) h).words PHASE ≡ 4) ⊎ (at (calls (lay_at h) (c ∷ cs) h).words PHASE ≡ 0))
    → Outcome (lay_at h) h.words h.bytes (made_arenas h m) (calls (lay_at h) (c ∷ cs) h)
made_calls h m e c cs f =
    let p = made_pause h m e in
    planned_calls (sizes_at h.words) p.fits h.words h.bytes p.long p.wide e p.white p.none (made_arenas h m) c cs f
