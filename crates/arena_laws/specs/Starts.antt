-- An arena with no slot taken yet is well-formed. Assumes nothing.
use Rattle.std.specs.Prelude.{◌≡◌, refl, List, [], ℕ, ◌<◌}
use Rattle.std.proofs.Common.{sym, ap, ◌∙◌, arith}
use mathlib.Core.List.Memᴰ
use Rattle.arena.specs.Slots.{colour, head, fresh, count, used}
use Rattle.arena.specs.declared.Arena.{Arena}
use Rattle.arena_laws.specs.Counts.{tally, tally_none, colours, occupied_is}
use Rattle.arena_laws.specs.Chain.{WellFormed}

-- Its header is 0 and its slots are free; the chain is empty.
pub new_well_formed : (a : Arena) (w : List ℕ) → head a w ≡ 0 → fresh a w ≡ 0 → count a w ≡ 0 → ((i : ℕ) → i < a.slots → colour a i w ≡ 0)
    → (v : WellFormed a w) × (v.free ≡ [])
new_well_formed a w h f c z =
    let u : used a w ≡ 0 = omega arith in (
      record {
        within = omega arith;
        free = [];
        chain = h;
        once = tt;
        is = λ i. ((λ m. absurd (Memᴰ.not-nil m)), (λ q. absurd (omega (arith, q.0))));
        unused = λ i p q. z i q;
        counts = c ∙ sym (occupied_is a w ∙ ap (tally (colours a w) 0) u ∙ tally_none (colours a w) 0);
      },
      refl,
    )
