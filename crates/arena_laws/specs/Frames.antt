-- What is written elsewhere leaves an arena as it is: only its header and the cells of its slots tell what it is. Assumes nothing.
use Rattle.std.specs.Prelude.{◌≡◌, refl, List, ℕ, ◌+◌, ◌*◌, min, ◌≤◌, ◌<◌, length}
use Rattle.std.proofs.Common.{sym, subst, ap, ◌∙◌, inl, inr, ⊎_elim, arith}
use Rattle.base.specs.Words.{at}
use Rattle.arena.specs.Slots.{known, colour, gen, link, head, fresh, used, occupied, named}
use Rattle.arena.specs.declared.Arena.{Arena}
use Rattle.arena_laws.specs.Words.{le_or_lt}
use Rattle.arena_laws.specs.Counts.{one, tally, tally_same, colours, occupied_is}
use Rattle.arena_laws.specs.Chain.{Chain, WellFormed}
use Rattle.arena_laws.specs.Names.{named_alike}
use Rattle.arena_laws.specs.Keeps.{chain_frame}

-- The words w became w': the header stays, and so do the colours, generations, links and extents of the slots.
pub record Untouched (a : Arena) (w w' : List ℕ) : Type 0 where
  pub long : length w' ≡ length w
  pub header : (x : ℕ) → a.top ≤ x → x < a.top + 3 → at w' x ≡ at w x
  pub cells : (x : ℕ) → a.base ≤ x → x < a.base + 4 * a.slots → at w' x ≡ at w x

module _ {a : Arena} {w w' : List ℕ} (u : Untouched a w w') where
  -- the fresh index, and each slot's colour and generation
  pub kept_fresh : fresh a w' ≡ fresh a w
  kept_fresh = u.header (a.top + 1) (omega arith) (omega arith)

  pub kept_colour : (i : ℕ) → i < a.slots → colour a i w' ≡ colour a i w
  kept_colour i l = ap (λ (x : ℕ). known x) (u.cells (a.base + i) (omega arith) (omega arith))

  pub kept_gen : (i : ℕ) → i < a.slots → gen a i w' ≡ gen a i w
  kept_gen i l = u.cells (a.base + a.slots + i) (omega arith) (omega arith)

  kept_link : (i : ℕ) → i < a.slots → link a i w' ≡ link a i w
  kept_link i l = u.cells (a.base + 2 * a.slots + i) (omega arith) (omega arith)

  -- every handle names what it named
  pub kept_named : (i g : ℕ) → named a i g w' ≡ named a i g w
  kept_named i g =
      ⊎_elim
      (λ past. named_alike a i g w w' (inl (past, omega (arith, kept_fresh))))
      (λ below. named_alike a i g w w' (inr (below, omega (arith, kept_fresh), kept_gen i (omega arith), kept_colour i (omega arith))))
      (le_or_lt (used a w) i)

  kept_occupied : occupied a w' ≡ occupied a w
  kept_occupied =
      let e : used a w' ≡ used a w = ap (λ (k : ℕ). min k a.slots) kept_fresh in
      omega (
        arith,
        occupied_is a w,
        occupied_is a w',
        ap (tally (colours a w') 0) e,
        tally_same (colours a w) (colours a w') (used a w) 0 (λ j p q. ap (λ (c : ℕ). one c) (kept_colour j (omega arith))),
      )

  -- the arena stays well-formed, with the same chain
  pub frame_keeps : (v : WellFormed a w) → (v' : WellFormed a w') × (v'.free ≡ v.free)
  frame_keeps v = (
    record {
      within = omega (arith, kept_fresh, v.within);
      free = v.free;
      chain = subst (λ (x : ℕ). Chain a w' v.free x) (sym (u.header a.top (omega arith) (omega arith)))
          (chain_frame a w w' v.free (head a w) (λ j m. kept_link j (omega (arith, ((v.is j).0 m).0, v.within))) v.chain);
      once = v.once;
      is = λ j. (
        (λ m. let q = (v.is j).0 m in (omega (arith, q.0, kept_fresh), kept_colour j (omega (arith, q.0, v.within)) ∙ q.1)),
        (λ q. (v.is j).1 (omega (arith, q.0, kept_fresh), sym (kept_colour j (omega (arith, q.0, kept_fresh, v.within))) ∙ q.1)),
      );
      unused = λ j p q. kept_colour j q ∙ v.unused j (omega (arith, kept_fresh)) q;
      counts = u.header (a.top + 2) (omega arith) (omega arith) ∙ v.counts ∙ sym kept_occupied;
    },
    refl,
  )
