-- Document 01, the audit: "each chain holds every free slot below its arena's fresh index once", on any words. The chain is
-- walked as far as there are free slots below the fresh index: each step comes to one of them, and then the chain ends. A chain
-- that comes to a slot twice never ends, so the slots of the walk are all different, and as many as are free: audit_laws proves
-- that this means the sentence. Assumes nothing.
use Rattle.std.specs.Prelude.{◌≡◌, Bool, ◌&&◌, List, ℕ, zero, suc, ◌-◌, ◌≤◌, ◌<◌, eqb, ltb}
use Rattle.std.proofs.Math.Path.{refl}
use Rattle.std.proofs.Common.{sym, true≢false, arith, ltb-true}
use Rattle.std.proofs.Math.Bool.{true, false}
use Rattle.arena.specs.Slots.{colour, link, head, used, occupied}
use Rattle.arena.specs.declared.Arena.{Arena}

module _ (a : Arena) (w : List ℕ) where
  -- How many slots below the fresh index are free.
  abbrev pub free_count : ℕ
  free_count = used a w - occupied a w

  -- The stored word x, a slot's index + 1 and 0 for none, names a free slot below the fresh index.
  unfoldable pub names_free : ℕ → Bool
  names_free x = ltb 0 x && ltb (x - 1) (used a w) && eqb (colour a (x - 1) w) 0

  -- From x on the links lead through n free slots below the fresh index, and then end.
  unfoldable pub leads : ℕ → ℕ → Bool
  leads zero x = eqb x 0
  leads (suc n) x = names_free x && leads n (link a (x - 1) w)

  -- The chain holds every free slot below the fresh index once.
  unfoldable pub chain_holds : Bool
  chain_holds = leads free_count (head a w)

  -- what is named lies within the slots
  pub names_free_lem : (x : ℕ) → names_free x ≡ true → (0 < x) × (x ≤ a.slots)
  unfolding names_free
  names_free_lem x p = go (ltb 0 x) (ltb (x - 1) (used a w)) (eqb (colour a (x - 1) w) 0) (ltb-true 0 x) (ltb-true (x - 1) (used a w)) p
    where
      go : (b c d : Bool) → (b ≡ true → 0 < x) → (c ≡ true → x - 1 < used a w) → b && c && d ≡ true → (0 < x) × (x ≤ a.slots)
      go true true d f g q = (f refl, omega (arith, f refl, g refl))
      go true false d f g q = absurd (true≢false (sym q))
      go false c d f g q = absurd (true≢false (sym q))
