-- Document 01, 'Refusal numbers': there are eight. The type `Refusal` has any number besides, `Other n`, which no call answers:
-- the other files of this folder say so of each public function that answers a refusal (of one that hands an answer on, if that is
-- known). Assumes nothing.
--     Known                       one of the eight
--     Answered                    an answer that serves, or whose refusal is one of the eight
--     known_number, known_apart   it is told as a number from 1 to 8, and no two as the same
use Rattle.std.specs.Prelude.{◌≡◌, refl, cond, ℕ, ◌≤◌, eqb, Ok, Err, Result}
use Rattle.std.proofs.Common.{sym, ◌∙◌, ap, arith}
use Rattle.base.specs.declared.Refusal.{Refusal}
use Rattle.base.specs.declared.Refusal.TheVariants.{Unfit, Stale, Full, OutOfRange, WrongState, TooLarge, OverLimit, Damaged, Other}
use Rattle.base.specs.Refusals.{number}

-- one of the eight
abbrev pub Known : Refusal → Type 0
Known Unfit = Unit {0}
Known Stale = Unit {0}
Known Full = Unit {0}
Known OutOfRange = Unit {0}
Known WrongState = Unit {0}
Known TooLarge = Unit {0}
Known OverLimit = Unit {0}
Known Damaged = Unit {0}
Known (Other n) = ⊥

-- Served, or refused by one of the eight.
abbrev pub Answered : {A : Type 0} → Result A Refusal → Type 0
Answered (Ok x) = Unit {0}
Answered (Err k) = Known k

-- It is told as a number from 1 to 8.
pub known_number : (k : Refusal) → Known k → (1 ≤ number k) × (number k ≤ 8)
known_number Unfit h = (omega arith, omega arith)
known_number Stale h = (omega arith, omega arith)
known_number Full h = (omega arith, omega arith)
known_number OutOfRange h = (omega arith, omega arith)
known_number WrongState h = (omega arith, omega arith)
known_number TooLarge h = (omega arith, omega arith)
known_number OverLimit h = (omega arith, omega arith)
known_number Damaged h = (omega arith, omega arith)
known_number (Other n) h = absurd h

-- the one that a number tells
unfoldable refusal_of : ℕ → Refusal
refusal_of n =
    cond (eqb n 1) Unfit
    (cond (eqb n 2) Stale
    (cond (eqb n 3) Full
    (cond (eqb n 4) OutOfRange
    (cond (eqb n 5) WrongState
    (cond (eqb n 6) TooLarge
    (cond (eqb n 7) OverLimit
    Damaged))))))

-- No two are told as the same number.
pub known_apart : (j k : Refusal) → Known j → Known k → number j ≡ number k → j ≡ k
unfolding refusal_of
known_apart j k p q e = sym (back j p) ∙ ap refusal_of e ∙ back k q
  where
    back : (k : Refusal) → Known k → refusal_of (number k) ≡ k
    back Unfit h = refl
    back Stale h = refl
    back Full h = refl
    back OutOfRange h = refl
    back WrongState h = refl
    back TooLarge h = refl
    back OverLimit h = refl
    back Damaged h = refl
    back (Other n) h = absurd h
