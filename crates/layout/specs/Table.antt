-- A test as a table of rows m ⊑ n, each of which asks m ≤ n. Assumes nothing.
use Rattle.std.specs.Prelude.{◌≡◌, refl, Bool, true, false, ◌&&◌, List, [], ◌∷◌, ℕ, ◌≤◌, leb}
use Rattle.std.proofs.Common.{leb-true}

-- a row: the first is at most the second
pub record Row : Type 0 where
  pub this : ℕ
  pub most : ℕ

infixl 15 ◌⊑◌
abbrev pub ◌⊑◌ : ℕ → ℕ → Row
◌⊑◌ m n = record { this = m; most = n }

-- b, and every row
abbrev pub every : Bool → List Row → Bool
every b [] = b
every b (r ∷ rs) = every (b && leb r.this r.most) rs

abbrev pub all : List Row → Bool
all [] = true
all (r ∷ rs) = every (leb r.this r.most) rs

-- the rows as facts
abbrev pub Hold : List Row → Type 0
Hold [] = Unit {0}
Hold (r ∷ rs) = (r.this ≤ r.most) × Hold rs

-- rows that were tested hold
every_hold : (b : Bool) (rs : List Row) → every b rs ≡ true → (b ≡ true) × Hold rs
every_hold b [] p = (p, tt)
every_hold b (r ∷ rs) p =
    let q = every_hold (b && leb r.this r.most) rs p in
    (and_left b (leb r.this r.most) q.0, (leb-true _ _ (and_right b (leb r.this r.most) q.0), q.1))
  where
    and_left : (a b : Bool) → (a && b) ≡ true → a ≡ true
    and_left true b p = refl
    and_left false b p = p

    and_right : (a b : Bool) → (a && b) ≡ true → b ≡ true
    and_right true b p = p
    and_right false true p = refl
    and_right false false p = p

pub all_hold : (rs : List Row) → all rs ≡ true → Hold rs
all_hold [] p = tt
all_hold (r ∷ rs) p = let q = every_hold (leb r.this r.most) rs p in (leb-true _ _ q.0, q.1)
