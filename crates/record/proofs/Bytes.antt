-- What core's methods say of bytes, in the words of specs/Strings.antt: `contains` is the byte search, `==` is comparison. Assumes nothing.
use Rattle.std.specs.Prelude.{◌≡◌, refl, Bool, true, false, cond, List, [], ◌∷◌, ℕ, ◌||◌, ◌&&◌, nat_eq}
use Rattle.std.specs.List.{list_any}
use Rattle.std.proofs.Common.{ap, ◌∙◌}
use lib.Pointwise.{pointwise}
use Rattle.record.specs.Strings.{has_byte, same_bytes}

or_cond : (b c : Bool) → (b || c) ≡ cond b true c
or_cond true c = refl
or_cond false c = refl

and_cond : (b c : Bool) → (b && c) ≡ cond b c false
and_cond true c = refl
and_cond false c = refl

pub any_has_byte : (s : List ℕ) (c : ℕ) → list_any (λ y. nat_eq y c) s ≡ has_byte s c
unfolding has_byte
any_has_byte [] c = refl
any_has_byte (x ∷ xs) c = or_cond (nat_eq x c) _ ∙ ap (cond (nat_eq x c) true) (any_has_byte xs c)

pub pointwise_same_bytes : (s t : List ℕ) → pointwise nat_eq s t ≡ same_bytes s t
unfolding same_bytes
pointwise_same_bytes [] [] = refl
pointwise_same_bytes [] (y ∷ ys) = refl
pointwise_same_bytes (x ∷ xs) [] = refl
pointwise_same_bytes (x ∷ xs) (y ∷ ys) = and_cond (nat_eq x y) _ ∙ ap (λ r. cond (nat_eq x y) r false) (pointwise_same_bytes xs ys)
