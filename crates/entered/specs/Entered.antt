-- A call that test 1 lets in has a planned layout. Assumes nothing.
use Rattle.std.specs.Prelude.{◌≡◌, refl, Bool, true, false, cond, ◌&&◌, List, ℕ, eqb, leb, length, Option, Some, None, Ok, Err, Result}
use Rattle.std.specs.Option.{ok_or}
use Rattle.std.specs.Result.{IsErrAnd}
use Rattle.std.proofs.Common.{◌∙◌, sym, ap, subst, true≢false}
use Rattle.std.proofs.lemmas.Result.{err_from_is_err_and}
use Rattle.base.specs.Words.{at}
use Rattle.base.specs.declared.Refusal.TheVariants.{Unfit, Damaged}
use Rattle.base.specs.declared.Refusal.{Refusal}
use Rattle.layout.specs.declared.Sizes.{Sizes}
use Rattle.layout.specs.Places.{DAMAGE, HEADER}
use Rattle.layout.specs.Sizes.{sizes_fit, sizes_fit_ok}
use Rattle.layout.specs.Layout.{lay_of}
use Rattle.laid.specs.Laid.{Laid, laid_of}
use Rattle.test1.specs.Test1.{sizes_at, counts_fit, accepted, opened}

both : (a b : Bool) → a && b ≡ true → (a ≡ true) × (b ≡ true)
both true true p = (refl, refl)
both true false p = absurd (true≢false (sym p))
both false b p = absurd (true≢false (sym p))

-- the sizes of an answer, and whether there are any
abbrev sizes_or : Sizes → Result Sizes Refusal → Sizes
sizes_or s (Ok z) = z
sizes_or s (Err n) = s

abbrev is_fits : Result Sizes Refusal → Bool
is_fits (Ok s) = true
is_fits (Err n) = false

accepted_sizes : (w : List ℕ) (m : ℕ) → accepted w m ≡ true → sizes_fit (sizes_at w) ≡ true
unfolding accepted
accepted_sizes w m p =
    let a = leb HEADER (length w) in
    let b = sizes_fit (sizes_at w) in
    let c = counts_fit w (sizes_at w) in
    let d = leb (lay_of (sizes_at w)).words (length w) in
    let e = leb (lay_of (sizes_at w)).bytes m in
    (both a b (both (a && b) c (both (a && b && c) d (both (a && b && c && d) e p).0).0).0).1

pub entered : (w : List ℕ) (m : ℕ) (s : Sizes) → Ok s ≡ opened w m → Laid (lay_of s)
unfolding opened
entered w m s p = go (accepted w m) (eqb (at w DAMAGE) 0) (accepted_sizes w m) p
  where
    go : (a d : Bool) → (a ≡ true → sizes_fit (sizes_at w) ≡ true) → Ok s ≡ cond a (cond d (Ok (sizes_at w)) (Err Damaged)) (Err Unfit) → Laid (lay_of s)
    go true true f q = laid_of s (sizes_fit_ok s (subst (λ (z : Sizes). sizes_fit z ≡ true) (sym (ap (sizes_or s) q)) (f refl)))
    go true false f q = absurd (true≢false (ap is_fits q))
    go false d f q = absurd (true≢false (ap is_fits q))

abbrev refusal_or : {A : Type 0} → Refusal → Result A Refusal → Refusal
refusal_or k (Ok x) = k
refusal_or k (Err n) = n

abbrev has : {A E : Type 0} → Result A E → Bool
has (Ok x) = true
has (Err n) = false

-- The exit of a `?` on an `ok_or`: there was nothing, and the refusal is the answer.
pub none_refused : {A T : Type 0} {e : Refusal} {a : Result A Refusal} {r : Result T Refusal} (o : Option A) (k : Refusal) → a ≡ ok_or o k → a ≡ Err e → IsErrAnd r (λ y. y ≡ e) → (o ≡ None) × (r ≡ Err k)
none_refused {r = r} None k p q s = let (_, b, c) = err_from_is_err_and r s in (refl, b ∙ ap Err (c ∙ ap (refusal_or k) (sym q ∙ p)))
none_refused (Some x) k p q s = absurd (true≢false (ap has (sym p ∙ q)))
