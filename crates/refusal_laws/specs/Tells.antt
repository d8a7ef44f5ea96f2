-- What exported functions are given as numbers and can't be read as a value or a handle is refused as every call refuses, by 1 and 8,
-- then 4. Assumes nothing.
use Rattle.std.specs.Prelude.{List, ℕ, length, Ok, Err, Result}
use Rattle.base.specs.Heap.{Heap}
use Rattle.base.specs.declared.Refusal.{Refusal}
use Rattle.base.specs.declared.Refusal.TheVariants.{OutOfRange}
use Rattle.layout.specs.declared.Sizes.{Sizes}
use Rattle.test1.specs.Test1.{opened}
use Rattle.test1.specs.Calls.{ask, on_asked}
use Rattle.making.specs.declared.Made.{Made}
use Rattle.told.specs.Numbers.{no_number, tagged, optional}
use Rattle.make_codes.specs.Codes.{are_tags, listed}
use Rattle.state_laws.specs.Plains.{lt_both, cond_both}
use Rattle.refusal_laws.specs.Known.{Known, Answered}
use Rattle.refusal_laws.specs.Begins.{Answers, opened_known}

pub no_number_known : (h : Heap) → Known (no_number h)
unfolding ask
no_number_known h = go (opened h.words (length h.bytes)) (opened_known h.words (length h.bytes))
  where
    go : (o : Result Sizes Refusal) → Answered o → Known (on_asked (λ k. k) (λ l h. OutOfRange) h o)
    go (Ok s) q = tt
    go (Err k) q = q

module _ {A : Type 0} (n : ℕ) (call : Heap → Result A Refusal × Heap) (h : Heap) (p : Answers (call h)) where
  pub tagged_known : Answers (tagged Err n call h)
  unfolding tagged
  tagged_known = lt_both Answers _ _ _ _ (λ e. no_number_known h) (λ e. p)

  pub optional_known : Answers (optional Err n call h)
  unfolding optional
  optional_known = lt_both Answers _ _ _ _ (λ e. no_number_known h) (λ e. p)

pub listed_known : (s : List ℕ) (call : Heap → Result Made Refusal × Heap) (h : Heap) → Answers (call h) → Answers (listed s call h)
unfolding listed
listed_known s call h p = cond_both Answers (are_tags s) _ _ (λ e. p) (λ e. no_number_known h)
