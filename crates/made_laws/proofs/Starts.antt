-- There are such heaps: `make_heap` makes one of any buffers that are long enough, by any sizes within their ranges, and it is at
-- Pause. So no premise of the laws of demand 3 is void. Assumes nothing.
use Rattle.std.specs.Prelude.{◌≡◌, refl, Bool, cond, ℕ, suc, ◌≤◌, length, Ok, Err, Result}
use Rattle.std.proofs.Math.Path.{sym, ap}
use Rattle.std.proofs.Common.{◌∙◌}
use Rattle.base.specs.Ways.{lt_no}
use Rattle.base.specs.Words.{at}
use Rattle.base.specs.Heap.{Heap}
use Rattle.base.specs.declared.Refusal.TheVariants.{Unfit, OutOfRange}
use Rattle.base.specs.declared.Refusal.{Refusal}
use Rattle.layout.specs.declared.Sizes.{Sizes}
use Rattle.layout.specs.Sizes.{SizesOk}
use Rattle.layout.specs.Layout.{lay_of, planned}
use Rattle.layout.specs.Places.{PHASE}
use Rattle.newheap.specs.New.{new_heap, made_in, make_heap}
use Rattle.made.specs.Made.{Made, new}
use Rattle.made_laws.proofs.News.{new_pause}
use Rattle.made_laws.proofs.Opens.{sizes_pass}
use Rattle.made_laws.specs.Publics.{some, until}
use Rattle.made_laws.proofs.Publics.{made_ends}

module _ (s : Sizes) (f : SizesOk s) (h : Heap) (long : (lay_of s).words ≤ length h.words) (wide : (lay_of s).bytes ≤ length h.bytes) where
  made_is : make_heap s h ≡ (Ok tt, new_heap (lay_of s) h)
  unfolding make_heap planned
  made_is =
      ap (λ (b : Bool). made_in h (cond b (Ok s) (Err OutOfRange))) (sizes_pass s f)
      ∙ sym (lt_no (length h.words) (lay_of s).words (Err Unfit, h) _ (Ok tt, new_heap (lay_of s) h) long
      (lt_no (length h.bytes) (lay_of s).bytes (Err Unfit, h) (Ok tt, new_heap (lay_of s) h) (Ok tt, new_heap (lay_of s) h) wide refl))

  -- The new heap is one that the calls make,
  pub new_made : Made (new_heap (lay_of s) h)
  new_made = new s h (ap (λ (x : Result Unit Refusal × Heap). x.0) made_is) (sym (ap (λ (x : Result Unit Refusal × Heap). x.1) made_is))

  -- and at Pause; so a collection of it by single steps ends.
  pub new_ends : (n : ℕ) × (at (until (some (suc n)) (new_heap (lay_of s) h)).words PHASE ≡ 4)
  new_ends = made_ends (new_heap (lay_of s) h) new_made (new_pause s f h.words h.bytes long wide)
