-- Laws of a line's fields, a place at a time: what the bytes from place i on give is what the whole gives.
--     space_again, space_found, space_end                   the first space
--     number_part, number_low, number_high, number_past     a space ends a number; a byte or a value that makes it none
--     number_again, number_end                              one more digit; the end of the line
--     word_past                                             past the line there is no word
-- Assumes nothing.
use Rattle.std.specs.Prelude.{◌≡◌, List, [], ◌∷◌, ℕ, suc, ◌+◌, ◌-◌, ◌*◌, ◌≤◌, ◌<◌, length, drop}
use Rattle.std.proofs.Math.Path.{refl}
use Rattle.std.proofs.Common.{◌∙◌, arith, drop_of_length-le, drop-cons}
use Rattle.base.specs.Ways.{if_lt, if_eq, lt_yes, lt_no, eq_yes, eq_no}
use Rattle.base.specs.Words.{at}
use Rattle.record.specs.Strings.{same_bytes}
use Rattle.script_fields.specs.declared.Word.TheVariants as word
use Rattle.script_fields.specs.declared.Field.{Field}
use Rattle.script_fields.specs.declared.Field.TheVariants.{Last, Part, Bad}
use Rattle.script_fields.specs.Fields.{space_on, field_end, other_word, word_of, word_at, digits_on, number_on}

next : (s : List ℕ) (k : ℕ) → k < length s → drop k s ≡ at s k ∷ drop (k + 1) s
next s k h = let q : k + 1 ≡ suc k = omega arith in rw q (drop-cons s k 0 h)

module _ (i : ℕ) (s : List ℕ) {r : ℕ} (rest : field_end s i ≡ r) where
  pub space_again : i < length s → (at s i ≡ 32 → ⊥) → field_end s (i + 1) ≡ r
  unfolding space_on
  space_again h d = eq_no (at s i) 32 _ _ _ d refl ∙ (rw (next s i h) at rest)

  pub space_found : i < length s → at s i ≡ 32 → i ≡ r
  unfolding space_on
  space_found h e = eq_yes (at s i) 32 _ _ _ e refl ∙ (rw (next s i h) at rest)

  pub space_end : length s ≤ i → i ≡ r
  unfolding space_on
  space_end h = rw (drop_of_length-le s h) at rest

module _ (i v : ℕ) (s : List ℕ) {r : Field} (rest : number_on s v i ≡ r) where
  pub number_end : length s ≤ i → Last v ≡ r
  unfolding digits_on
  number_end h = rw (drop_of_length-le s h) at rest

  module _ (h : i < length s) where
    turned : if_eq (at s i) 32 (Part v (i + 1))
        (if_lt (at s i) 48 Bad
        (if_lt 57 (at s i) Bad
        (if_lt 4294967295 (v * 10 + (at s i - 48)) Bad
        (number_on s (v * 10 + (at s i - 48)) (i + 1))))) ≡ r
    unfolding digits_on
    turned = rw (next s i h) at rest

    pub number_part : at s i ≡ 32 → Part v (i + 1) ≡ r
    number_part e = eq_yes (at s i) 32 _ _ _ e refl ∙ turned

    module _ (d : at s i ≡ 32 → ⊥) where
      pub number_low : at s i < 48 → Bad ≡ r
      number_low a = eq_no (at s i) 32 _ _ _ d (lt_yes (at s i) 48 _ _ _ a refl) ∙ turned

      module _ (a : 48 ≤ at s i) where
        pub number_high : 57 < at s i → Bad ≡ r
        number_high b = eq_no (at s i) 32 _ _ _ d (lt_no (at s i) 48 _ _ _ a (lt_yes 57 (at s i) _ _ _ b refl)) ∙ turned

        module _ (b : at s i ≤ 57) where
          pub number_past : 4294967295 < v * 10 + (at s i - 48) → Bad ≡ r
          number_past m = eq_no (at s i) 32 _ _ _ d (lt_no (at s i) 48 _ _ _ a (lt_no 57 (at s i) _ _ _ b (lt_yes 4294967295 _ _ _ _ m refl))) ∙ turned

          pub number_again : v * 10 + (at s i - 48) ≤ 4294967295 → number_on s (v * 10 + (at s i - 48)) (i + 1) ≡ r
          number_again m = eq_no (at s i) 32 _ _ _ d (lt_no (at s i) 48 _ _ _ a (lt_no 57 (at s i) _ _ _ b (lt_no 4294967295 _ _ _ _ m refl))) ∙ turned

none : word.Unknown ≡ word_of []
unfolding word_of other_word same_bytes
none = refl

pub word_past : (s : List ℕ) (i : ℕ) → length s < i → word.Unknown ≡ word_at s i
unfolding word_at space_on
word_past s i h =
    let z : i - i ≡ 0 = omega arith in
    rw (drop_of_length-le s {i = i} (omega arith), z) none
