-- Laws of bytes kept one after another.
--     said_append       a text after a text
--     said_within       what is said ends within the bytes, whose length stays
--     said_again        what a text from place i on says
--     gather_again      a byte of a part; gather_whole its newline; gather_end its end
--     gather_count      what is gathered lies within the line's bytes
--     gather_past       reading goes forward; gather_most: within the part
-- Assumes nothing.
use Rattle.std.specs.Prelude.{◌≡◌, Bool, true, false, cond, List, [], ◌∷◌, ◌++◌, ℕ, suc, ◌+◌, ◌≤◌, ◌<◌, ltb, length, drop, set}
use Rattle.std.proofs.Math.Path.{refl}
use Rattle.std.proofs.Common.{◌∙◌, arith, drop_of_length-le, length-set, ltb-true, drop-cons}
use Rattle.base.specs.Ways.{if_lt, eq_yes, eq_no, eq_either}
use Rattle.base.specs.Words.{at}
use Rattle.script_bytes.specs.declared.Gathered.{Gathered}
use Rattle.script_bytes.specs.Bytes.{kept, said, gather_on, gather}

pub next : (s : List ℕ) (k : ℕ) → k < length s → drop k s ≡ at s k ∷ drop (k + 1) s
next s k h = let q : k + 1 ≡ suc k = omega arith in rw q (drop-cons s k 0 h)

pub said_append : (a b : List ℕ) (p : ℕ × List ℕ) → said (a ++ b) p ≡ said b (said a p)
unfolding said
said_append [] b p = refl
said_append (c ∷ cs) b p = said_append cs b (kept c p)

-- the text from place i on, said at q, says what the whole does
unfoldable pub said_from : ℕ → List ℕ → ℕ × List ℕ → ℕ × List ℕ
said_from i s q = said (drop i s) q

module _ (i : ℕ) (s : List ℕ) (q : ℕ × List ℕ) {r : ℕ × List ℕ} (rest : said_from i s q ≡ r) where
  pub said_again : {q' : ℕ × List ℕ} → i < length s → q' ≡ kept (at s i) q → said_from (i + 1) s q' ≡ r
  unfolding said_from said
  said_again h e = rw e (rw (next s i h) at rest)

  pub said_end : length s ≤ i → q ≡ r
  unfolding said_from said
  said_end h = rw (drop_of_length-le s h) at rest

-- the part from place i on, after q, gathers what the whole does
module _ (i : ℕ) (s : List ℕ) (q : ℕ × List ℕ) {r : Gathered × List ℕ} (rest : gather s i q ≡ r) where
  pub gather_again : {q' : ℕ × List ℕ} → i < length s → (at s i ≡ 10 → ⊥) → q' ≡ kept (at s i) q → gather s (i + 1) q' ≡ r
  unfolding gather_on
  gather_again h d e = rw e (eq_no (at s i) 10 _ _ _ d refl ∙ (rw (next s i h) at rest))

  pub gather_whole : i < length s → at s i ≡ 10 → (record { next = i + 1; count = q.0; whole = true }, q.1) ≡ r
  unfolding gather_on
  gather_whole h e = eq_yes (at s i) 10 _ _ _ e refl ∙ (rw (next s i h) at rest)

  pub gather_end : length s ≤ i → (record { next = i; count = q.0; whole = false }, q.1) ≡ r
  unfolding gather_on
  gather_end h = rw (drop_of_length-le s h) at rest

-- a place within the bytes stays within them
pub kept_long : (c : ℕ) (p : ℕ × List ℕ) → length (kept c p).1 ≡ length p.1
unfolding kept if_lt
kept_long c (n, out) = by_room (ltb n (length out))
  where
    by_room : (b : Bool) → length (cond {A = ℕ × List ℕ} b (n + 1, set out n c) (n, out)).1 ≡ length out
    by_room true = length-set out n c
    by_room false = refl

pub kept_within : (c : ℕ) (p : ℕ × List ℕ) → p.0 ≤ length p.1 → (kept c p).0 ≤ length p.1
unfolding kept if_lt
kept_within c (n, out) h = by_room (ltb n (length out)) refl
  where
    by_room : (b : Bool) → ltb n (length out) ≡ b → (cond {A = ℕ × List ℕ} b (n + 1, set out n c) (n, out)).0 ≤ length out
    by_room true e = omega (arith, ltb-true n (length out) e)
    by_room false e = h

pub said_within : (t : List ℕ) (p : ℕ × List ℕ) → p.0 ≤ length p.1 → (said t p).0 ≤ length p.1
unfolding said
said_within [] p h = h
said_within (c ∷ cs) p h = rw (kept_long c p) at (said_within cs (kept c p) (rw (kept_long c p) (kept_within c p h)))

-- what is gathered lies within the line's bytes; reading goes forward and stays within the part
pub gather_count : (i : ℕ) (p : ℕ × List ℕ) (cs : List ℕ) → p.0 ≤ length p.1 → (gather_on i p cs).0.count ≤ length p.1
unfolding gather_on
gather_count i p [] h = h
gather_count i p (c ∷ cs) h =
    eq_either (λ (x : Gathered × List ℕ). x.0.count ≤ length p.1) c 10 _ _ h
    (rw (kept_long c p) at (gather_count (i + 1) (kept c p) cs (rw (kept_long c p) (kept_within c p h))))

pub gather_forth : (i : ℕ) (p : ℕ × List ℕ) (cs : List ℕ) → i ≤ (gather_on i p cs).0.next
unfolding gather_on
gather_forth i p [] = omega arith
gather_forth i p (c ∷ cs) =
    eq_either (λ (x : Gathered × List ℕ). i ≤ x.0.next) c 10 _ _ (omega arith) (omega (arith, gather_forth (i + 1) (kept c p) cs))

pub gather_most : (i : ℕ) (p : ℕ × List ℕ) (cs : List ℕ) → (gather_on i p cs).0.next ≤ i + length cs
unfolding gather_on
gather_most i p [] = omega arith
gather_most i p (c ∷ cs) =
    eq_either (λ (x : Gathered × List ℕ). x.0.next ≤ i + suc (length cs)) c 10 _ _ (omega arith) (omega (arith, gather_most (i + 1) (kept c p) cs))

pub gather_past : (s : List ℕ) (i : ℕ) (p : ℕ × List ℕ) → i < length s → i < (gather s i p).0.next
unfolding gather_on
gather_past s i p h =
    rw (next s i h)
    (eq_either (λ (x : Gathered × List ℕ). i < x.0.next) (at s i) 10 _ _ (omega arith) (omega (arith, gather_forth (i + 1) (kept (at s i) p) (drop (i + 1) s))))
