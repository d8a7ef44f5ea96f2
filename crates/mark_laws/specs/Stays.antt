-- What marking leaves as it was, and what it does to colours. `w` are the words before, `u` those after. Assumes nothing.
--     below, past_stays                     the first 52 words and all from the boundary on
--     value_stays, table_stays, str_stays, upval_stays     so what is read there
--     head_stays, fresh_stays, count_stays, gen_stays, link_stays, extent_stays     the arenas, but for their colours
--     colour_rises, free_stays, never_falls, marked_stays     colours stay or rise
--     named_stays                           the handles that name a slot
use Rattle.std.specs.Prelude.{◌≡◌, refl, false, List as Words, ◌⊎◌, ℕ, zero, suc, ◌+◌, ◌-◌, ◌*◌, ◌≤◌, ◌<◌, drop, Some, None}
use Rattle.std.proofs.Common.{sym, ap, ◌∙◌, inl, inr, arith, length-drop, get_or-drop, ext_get_or}
use Rattle.std.proofs.Math.Decide.{dec_lt, ℕ_discrete}
use Rattle.base.specs.Ways.{if_eq, eq_no}
use Rattle.base.specs.Words.{at}
use Rattle.arena.specs.declared.Arena.{Arena}
use Rattle.arena.specs.Slots.{head, fresh, count, gen, link, extent, used, named}
use Rattle.value.specs.Values.{value_at}
use Rattle.value.specs.Handles.{handle_at, table_or_at, str_or_at}
use Rattle.value.specs.Laws.{value_three}
use Rattle.layout.specs.declared.Lay.{Lay}
use Rattle.record.specs.Fields.{upval_at}
use Rattle.mark.specs.Ops.{Ref, ref, is_white}
use Rattle.mark.specs.Words.{arena_of, shade, colour_w}
use Rattle.mark_laws.specs.Apart.{Order}
use Rattle.mark_laws.specs.Colours.{shade_is, shade_past, shade_stale, shade_same, named_shade, not_white}
use Rattle.mark_laws.specs.Changes.{Untouched, first, tops, slot, past, Up, Marked}

-- n words from q on that marking does not write: in the first 52, or past the boundary
abbrev pub Safe : Lay → ℕ → ℕ → Type 0
Safe l q n = (q + n ≤ 52) ⊎ (l.boundary ≤ q)

-- a part of such words is such
pub safe_in : (l : Lay) (q n : ℕ) → Safe l q n → (p m : ℕ) → q ≤ p → p + m ≤ q + n → Safe l p m
safe_in l q n (inl h) p m f g = inl (omega arith)
safe_in l q n (inr h) p m f g = inr (omega arith)

-- an arena's three words of the header
pub tops_in : (l : Lay) → Order l → (k q : ℕ) → (arena_of l k).top ≤ q → q < (arena_of l k).top + 3 → Untouched l q
tops_in l o zero q h g = tops (omega (arith, o.top_strings)) (omega (arith, o.top_strings))
tops_in l o (suc zero) q h g = tops (omega (arith, o.top_tables)) (omega (arith, o.top_tables))
tops_in l o (suc (suc zero)) q h g = tops (omega (arith, o.top_functions)) (omega (arith, o.top_functions))
tops_in l o (suc (suc (suc zero))) q h g = tops (omega (arith, o.top_upvalues)) (omega (arith, o.top_upvalues))
tops_in l o (suc (suc (suc (suc zero)))) q h g = tops (omega (arith, o.top_userdata)) (omega (arith, o.top_userdata))
tops_in l o (suc (suc (suc (suc (suc zero))))) q h g = tops (omega (arith, o.top_threads)) (omega (arith, o.top_threads))
tops_in l o (suc (suc (suc (suc (suc (suc k)))))) q h g = first (omega arith)

module _ {l : Lay} (o : Order l) {w u : Words ℕ} (m : Marked l w u) where
  -- Marking writes no word below 52 and none from the boundary on.
  pub below : (q : ℕ) → (q < 52) ⊎ (l.boundary ≤ q) → at u q ≡ at w q
  below q (inl h) = m.kept q (first h)
  below q (inr h) = m.kept q (past (omega (arith, o.parts.queue)))

  -- So what lies past the boundary is as it was.
  pub past_stays : drop l.boundary u ≡ drop l.boundary w
  past_stays =
      ext_get_or 0 (drop l.boundary u) (drop l.boundary w)
      (length-drop l.boundary u ∙ ap (λ (k : ℕ). k - l.boundary) m.long ∙ sym (length-drop l.boundary w))
      (λ i j. get_or-drop l.boundary u i 0 ∙ below (l.boundary + i) (inr (omega arith)) ∙ sym (get_or-drop l.boundary w i 0))

  -- What is read there is as it was.
  pub word_stays : (q n i : ℕ) → Safe l q n → i < n → at u (q + i) ≡ at w (q + i)
  word_stays q n i (inl h) g = below (q + i) (inl (omega arith))
  word_stays q n i (inr h) g = below (q + i) (inr (omega arith))

  -- one word
  pub one_stays : (q : ℕ) → Safe l q 1 → at u q ≡ at w q
  one_stays q (inl h) = below q (inl (omega arith))
  one_stays q (inr h) = below q (inr h)

  -- a value
  pub value_stays : (q : ℕ) → Safe l q 3 → value_at u q ≡ value_at w q
  value_stays q h = value_three q u w (one_stays q (safe_in l q 3 h q 1 (omega arith) (omega arith))) (word_stays q 3 1 h (omega arith)) (word_stays q 3 2 h (omega arith))

  -- a handle that may be missing
  pub handle_stays : (q : ℕ) → Safe l q 2 → handle_at u q ≡ handle_at w q
  handle_stays q h = rw (one_stays q (safe_in l q 2 h q 1 (omega arith) (omega arith)), word_stays q 2 1 h (omega arith))

  -- a table's
  pub table_stays : (q : ℕ) → Safe l q 2 → table_or_at u q ≡ table_or_at w q
  table_stays q h = rw (handle_stays q h)

  -- a string's
  pub str_stays : (q : ℕ) → Safe l q 2 → str_or_at u q ≡ str_or_at w q
  str_stays q h = rw (handle_stays q h)

  -- an upvalue's handle
  pub upval_stays : (q : ℕ) → Safe l q 2 → upval_at u q ≡ upval_at w q
  upval_stays q h = rw (one_stays q (safe_in l q 2 h q 1 (omega arith) (omega arith)), word_stays q 2 1 h (omega arith))

  -- Of each arena the head of the chain, the fresh index and the count stay,
  pub head_stays : (k : ℕ) → head (arena_of l k) u ≡ head (arena_of l k) w
  head_stays k = m.kept _ (tops_in l o k (arena_of l k).top (omega arith) (omega arith))

  -- the fresh index
  pub fresh_stays : (k : ℕ) → fresh (arena_of l k) u ≡ fresh (arena_of l k) w
  fresh_stays k = m.kept _ (tops_in l o k ((arena_of l k).top + 1) (omega arith) (omega arith))

  -- the count
  pub count_stays : (k : ℕ) → count (arena_of l k) u ≡ count (arena_of l k) w
  count_stays k = m.kept _ (tops_in l o k ((arena_of l k).top + 2) (omega arith) (omega arith))

  -- so the end of the slots in use
  pub used_stays : (k : ℕ) → used (arena_of l k) u ≡ used (arena_of l k) w
  used_stays k = rw (fresh_stays k)

  -- and of each slot the generation, the link and the extent.
  module _ (k i : ℕ) (h : i < (arena_of l k).slots) where
    -- the generation
    pub gen_stays : gen (arena_of l k) i u ≡ gen (arena_of l k) i w
    gen_stays = m.kept _ (slot k (omega arith) (omega arith))

    -- the link
    pub link_stays : link (arena_of l k) i u ≡ link (arena_of l k) i w
    link_stays = m.kept _ (slot k (omega arith) (omega arith))

    -- the extent
    pub extent_stays : extent (arena_of l k) i u ≡ extent (arena_of l k) i w
    extent_stays =
        let e : at u ((arena_of l k).base + 3 * (arena_of l k).slots + i) ≡ at w ((arena_of l k).base + 3 * (arena_of l k).slots + i) = m.kept _ (slot k (omega arith) (omega arith)) in
        rw e

  -- The colour of a handle stays, or goes from white to 3 or 4, or from 3 to 4.
  pub colour_rises : (r : Ref) → Up (colour_w l r w) (colour_w l r u)
  colour_rises r = go (dec_lt i (used a w)) (ℕ_discrete (gen a i w) g)
    where
      a : Arena
      a = arena_of l r.kind

      i : ℕ
      i = r.at

      g : ℕ
      g = r.gen

      same : (x y : ℕ) → x ≡ 0 → y ≡ 0 → Up x y
      same x y p q = inl (q ∙ sym p)

      up : (c d : ℕ) → at w ((arena_of l r.kind).base + r.at) ≡ c → at u ((arena_of l r.kind).base + r.at) ≡ d
          → used (arena_of l r.kind) u ≡ used (arena_of l r.kind) w → gen (arena_of l r.kind) r.at u ≡ gen (arena_of l r.kind) r.at w
          → r.at < used (arena_of l r.kind) w → gen (arena_of l r.kind) r.at w ≡ r.gen → Up c d → Up (colour_w l r w) (colour_w l r u)
      up c d p q f n h e (inl z) = inl (shade_same (arena_of l r.kind) r.at r.gen w u f n (q ∙ z ∙ sym p))
      up c d p q f n h e (inr z) =
          let x = shade_is (arena_of l r.kind) r.at r.gen w h e (omega (arith, p, z.1, z.3)) in
          let y = shade_is (arena_of l r.kind) r.at r.gen u (omega (arith, f, h)) (n ∙ e) (omega (arith, q, z.3)) in
          inr (omega (arith, x, p, z.0), omega (arith, x, y, p, q, z.1), omega (arith, y, q, z.2), omega (arith, y, q, z.3))

      go : Dec (i < used a w) → Dec (gen a i w ≡ g) → Up (colour_w l r w) (colour_w l r u)
      go (no h) e = same _ _ (shade_past a i g w (omega arith)) (shade_past a i g u (omega (arith, used_stays r.kind)))
      go (yes h) (no e) = same _ _ (shade_stale a i g w e) (shade_stale a i g u (λ z. e (sym (gen_stays r.kind i (omega arith)) ∙ z)))
      go (yes h) (yes e) = up _ _ refl refl (used_stays r.kind) (gen_stays r.kind i (omega arith)) h e (m.colours r.kind i (omega arith))

  -- So nothing free becomes occupied, and nothing occupied free; what is not white is not made white; no colour falls.
  pub free_stays : (r : Ref) → colour_w l r w ≡ 0 → colour_w l r u ≡ 0
  free_stays r e = go (colour_rises r)
    where
      go : Up (colour_w l r w) (colour_w l r u) → colour_w l r u ≡ 0
      go (inl p) = p ∙ e
      go (inr p) = absurd (let z : ⊥ = omega (arith, e, p.0) in z)

  -- No colour falls.
  pub never_falls : (r : Ref) → colour_w l r w ≤ colour_w l r u
  never_falls r = go (colour_rises r)
    where
      go : Up (colour_w l r w) (colour_w l r u) → colour_w l r w ≤ colour_w l r u
      go (inl p) = omega (arith, p)
      go (inr p) = p.1

  -- What is not white is not made white.
  pub marked_stays : (r : Ref) → is_white (colour_w l r w) ≡ false → is_white (colour_w l r u) ≡ false
  marked_stays r e = go (colour_rises r)
    where
      go : Up (colour_w l r w) (colour_w l r u) → is_white (colour_w l r u) ≡ false
      go (inl p) = ap is_white p ∙ e
      go (inr p) = not_white (colour_w l r u) (λ z. omega (arith, z, p.2)) (λ z. omega (arith, z, p.2))

  -- A handle names what it named.
  pub named_stays : (k i g : ℕ) → named (arena_of l k) i g u ≡ named (arena_of l k) i g w
  named_stays k i g = named_shade (arena_of l k) i g u ∙ go (colour_rises (ref k i g)) ∙ sym (named_shade (arena_of l k) i g w)
    where
      go : Up (shade (arena_of l k) i g w) (shade (arena_of l k) i g u)
          → if_eq (shade (arena_of l k) i g u) 0 None (Some i) ≡ if_eq (shade (arena_of l k) i g w) 0 None (Some i)
      go (inl p) = ap (λ (c : ℕ). if_eq c 0 None (Some i)) p
      go (inr p) =
          sym (eq_no (shade (arena_of l k) i g u) 0 None (Some i) (Some i) (λ z. omega (arith, z, p.2)) refl)
          ∙ eq_no (shade (arena_of l k) i g w) 0 None (Some i) (Some i) (λ z. omega (arith, z, p.0)) refl
