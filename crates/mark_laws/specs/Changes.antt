-- What the moves of marking leave, and how they change colours: proved once, of all of them. Assumes nothing.
--     Untouched         the places that no move writes
--     Marked            words as long as before, every untouched word as it was, every colour the same or risen
--     moves_marked      all that Moves allows is that
use Rattle.std.specs.Prelude.{◌≡◌, ◌⊎◌, ◌≢◌}
use Rattle.std.proofs.Math.Path.{refl}
use Rattle.std.proofs.Common.{sym, ap, subst, ◌∙◌, inl, inr, arith, get_or-set_same, get_or-set_other}
use mathlib.Core.List.{List as Words}
use Prim.Native.Nat.{ℕ, ◌+◌, ◌*◌, ◌≤◌, ◌<◌}
use Rattle.std.proofs.Math.Decide.{dec_lt, ℕ_discrete}
use Rattle.std.proofs.Math.ListN.{length, length-set}
use Rattle.base.specs.Loop.{run_keeps}
use Rattle.base.specs.Words.{at, clear, clear_one}
use Rattle.arena.specs.Slots.{used, gen}
use Rattle.value.specs.Laws.{Outside, outer}
use Rattle.layout.specs.declared.Lay.{Lay}
use Rattle.lists.specs.declared.Item.{Item}
use Rattle.lists.specs.Lists.{RoomFor, length_of, push, pop, cleared}
use Rattle.lists.proofs.Laws.{push_long, push_kept, pop_long, pop_kept, cleared_kept}
use Rattle.laid.specs.Laid.{Laid, gray_room_lem, grayagain_room_lem, weak_room_lem}
use Rattle.mark.specs.Ops.{Ref, Work, gray, grayagain, weak}
use Rattle.mark.specs.Words.{arena_of, list_of, colour_w, paint_w}
use Rattle.mark_laws.specs.Apart.{Apart, Order, order, arena_kind, arena_before, arena_header, arena_lists}
use Rattle.mark_laws.specs.Colours.{shade_parts}
use Rattle.mark_laws.specs.Moves.{Rising, Moves, still, raised, pushed, popped, emptied}

-- The places that marking does not write: the first 52 words; phase, white, cursor and counters; the queue's count and each
-- arena's head, fresh index and count; generations, links and extents; and all from the queue on, so all past the boundary.
-- What is left are the damage mark, the counts and items of three lists, and the colours.
pub data Untouched (l : Lay) (q : ℕ) : Type 0 where
  first : q < 52 → Untouched l q
  counters : 52 < q → q < 69 → Untouched l q
  tops : 71 < q → q < 91 → Untouched l q
  slot : (k : ℕ) → (arena_of l k).base + (arena_of l k).slots ≤ q → q < (arena_of l k).base + 4 * (arena_of l k).slots → Untouched l q
  past : l.queue.base ≤ q → Untouched l q

-- A colour stays, or rises.
abbrev pub Up : ℕ → ℕ → Type 0
Up c d = (d ≡ c) ⊎ Rising c d

-- what stays or rises twice stays or rises
pub up_then : {c d e : ℕ} → Up c d → Up d e → Up c e
up_then (inl p) (inl q) = inl (q ∙ p)
up_then (inl p) (inr q) = inr (omega (arith, p, q.0), omega (arith, p, q.1), q.2, q.3)
up_then (inr p) (inl q) = inr (p.0, omega (arith, q, p.1), omega (arith, q, p.2), omega (arith, q, p.3))
up_then (inr p) (inr q) = inr (p.0, omega (arith, p.1, q.1), q.2, q.3)

-- The words u are the words w after any marking.
pub record Marked (l : Lay) (w u : Words ℕ) : Type 0 where
  pub long : length u ≡ length w
  pub kept : (q : ℕ) → Untouched l q → at u q ≡ at w q
  pub colours : (k i : ℕ) → i < (arena_of l k).slots → Up (at w ((arena_of l k).base + i)) (at u ((arena_of l k).base + i))

-- Nothing done is marking.
pub marked_none : {l : Lay} {w : Words ℕ} → Marked l w w
marked_none = record { long = refl; kept = λ q h. refl; colours = λ k i h. inl refl }

-- Marking after marking is marking.
pub marked_then : {l : Lay} {w u v : Words ℕ} → Marked l w u → Marked l u v → Marked l w v
marked_then f g = record {
  long = g.long ∙ f.long;
  kept = λ q h. g.kept q h ∙ f.kept q h;
  colours = λ k i h. up_then (f.colours k i h) (g.colours k i h);
}

module _ (l : Lay) (ok : Laid l) (a : Apart l) where
  abbrev o : Order l
  o = order l ok a

  abbrev base : ℕ → ℕ
  base k = (arena_of l k).base

  abbrev slots : ℕ → ℕ
  slots k = (arena_of l k).slots

  -- where a colour lies
  pub colour_in : (k i : ℕ) → i < slots k → (91 ≤ base k + i) × (base k + i < l.gray.base)
  colour_in k i h =
      let g = arena_kind l o k i h in
      (omega (arith, arena_header l o k g), omega (arith, arena_lists l o k g))

  -- No untouched word is a colour.
  pub colour_apart : (k i : ℕ) → i < slots k → (q : ℕ) → Untouched l q → q ≢ base k + i
  colour_apart k i h q (first f) e = omega (arith, (colour_in k i h).0)
  colour_apart k i h q (counters f g) e = omega (arith, (colour_in k i h).0)
  colour_apart k i h q (tops f g) e = omega (arith, (colour_in k i h).0)
  colour_apart k i h q (past f) e = omega (arith, (colour_in k i h).1, a)
  colour_apart k i h q (slot d f g) e = go (dec_lt k d) (dec_lt d k)
    where
      go : Dec (k < d) → Dec (d < k) → ⊥
      go (yes p) t = omega (arith, arena_before l o k d p (arena_kind l o d 0 (omega arith)))
      go (no p) (yes t) = omega (arith, arena_before l o d k t (arena_kind l o k i h))
      go (no p) (no t) =
          let s : k ≡ d = omega arith in
          omega (arith, ap base s, ap slots s)

  -- A colour is raised.
  paint_marked : (w : Words ℕ) → l.words ≤ length w → (r : Ref) (c : ℕ) → Rising (colour_w l r w) c → Marked l w (paint_w l r c w)
  paint_marked w long r c h = record {
    long = length-set w x c;
    kept = λ q f. get_or-set_other w x q c 0 (colour_apart r.kind r.at i q f);
    colours = λ k j f. go k j (ℕ_discrete (base k + j) x);
  }
    where
      x : ℕ
      x = base r.kind + r.at

      p : (r.at < used (arena_of l r.kind) w) × (gen (arena_of l r.kind) r.at w ≡ r.gen) × (colour_w l r w ≡ at w (base r.kind + r.at))
      p = shade_parts (arena_of l r.kind) r.at r.gen w h.0

      i : r.at < slots r.kind
      i = omega (arith, p.0)

      here : at (paint_w l r c w) (base r.kind + r.at) ≡ c
      here = get_or-set_same w (base r.kind + r.at) c 0 (omega (arith, (colour_in r.kind r.at i).1, a, o.words))

      go : (k j : ℕ) → Dec (base k + j ≡ base r.kind + r.at) → Up (at w (base k + j)) (at (paint_w l r c w) (base k + j))
      go k j (yes e) =
          subst (λ (y : ℕ). Up (at w y) (at (paint_w l r c w) y)) (sym e)
          (inr (omega (arith, h.0, p.2), omega (arith, here, h.1, p.2), omega (arith, here, h.2), omega (arith, here, h.3)))
      go k j (no e) = inl (get_or-set_other w (base r.kind + r.at) (base k + j) c 0 e)

  -- The places that no push, pop or clearing of a list writes: not the damage mark, no count, no item.
  abbrev Unlisted : ℕ → Type 0
  Unlisted q = (q ≢ 52) × (q ≢ 69) × (q ≢ 70) × (q ≢ 71) × ((q < l.gray.base) ⊎ (l.queue.base ≤ q))

  untouched_unlisted : (q : ℕ) → Untouched l q → Unlisted q
  untouched_unlisted q (first h) = (omega arith, omega arith, omega arith, omega arith, inl (omega (arith, o.header, a)))
  untouched_unlisted q (counters h g) = (omega arith, omega arith, omega arith, omega arith, inl (omega (arith, o.header, a)))
  untouched_unlisted q (tops h g) = (omega arith, omega arith, omega arith, omega arith, inl (omega (arith, o.header, a)))
  untouched_unlisted q (past h) = (omega (arith, o.header, a), omega (arith, o.header, a), omega (arith, o.header, a), omega (arith, o.header, a), inr h)
  untouched_unlisted q (slot k h g) =
      let d = arena_kind l o k 0 (omega arith) in
      let x = arena_header l o k d in
      (omega (arith, x), omega (arith, x), omega (arith, x), omega (arith, x), inl (omega (arith, arena_lists l o k d)))

  colour_unlisted : (k i : ℕ) → i < slots k → Unlisted (base k + i)
  colour_unlisted k i h =
      let x = colour_in k i h in
      (omega (arith, x.0), omega (arith, x.0), omega (arith, x.0), omega (arith, x.0), inl x.1)

  lists_marked : (w u : Words ℕ) → length u ≡ length w → ((q : ℕ) → Unlisted q → at u q ≡ at w q) → Marked l w u
  lists_marked w u e h = record {
    long = e;
    kept = λ q f. h q (untouched_unlisted q f);
    colours = λ k i f. inl (h (base k + i) (colour_unlisted k i f));
  }

  -- each list lies there
  list_out : (k : Work) (q : ℕ) → Unlisted q → (q ≢ (list_of l k).count) × Outside (list_of l k).base (3 * (list_of l k).room) q
  list_out gray q (d, x, y, z, inl h) = (omega (arith, o.gray), inl h)
  list_out gray q (d, x, y, z, inr h) = (omega (arith, o.gray), inr (omega (arith, a)))
  list_out grayagain q (d, x, y, z, inl h) = (omega (arith, o.grayagain), inl (omega (arith, a)))
  list_out grayagain q (d, x, y, z, inr h) = (omega (arith, o.grayagain), inr (omega (arith, a)))
  list_out weak q (d, x, y, z, inl h) = (omega (arith, o.weak), inl (omega (arith, a)))
  list_out weak q (d, x, y, z, inr h) = (omega (arith, o.weak), inr (omega (arith, a)))

  -- Each of the three lists has room in the words.
  pub work_room : (k : Work) (w : Words ℕ) → l.words ≤ length w → RoomFor (list_of l k) w
  work_room gray w h = gray_room_lem l w ok h
  work_room grayagain w h = grayagain_room_lem l w ok h
  work_room weak w h = weak_room_lem l w ok h

  push_marked : (k : Work) (x : Item) (w : Words ℕ) → l.words ≤ length w → Marked l w (push (list_of l k) x w)
  push_marked k x w long =
      lists_marked w _ (push_long (list_of l k) x w (work_room k w long))
      (λ q f. push_kept (list_of l k) x w (work_room k w long) q (list_out k q f).0 f.0 (list_out k q f).1)

  -- A push changes no colour.
  pub push_colours : (k : Work) (x : Item) (w : Words ℕ) → l.words ≤ length w → (d i : ℕ) → i < slots d → at (push (list_of l k) x w) (base d + i) ≡ at w (base d + i)
  push_colours k x w long d i h =
      let f = colour_unlisted d i h in
      push_kept (list_of l k) x w (work_room k w long) (base d + i) (list_out k (base d + i) f).0 f.0 (list_out k (base d + i) f).1

  pop_marked : (k : Work) (w : Words ℕ) → l.words ≤ length w → Marked l w (pop (list_of l k) w).1
  pop_marked k w long =
      lists_marked w _ (pop_long (list_of l k) w (work_room k w long))
      (λ q f. pop_kept (list_of l k) w (work_room k w long) q (list_out k q f).0 (list_out k q f).1)

  clear_long : (p n : ℕ) (w : Words ℕ) → length (clear p n w) ≡ length w
  unfolding clear
  clear_long p n w = run_keeps (clear_one p) (λ (t : Words ℕ). length t ≡ length w) 0 n w (omega arith) (λ j t h e. length-set t (p + j) 0 ∙ e) refl

  cleared_marked : (k : Work) (w : Words ℕ) → l.words ≤ length w → Marked l w (cleared (list_of l k) w)
  unfolding cleared
  cleared_marked k w long =
      lists_marked w _ (length-set (clear b (3 * n) w) (list_of l k).count 0 ∙ clear_long b (3 * n) w)
      (λ q f. cleared_kept (list_of l k) w (work_room k w long) q (list_out k q f).0 (outer b (3 * (list_of l k).room) q (list_out k q f).1 b (3 * n) (omega arith) (omega arith)))
    where
      b : ℕ
      b = (list_of l k).base

      n : ℕ
      n = length_of (list_of l k) w

  -- All that Moves allows: words as long, untouched words as they were, colours the same or risen.
  pub moves_marked : {w u : Words ℕ} → Moves l w u → l.words ≤ length w → Marked l w u
  moves_marked {w} (still e) long = subst (λ x. Marked l w x) (sym e) marked_none
  moves_marked {w} (raised {u = u} m r c h e) long =
      let n = moves_marked m long in
      subst (λ x. Marked l w x) (sym e) (marked_then n (paint_marked u (omega (arith, n.long)) r c h))
  moves_marked {w} (pushed {u = u} m k x e) long =
      let n = moves_marked m long in
      subst (λ x. Marked l w x) (sym e) (marked_then n (push_marked k x u (omega (arith, n.long))))
  moves_marked {w} (popped {u = u} m k e) long =
      let n = moves_marked m long in
      subst (λ x. Marked l w x) (sym e) (marked_then n (pop_marked k u (omega (arith, n.long))))
  moves_marked {w} (emptied {u = u} m k e) long =
      let n = moves_marked m long in
      subst (λ x. Marked l w x) (sym e) (marked_then n (cleared_marked k u (omega (arith, n.long))))
