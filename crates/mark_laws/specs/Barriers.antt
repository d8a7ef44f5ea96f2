-- Both barriers. The forward one marks a value or does nothing, so it is moves, and clean. The backward one turns one table
-- from black to gray and lists it: it leaves what marking leaves, and no other colour falls. Assumes nothing.
--     forward_moves, forward_clean     the forward barrier
--     Turned, back_turned              the backward barrier, on the words
--     back_colour                      the same of the colours of handles
use Rattle.std.specs.Prelude.{◌≡◌, ◌⊎◌, ℕ, ◌+◌, ◌≤◌, ◌<◌, length}
use Rattle.std.proofs.Math.Path.{refl}
use Rattle.std.proofs.Common.{sym, ap, subst, ◌∙◌, inr, arith, length-set, get_or-set_same, get_or-set_other}
use mathlib.Core.List.{List as Words}
use Rattle.std.proofs.Math.Logic.{inl}
use Rattle.std.proofs.Math.Decide.{dec_lt, ℕ_discrete}
use Rattle.base.specs.Ways.{if_eq, eq_yes, eq_no, eq_either}
use Rattle.base.specs.Words.{at}
use Rattle.arena.specs.Slots.{used, gen}
use Rattle.value.specs.declared.TableRef.{TableRef}
use Rattle.value.specs.declared.Value.{Value}
use Rattle.layout.specs.declared.Lay.{Lay}
use Rattle.layout.specs.Places.{PHASE, WHITE}
use Rattle.lists.specs.declared.Item.TheVariants.{Table}
use Rattle.lists.specs.Lists.{push}
use Rattle.laid.specs.Laid.{Laid}
use Rattle.mark.specs.Ops.{Ref, tab, grayagain}
use Rattle.mark.specs.Words.{arena_of, colour_w, paint_w, ops}
use Rattle.mark.specs.Marking.{value_colour}
use Rattle.propagate.specs.Barriers.{barrier_back, barrier_forward}
use Rattle.mark_laws.specs.Apart.{Apart, Order, order}
use Rattle.mark_laws.specs.Colours.{shade_parts, shade_is, shade_past, shade_stale, shade_same}
use Rattle.mark_laws.specs.Moves.{Moves, still, pushed, value_moves}
use Rattle.mark_laws.specs.Changes.{Untouched, slot, Marked, moves_marked, colour_in, colour_apart, push_colours}
use Rattle.mark_laws.specs.Stays.{tops_in}
use Rattle.mark_laws.specs.Follows.{value_links_lem}
use Rattle.mark_laws.specs.Weights.{Clean, clean_none, value_clean}

-- The forward barrier is moves.
pub forward_moves : (l : Lay) (parent : ℕ) (v : Value) {w u : Words ℕ} → Moves l w u → Moves l w (barrier_forward (ops l) l parent v u)
unfolding barrier_forward
forward_moves l parent v {w} {u} m =
    eq_either (λ (x : Words ℕ). Moves l w x) (at u PHASE) 1 _ u
    (eq_either (λ (x : Words ℕ). Moves l w x) parent 4 _ u
    (eq_either (λ (x : Words ℕ). Moves l w x) (value_colour (ops l) v u) (at u WHITE) _ u (value_moves l v m) m)
    m)
    m

-- One table's colour goes from 4 to 3; all that marking leaves is as it was, and so is every other colour.
pub record Turned (l : Lay) (w u : Words ℕ) : Type 0 where
  pub long : length u ≡ length w
  pub kept : (q : ℕ) → Untouched l q → at u q ≡ at w q
  pub colours : (k i : ℕ) → i < (arena_of l k).slots
      → (at u ((arena_of l k).base + i) ≡ at w ((arena_of l k).base + i)) ⊎ ((at w ((arena_of l k).base + i) ≡ 4) × (at u ((arena_of l k).base + i) ≡ 3))

module _ (l : Lay) (ok : Laid l) (a : Apart l) where
  abbrev o : Order l
  o = order l ok a

  -- The forward barrier is clean.
  pub forward_clean : (parent : ℕ) (v : Value) (u : Words ℕ) → l.words ≤ length u → Clean l u (barrier_forward (ops l) l parent v u)
  unfolding barrier_forward
  forward_clean parent v u long =
      eq_either (λ (x : Words ℕ). Clean l u x) (at u PHASE) 1 _ u
      (eq_either (λ (x : Words ℕ). Clean l u x) parent 4 _ u
      (eq_either (λ (x : Words ℕ). Clean l u x) (value_colour (ops l) v u) (at u WHITE) _ u
      (subst (λ x. Clean l u x) (sym (value_links_lem l v u)) (value_clean l ok a v u long)) clean_none)
      clean_none)
      clean_none

  -- a black table is painted gray, and listed
  turn : (r : TableRef) (w : Words ℕ) → l.words ≤ length w → colour_w l (tab r) w ≡ 4 → Turned l w (push l.grayagain (Table r) (paint_w l (tab r) 3 w))
  turn r w long e = record {
    long = pushed_marked.long ∙ length-set w (l.tables.base + r.0) 3;
    kept = λ q f. pushed_marked.kept q f ∙ get_or-set_other w (l.tables.base + r.0) q 3 0 (colour_apart l ok a 1 r.0 i q f);
    colours = λ k j f. go k j f (ℕ_discrete ((arena_of l k).base + j) (l.tables.base + r.0));
  }
    where
      p : (r.0 < used l.tables w) × (gen l.tables r.0 w ≡ r.1) × (colour_w l (tab r) w ≡ at w (l.tables.base + r.0))
      p = shade_parts l.tables r.0 r.1 w (omega (arith, e))

      i : r.0 < l.tables.slots
      i = omega (arith, p.0)

      pushed_marked : Marked l (paint_w l (tab r) 3 w) (push l.grayagain (Table r) (paint_w l (tab r) 3 w))
      pushed_marked = moves_marked l ok a (pushed (still refl) grayagain (Table r) refl) (omega (arith, long, length-set w (l.tables.base + r.0) 3))

      here : at (paint_w l (tab r) 3 w) (l.tables.base + r.0) ≡ 3
      here = get_or-set_same w (l.tables.base + r.0) 3 0 (omega (arith, long, (colour_in l ok a 1 r.0 i).1, a, o.words))

      -- a push changes no colour
      same : (k j : ℕ) → j < (arena_of l k).slots → at (push l.grayagain (Table r) (paint_w l (tab r) 3 w)) ((arena_of l k).base + j) ≡ at (paint_w l (tab r) 3 w) ((arena_of l k).base + j)
      same k j f = push_colours l ok a grayagain (Table r) (paint_w l (tab r) 3 w) (omega (arith, long, length-set w (l.tables.base + r.0) 3)) k j f

      go : (k j : ℕ) → j < (arena_of l k).slots → Dec ((arena_of l k).base + j ≡ l.tables.base + r.0)
          → (at (push l.grayagain (Table r) (paint_w l (tab r) 3 w)) ((arena_of l k).base + j) ≡ at w ((arena_of l k).base + j))
          ⊎ ((at w ((arena_of l k).base + j) ≡ 4) × (at (push l.grayagain (Table r) (paint_w l (tab r) 3 w)) ((arena_of l k).base + j) ≡ 3))
      go k j f (yes z) = inr (ap (at w) z ∙ sym p.2 ∙ e, same k j f ∙ ap (at (paint_w l (tab r) 3 w)) z ∙ here)
      go k j f (no z) = inl (same k j f ∙ get_or-set_other w (l.tables.base + r.0) ((arena_of l k).base + j) 3 0 z)

  -- The backward barrier does that to a black table, during propagation, and nothing else.
  pub back_turned : (r : TableRef) (w : Words ℕ) → l.words ≤ length w → Turned l w (barrier_back (ops l) r w)
  unfolding barrier_back
  back_turned r w long =
      eq_either (λ (x : Words ℕ). Turned l w x) (at w PHASE) 1 _ w
      (go (ℕ_discrete (colour_w l (tab r) w) 4))
      none
    where
      none : Turned l w w
      none = record { long = refl; kept = λ q h. refl; colours = λ k i h. inl refl }

      go : Dec (colour_w l (tab r) w ≡ 4) → Turned l w (if_eq (colour_w l (tab r) w) 4 (push l.grayagain (Table r) (paint_w l (tab r) 3 w)) w)
      go (yes e) = subst (λ x. Turned l w x) (eq_yes (colour_w l (tab r) w) 4 _ _ _ e refl) (turn r w long e)
      go (no d) = subst (λ x. Turned l w x) (eq_no (colour_w l (tab r) w) 4 _ _ _ d refl) none

  -- So the colour of a handle stays, or goes from 4 to 3.
  pub back_colour : {w u : Words ℕ} → Turned l w u → (x : Ref) → (colour_w l x u ≡ colour_w l x w) ⊎ ((colour_w l x w ≡ 4) × (colour_w l x u ≡ 3))
  back_colour {w} {u} t x = go (dec_lt x.at (used (arena_of l x.kind) w)) (ℕ_discrete (gen (arena_of l x.kind) x.at w) x.gen)
    where
      same_used : used (arena_of l x.kind) u ≡ used (arena_of l x.kind) w
      same_used = rw (t.kept ((arena_of l x.kind).top + 1) (tops_in l o x.kind ((arena_of l x.kind).top + 1) (omega arith) (omega arith)))

      same_gen : x.at < (arena_of l x.kind).slots → gen (arena_of l x.kind) x.at u ≡ gen (arena_of l x.kind) x.at w
      same_gen i = t.kept _ (slot x.kind (omega arith) (omega arith))

      fall : x.at < used (arena_of l x.kind) w → gen (arena_of l x.kind) x.at w ≡ x.gen
          → (at u ((arena_of l x.kind).base + x.at) ≡ at w ((arena_of l x.kind).base + x.at)) ⊎ ((at w ((arena_of l x.kind).base + x.at) ≡ 4) × (at u ((arena_of l x.kind).base + x.at) ≡ 3))
          → (colour_w l x u ≡ colour_w l x w) ⊎ ((colour_w l x w ≡ 4) × (colour_w l x u ≡ 3))
      fall h e (inl z) = inl (shade_same (arena_of l x.kind) x.at x.gen w u same_used (same_gen (omega arith)) z)
      fall h e (inr z) =
          inr (
            shade_is (arena_of l x.kind) x.at x.gen w h e (omega (arith, z.0)) ∙ z.0,
            shade_is (arena_of l x.kind) x.at x.gen u (omega (arith, h, same_used)) (same_gen (omega arith) ∙ e) (omega (arith, z.1)) ∙ z.1,
          )

      go : Dec (x.at < used (arena_of l x.kind) w) → Dec (gen (arena_of l x.kind) x.at w ≡ x.gen) → (colour_w l x u ≡ colour_w l x w) ⊎ ((colour_w l x w ≡ 4) × (colour_w l x u ≡ 3))
      go (no h) e = inl (shade_past (arena_of l x.kind) x.at x.gen u (omega (arith, h, same_used)) ∙ sym (shade_past (arena_of l x.kind) x.at x.gen w (omega (arith, h))))
      go (yes h) (no e) = inl (shade_stale (arena_of l x.kind) x.at x.gen u (λ z. e (sym (same_gen (omega arith)) ∙ z)) ∙ sym (shade_stale (arena_of l x.kind) x.at x.gen w e))
      go (yes h) (yes e) = fall h e (t.colours x.kind x.at (omega arith))
