-- Most calls write only words that neither marking nor sweeping looks at: fields of the main record and settings in the header,
-- words of pacing, and all past the prototypes. Such a change keeps the state. Assumes nothing.
--     lt_both, le_both, eq_both, cond_both     what both ways have, a choice has
--     Plain, Looked, Nearly, Plainly     such words; those that are looked at; words that differ in plain ones alone
--     plainly_put, .., past_put, ..     stores
--     plain_state, plain_text     it keeps the state
--     out_state, top_state, opens_state, frame_state     so do a hand-out at Finalize, and counts within their parts
use Rattle.std.specs.Prelude.{◌≡◌, refl, Bool, true, false, cond, ◌⊎◌, ◌≢◌, ℕ, ◌+◌, ◌≤◌, ◌<◌, length, Option}
use Rattle.std.proofs.Common.{sym, subst, ap, ◌∙◌, inl, inr, ⊎_elim, arith, length-set, get_or-set_same, get_or-set_other}
use mathlib.Core.List.{List}
use Rattle.std.proofs.Math.Decide.{dec_lt, ℕ_discrete}
use Rattle.base.specs.Ways.{if_lt, if_le, if_eq, lt_yes, lt_no, le_yes, le_no, eq_yes, eq_no}
use Rattle.base.specs.Loop.{run_keeps}
use Rattle.base.specs.Words.{at, put, clear, clear_one}
use Rattle.base.specs.Heap.{heap}
use Rattle.arena.specs.Slots.{count}
use Rattle.arena_laws.specs.Frames.{Untouched, kept_fresh, kept_colour, frame_keeps}
use Rattle.value.specs.declared.Value.{Value}
use Rattle.value.specs.Handles.{put_handle}
use Rattle.value.specs.Values.{put_value}
use Rattle.layout.specs.declared.Lay.{Lay}
use Rattle.layout.specs.Places.{PROTOTYPES, TOP, OPENS, CI, DAMAGE, PHASE, TOTAL, INTERRUPTED}
use Rattle.laid.specs.Laid.{Laid}
use Rattle.mark.specs.Ops.{Work, gray, grayagain, weak}
use Rattle.mark.specs.Words.{arena_of, list_of}
use Rattle.mark_laws.specs.Apart.{Apart, Order, order, arena_header, arena_lists}
use Rattle.mark_laws.specs.Changes.{colour_in}
use Rattle.room_laws.specs.Counts.{is_gray, is_dark}
use Rattle.room_laws.specs.Frames.{OnList, Quiet, quiet_paid}
use Rattle.sweep_laws.specs.Places.{Rows, top_is}
use Rattle.state_laws.specs.State.{Mains, Sum, State, Fixed, size, mark, queue, Calm, Beside, mains_same, sum_same, nested_same, lists_same, calm_state}

-- What both ways have, a choice has, each by the fact of its test.
module _ {A : Type 0} (P : A → Type 0) where
  pub lt_both : (m n : ℕ) (x y : A) → (m < n → P x) → (n ≤ m → P y) → P (if_lt m n x y)
  lt_both m n x y f g = go (dec_lt m n)
    where
      go : Dec (m < n) → P (if_lt m n x y)
      go (yes h) = subst P (lt_yes m n x y x h refl) (f h)
      go (no h) = let k : n ≤ m = omega (arith, h) in subst P (lt_no m n x y y k refl) (g k)

  pub le_both : (m n : ℕ) (x y : A) → (m ≤ n → P x) → (n < m → P y) → P (if_le m n x y)
  le_both m n x y f g = go (dec_lt n m)
    where
      go : Dec (n < m) → P (if_le m n x y)
      go (yes h) = subst P (le_no m n x y y h refl) (g h)
      go (no h) = let k : m ≤ n = omega (arith, h) in subst P (le_yes m n x y x k refl) (f k)

  pub eq_both : (m n : ℕ) (x y : A) → (m ≡ n → P x) → (m ≢ n → P y) → P (if_eq m n x y)
  eq_both m n x y f g = go (ℕ_discrete m n)
    where
      go : Dec (m ≡ n) → P (if_eq m n x y)
      go (yes h) = subst P (eq_yes m n x y x h refl) (f h)
      go (no h) = subst P (eq_no m n x y y h refl) (g h)

  pub cond_both : (b : Bool) (x y : A) → (b ≡ true → P x) → (b ≡ false → P y) → P (cond b x y)
  cond_both true x y f g = f refl
  cond_both false x y f g = g refl

-- The main record's values and handles, settings and the next creation number; peak, estimate, threshold and debt; the userdata that
-- is out and the remaining budget; all past the prototypes.
pub data Plain (l : Lay) (p : ℕ) : Type 0 where
  fields : 14 ≤ p → p < 52 → Plain l p
  pacing : 58 ≤ p → p < 64 → Plain l p
  handed : 65 ≤ p → p < 69 → Plain l p
  past : l.stack.base ≤ p → Plain l p

-- The sizes and the marks; counts and cells of lists and arenas.
pub data Looked (l : Lay) (x : ℕ) : Type 0 where
  sizes : x < 10 → Looked l x
  marks : 52 ≤ x → x ≤ 56 → Looked l x
  cells : 69 ≤ x → x < l.boundary → Looked l x

-- The counts of the main record, the total, whether a finalizer is out, the prototypes.
pub data Aside (l : Lay) (x : ℕ) : Type 0 where
  counts : 10 ≤ x → x < 14 → Aside l x
  total : x ≡ 57 → Aside l x
  out : x ≡ 64 → Aside l x
  protos : l.boundary ≤ x → x < l.stack.base → Aside l x

-- The words w became u, and differ in plain words and in these alone.
pub record Nearly (l : Lay) (w u : List ℕ) : Type 0 where
  pub long : length u ≡ length w
  pub same : (x : ℕ) → Looked l x → at u x ≡ at w x

pub nearly_then : {l : Lay} {w u v : List ℕ} → Nearly l w u → Nearly l u v → Nearly l w v
nearly_then f g = record { long = g.long ∙ f.long; same = λ x h. g.same x h ∙ f.same x h }

-- They differ in plain words alone.
pub record Plainly (l : Lay) (w u : List ℕ) : Type 0 where
  pub near : Nearly l w u
  pub aside : (x : ℕ) → Aside l x → at u x ≡ at w x

pub plainly_none : {l : Lay} {w : List ℕ} → Plainly l w w
plainly_none = record { near = record { long = refl; same = λ x h. refl }; aside = λ x h. refl }

module _ (l : Lay) (ok : Laid l) (a : Apart l) where
  abbrev o : Order l
  o = order l ok a

  -- no plain word is looked at
  off : (p x : ℕ) → Plain l p → Looked l x → x ≢ p
  off p x (fields f g) (sizes h) e = omega (arith, f, h, e)
  off p x (fields f g) (marks h i) e = omega (arith, g, h, e)
  off p x (fields f g) (cells h i) e = omega (arith, g, h, e)
  off p x (pacing f g) (sizes h) e = omega (arith, f, h, e)
  off p x (pacing f g) (marks h i) e = omega (arith, f, i, e)
  off p x (pacing f g) (cells h i) e = omega (arith, g, h, e)
  off p x (handed f g) (sizes h) e = omega (arith, f, h, e)
  off p x (handed f g) (marks h i) e = omega (arith, f, i, e)
  off p x (handed f g) (cells h i) e = omega (arith, g, h, e)
  off p x (past f) (sizes h) e = omega (arith, f, h, e, o.past_stack, o.header, a)
  off p x (past f) (marks h i) e = omega (arith, f, i, e, o.past_stack, o.header, a)
  off p x (past f) (cells h i) e = omega (arith, f, i, e, o.past_stack)

  off_aside : (p x : ℕ) → Plain l p → Aside l x → x ≢ p
  off_aside p x (fields f g) (counts h i) e = omega (arith, f, i, e)
  off_aside p x (fields f g) (total h) e = omega (arith, g, h, e)
  off_aside p x (fields f g) (out h) e = omega (arith, g, h, e)
  off_aside p x (pacing f g) (counts h i) e = omega (arith, f, i, e)
  off_aside p x (pacing f g) (total h) e = omega (arith, f, h, e)
  off_aside p x (pacing f g) (out h) e = omega (arith, g, h, e)
  off_aside p x (handed f g) (counts h i) e = omega (arith, f, i, e)
  off_aside p x (handed f g) (total h) e = omega (arith, f, h, e)
  off_aside p x (handed f g) (out h) e = omega (arith, f, h, e)
  off_aside p x (past f) (counts h i) e = omega (arith, f, i, e, o.past_stack, o.header, a)
  off_aside p x (past f) (total h) e = omega (arith, f, h, e, o.past_stack, o.header, a)
  off_aside p x (past f) (out h) e = omega (arith, f, h, e, o.past_stack, o.header, a)
  off_aside p x (fields f g) (protos h i) e = omega (arith, g, h, e, o.header, a)
  off_aside p x (pacing f g) (protos h i) e = omega (arith, g, h, e, o.header, a)
  off_aside p x (handed f g) (protos h i) e = omega (arith, g, h, e, o.header, a)
  off_aside p x (past f) (protos h i) e = omega (arith, f, i, e)

  -- A store,
  pub plainly_put : {w u : List ℕ} (p n : ℕ) → Plain l p → Plainly l w u → Plainly l w (put p n u)
  plainly_put {w} {u} p n f s = record {
    near = record { long = length-set u p n ∙ s.near.long; same = λ x h. get_or-set_other u p x n 0 (off p x f h) ∙ s.near.same x h };
    aside = λ x h. get_or-set_other u p x n 0 (off_aside p x f h) ∙ s.aside x h;
  }

  -- one of two words, of a handle, of a value,
  pub plainly_two : {w u : List ℕ} (p m n : ℕ) → Plain l p → Plain l (p + 1) → Plainly l w u → Plainly l w (put (p + 1) n (put p m u))
  plainly_two p m n f g s = plainly_put (p + 1) n g (plainly_put p m f s)

  pub plainly_handle : {w u : List ℕ} (p : ℕ) (h : Option (ℕ × ℕ)) → Plain l p → Plain l (p + 1) → Plainly l w u → Plainly l w (put_handle p h u)
  unfolding put_handle
  plainly_handle p h f g s = plainly_put (p + 1) _ g (plainly_put p _ f s)

  pub plainly_value : {w u : List ℕ} (p : ℕ) (v : Value) → Plain l p → Plain l (p + 1) → Plain l (p + 2) → Plainly l w u → Plainly l w (put_value p v u)
  plainly_value p v f g h s = plainly_put (p + 2) _ h (plainly_put (p + 1) _ g (plainly_put p _ f s))

  -- the same past the prototypes,
  pub past_put : {w u : List ℕ} (p n : ℕ) → l.stack.base ≤ p → Plainly l w u → Plainly l w (put p n u)
  past_put p n f s = plainly_put p n (past f) s

  pub past_two : {w u : List ℕ} (p m n : ℕ) → l.stack.base ≤ p → Plainly l w u → Plainly l w (put (p + 1) n (put p m u))
  past_two p m n f s = past_put (p + 1) n (omega (arith, f)) (past_put p m f s)

  pub past_handle : {w u : List ℕ} (p : ℕ) (h : Option (ℕ × ℕ)) → l.stack.base ≤ p → Plainly l w u → Plainly l w (put_handle p h u)
  past_handle p h f s = plainly_handle p h (past f) (past (omega (arith, f))) s

  pub past_value : {w u : List ℕ} (p : ℕ) (v : Value) → l.stack.base ≤ p → Plainly l w u → Plainly l w (put_value p v u)
  past_value p v f s = plainly_value p v (past f) (past (omega (arith, f))) (past (omega (arith, f))) s

  -- and words past the prototypes cleared.
  pub past_clear : {w u : List ℕ} (p n : ℕ) → l.stack.base ≤ p → Plainly l w u → Plainly l w (clear p n u)
  unfolding clear
  past_clear {w} {u} p n f s = run_keeps (clear_one p) (λ (t : List ℕ). Plainly l w t) 0 n u (omega arith) (λ j t h k. past_put (p + j) 0 (omega (arith, f)) k) s

  module _ (r : Rows l) {w u : List ℕ} (s : Nearly l w u) where
    -- the arenas' words are looked at
    pub nearly_arena : (k : ℕ) → k ≤ 5 → Untouched (arena_of l k) w u
    nearly_arena k g = record {
      long = s.long;
      header = λ x f h. s.same x (cells (omega (arith, f, top_is l ok a r k g)) (omega (arith, h, g, top_is l ok a r k g, o.header, a)));
      cells = λ x f h. s.same x (cells (omega (arith, f, arena_header l o k g)) (omega (arith, h, arena_lists l o k g, a)));
    }

    nearly_list : (k : Work) (q : ℕ) → OnList (list_of l k) q → at u q ≡ at w q
    nearly_list gray q (inl e) = s.same q (cells (omega (arith, e, o.gray)) (omega (arith, e, o.gray, o.header, a)))
    nearly_list gray q (inr h) = s.same q (cells (omega (arith, h.0, o.header, a)) (omega (arith, h.1, a)))
    nearly_list grayagain q (inl e) = s.same q (cells (omega (arith, e, o.grayagain)) (omega (arith, e, o.grayagain, o.header, a)))
    nearly_list grayagain q (inr h) = s.same q (cells (omega (arith, h.0, o.header, a)) (omega (arith, h.1, a)))
    nearly_list weak q (inl e) = s.same q (cells (omega (arith, e, o.weak)) (omega (arith, e, o.weak, o.header, a)))
    nearly_list weak q (inr h) = s.same q (cells (omega (arith, h.0, o.header, a)) (omega (arith, h.1, a)))

    nearly_colour : (k i : ℕ) → i < (arena_of l k).slots → at u ((arena_of l k).base + i) ≡ at w ((arena_of l k).base + i)
    nearly_colour k i h = let x = colour_in l ok a k i h in s.same ((arena_of l k).base + i) (cells (omega (arith, x.0)) (omega (arith, x.1, a)))

    nearly_quiet : Quiet l w u
    nearly_quiet = record {
      long = s.long;
      mark = s.same DAMAGE (marks (omega arith) (omega arith));
      lists = nearly_list;
      dark = λ k d i h. ap is_dark (nearly_colour k i h);
      grays = λ i h. ap is_gray (nearly_colour 1 i h);
    }

    nearly_fixed : (x : ℕ) → Fixed x → at u x ≡ at w x
    nearly_fixed x (size f) = s.same x (sizes f)
    nearly_fixed x (mark f g) = s.same x (marks f g)
    nearly_fixed x (queue f) = s.same x (cells (omega (arith, f)) (omega (arith, f, o.header, a)))

    pub nearly_calm : {v : List ℕ} → Calm l v w → Calm l v u
    nearly_calm c = record {
      long = s.long ∙ c.long;
      fixed = λ x h. nearly_fixed x h ∙ c.fixed x h;
      arenas = λ k g. (frame_keeps (nearly_arena k g) (c.arenas k g)).0;
      grows = λ k g. omega (arith, kept_fresh (nearly_arena k g), c.grows k g);
      colours = λ d k i g h. ⊎_elim (λ e. inl (kept_colour (nearly_arena k g) i h ∙ e)) (λ e. inr (kept_colour (nearly_arena k g) i h ∙ e)) (c.colours d k i g h);
      paid = λ e. quiet_paid nearly_quiet (c.paid e);
      lists = lists_same ok a w u (λ x f g. s.same x (cells f (omega (arith, g, o.header, a)))) c.lists;
    }

    -- the counts of the arenas stay
    nearly_count : (k : ℕ) → k ≤ 5 → count (arena_of l k) u ≡ count (arena_of l k) w
    nearly_count k g = s.same ((arena_of l k).top + 2) (cells (omega (arith, top_is l ok a r k g)) (omega (arith, g, top_is l ok a r k g, o.header, a)))

  -- no change
  pub calm_none : {w b : List ℕ} → State l (heap w b) → Calm l w w
  calm_none t = record {
    long = refl;
    fixed = λ x h. refl;
    arenas = t.arenas;
    grows = λ k g. omega arith;
    colours = λ d k i g h. inl refl;
    paid = t.paid;
    lists = t.lists;
  }

  -- Such a change keeps the state; the bytes may change, and stay as many.
  pub plain_text : Rows l → {w u b c : List ℕ} → Plainly l w u → length c ≡ length b → State l (heap w b) → State l (heap u c)
  plain_text r {w} {u} s e t =
      calm_state ok t (nearly_calm r s.near (calm_none t))
      (record {
        out = λ d. s.aside INTERRUPTED (out refl) ∙ t.out d;
        mains = mains_same w u (λ x f g. s.aside x (counts f g)) t.mains;
        sum = sum_same l w u (s.aside TOTAL (total refl)) (nearly_count r s.near) t.sum;
        nested = nested_same ok a t u (s.aside PROTOTYPES (counts (omega arith) (omega arith))) (λ x f g. s.aside x (protos f g));
      })
      e

  pub plain_state : Rows l → {w u b : List ℕ} → Plainly l w u → State l (heap w b) → State l (heap u b)
  plain_state r s t = plain_text r s refl t

  -- A word that is beside may change as the state has it.
  apart_aside : (x p : ℕ) → Looked l x → Aside l p → x ≢ p
  apart_aside x p (sizes h) (counts f g) e = omega (arith, h, f, e)
  apart_aside x p (sizes h) (total f) e = omega (arith, h, f, e)
  apart_aside x p (sizes h) (out f) e = omega (arith, h, f, e)
  apart_aside x p (marks h i) (counts f g) e = omega (arith, h, g, e)
  apart_aside x p (marks h i) (total f) e = omega (arith, i, f, e)
  apart_aside x p (marks h i) (out f) e = omega (arith, i, f, e)
  apart_aside x p (cells h i) (counts f g) e = omega (arith, h, g, e)
  apart_aside x p (cells h i) (total f) e = omega (arith, h, f, e)
  apart_aside x p (cells h i) (out f) e = omega (arith, h, f, e)
  apart_aside x p (sizes h) (protos f g) e = omega (arith, h, f, e, o.header, a)
  apart_aside x p (marks h i) (protos f g) e = omega (arith, i, f, e, o.header, a)
  apart_aside x p (cells h i) (protos f g) e = omega (arith, i, f, e)

  pub aside_near : (p n : ℕ) → Aside l p → (w : List ℕ) → Nearly l w (put p n w)
  aside_near p n f w = record { long = length-set w p n; same = λ x h. get_or-set_other w p x n 0 (apart_aside x p h f) }

  pub aside_state : Rows l → (p n : ℕ) → Aside l p → {w b : List ℕ} → Beside l w (put p n w) → State l (heap w b) → State l (heap (put p n w) b)
  aside_state r p n f {w} {b} m t = calm_state ok t (nearly_calm r (aside_near p n f w) (calm_none t)) m refl

  -- the total and the counts, after such a store
  pub aside_sum : Rows l → (p n : ℕ) → p < 69 → p ≢ TOTAL → {w b : List ℕ} → State l (heap w b) → Sum l (put p n w)
  aside_sum r p n f d {w} t =
      sum_same l w (put p n w) (get_or-set_other w p TOTAL n 0 (λ e. d (sym e)))
      (λ k g. get_or-set_other w p ((arena_of l k).top + 2) n 0 (λ e. omega (arith, e, f, top_is l ok a r k g)))
      t.sum

  -- Whether a finalizer is out may change at Finalize; that none is out may be written at any time.
  pub out_state : Rows l → (n : ℕ) {w b : List ℕ} → (at w PHASE ≡ 4) ⊎ (n ≡ 0) → State l (heap w b) → State l (heap (put INTERRUPTED n w) b)
  out_state r n {w} {b} f t =
      aside_state r INTERRUPTED n (out refl)
      (record {
        out = λ d. ⊎_elim (λ z. absurd (d z)) (λ z. now ∙ z) f;
        mains = mains_same w (put INTERRUPTED n w) (λ x h g. get_or-set_other w INTERRUPTED x n 0 (λ e. omega (arith, e, g))) t.mains;
        sum = aside_sum r INTERRUPTED n (omega arith) (omega arith) t;
        nested = nested_same ok a t (put INTERRUPTED n w) (get_or-set_other w INTERRUPTED PROTOTYPES n 0 (omega arith)) (λ x h g. get_or-set_other w INTERRUPTED x n 0 (λ e. omega (arith, e, h, o.header, a)));
      })
      t
    where
      now : at (put INTERRUPTED n w) INTERRUPTED ≡ n
      now = get_or-set_same w INTERRUPTED n 0 (omega (arith, t.long, o.words, o.header, a))

  -- A count of the main record may change within its part.
  pub main_state : Rows l → (p n : ℕ) → 11 ≤ p → p < 14 → {w b : List ℕ} → Mains l (put p n w) → State l (heap w b) → State l (heap (put p n w) b)
  main_state r p n f g {w} {b} m t =
      aside_state r p n (counts (omega (arith, f)) g)
      (record {
        out = λ d. get_or-set_other w p INTERRUPTED n 0 (λ e. omega (arith, e, g)) ∙ t.out d;
        mains = m;
        sum = aside_sum r p n (omega (arith, g)) (λ e. omega (arith, e, g)) t;
        nested = nested_same ok a t (put p n w) (get_or-set_other w p PROTOTYPES n 0 (λ e. omega (arith, e, f))) (λ x h i. get_or-set_other w p x n 0 (λ e. omega (arith, e, g, h, o.header, a)));
      })
      t

  module _ (r : Rows l) (n : ℕ) {w b : List ℕ} (t : State l (heap w b)) where
    here : (p : ℕ) → p < 14 → at (put p n w) p ≡ n
    here p h = get_or-set_same w p n 0 (omega (arith, h, t.long, o.words, o.header, a))

    there : (p x : ℕ) → x ≢ p → at (put p n w) x ≡ at w x
    there p x d = get_or-set_other w p x n 0 d

    pub top_state : n ≤ l.stack.room → State l (heap (put TOP n w) b)
    top_state h =
        main_state r TOP n (omega arith) (omega arith)
        (record {
          protos = omega (arith, t.mains.protos, there TOP PROTOTYPES (omega arith));
          top = omega (arith, h, here TOP (omega arith));
          opens = omega (arith, t.mains.opens, there TOP OPENS (omega arith));
          frame = omega (arith, t.mains.frame, there TOP CI (omega arith));
        })
        t

    pub opens_state : n ≤ l.opens.room → State l (heap (put OPENS n w) b)
    opens_state h =
        main_state r OPENS n (omega arith) (omega arith)
        (record {
          protos = omega (arith, t.mains.protos, there OPENS PROTOTYPES (omega arith));
          top = omega (arith, t.mains.top, there OPENS TOP (omega arith));
          opens = omega (arith, h, here OPENS (omega arith));
          frame = omega (arith, t.mains.frame, there OPENS CI (omega arith));
        })
        t

    pub frame_state : n < l.frames.room → State l (heap (put CI n w) b)
    frame_state h =
        main_state r CI n (omega arith) (omega arith)
        (record {
          protos = omega (arith, t.mains.protos, there CI PROTOTYPES (omega arith));
          top = omega (arith, t.mains.top, there CI TOP (omega arith));
          opens = omega (arith, t.mains.opens, there CI OPENS (omega arith));
          frame = omega (arith, h, here CI (omega arith));
        })
        t
