-- Every heap that the calls make meets at Pause what demand 3 asks for. The definitions are those of specs/Pauses.antt. Assumes nothing.
--     white_at          at Pause and Finalize every occupied slot has the current white
--     made_pause        heaps that the calls make have at Pause what demand 3 asks for
--     made_whole, made_arenas, made_out     at any time: no damage is marked, the arenas are well-formed; a finalizer is out at Finalize alone
--     made_lists, made_mains, made_nested, one_parent     counts within their ranges; prototypes nest downwards, each with one parent
use Rattle.std.specs.Prelude.{◌≡◌, ◌⊎◌, ◌≢◌, ℕ, ◌+◌, ◌≤◌, ◌<◌}
use Rattle.std.proofs.Common.{sym, ap, ◌∙◌, inl, ⊎_elim, arith}
use Rattle.base.specs.Words.{at}
use Rattle.base.specs.Heap.{Heap}
use Rattle.layout.specs.declared.Lay.{Lay}
use Rattle.layout.specs.Places.{PROTOTYPES, DAMAGE, PHASE, INTERRUPTED}
use Rattle.test1.specs.Test1.{sizes_at}
use Rattle.main_record.specs.Prototypes.{proto_at, proto_parent, proto_child}
use Rattle.laid.specs.Laid.{Laid, laid_of}
use Rattle.mark.specs.Words.{arena_of, colour_w}
use Rattle.mark_laws.specs.Apart.{Apart, apart, Order, order, arena_kind}
use Rattle.mark_laws.specs.Colours.{shade_parts}
use Rattle.reach.specs.Cycle.{AllWhite}
use Rattle.atomic_laws.proofs.Dues.{shade_colour}
use Rattle.sweep_laws.specs.Turns.{Arenas}
use Rattle.state_laws.specs.State.{Lists, Mains, Nested, Swept, State}
use Rattle.state_step_laws.proofs.Singles.{swept_past}
use Rattle.made.specs.Made.{Made}
use Rattle.made_laws.proofs.Sounds.{made_sound}
use Rattle.made_laws.specs.Pauses.{lay_at, Pausing}

-- At Pause and at Finalize every occupied slot has the current white.
pub white_at : (l : Lay) → Laid l → Apart l → (h : Heap) → State l h → (at h.words PHASE ≡ 0) ⊎ (at h.words PHASE ≡ 4) → AllWhite l h.words
white_at l ok a h s f = record {
  white = λ q i.
      let p = shade_parts (arena_of l q.kind) q.at q.gen h.words i in
      let t : q.at < (arena_of l q.kind).slots = omega (arith, p.0) in
      let e = shade_colour (arena_of l q.kind) q.at q.gen h.words p.0 p.1 in
      let g : q.kind ≤ 5 = arena_kind l o q.kind q.at t in
      e ∙ sweep.white q.kind q.at g t (inl (omega (arith, g, last))) (λ z. some (colour_w l q h.words) i (e ∙ z));
  low = s.low;
  high = s.high;
}
  where
    o : Order l
    o = order l ok a

    not : (n : ℕ) → n ≢ 0 → n ≢ 4 → at h.words PHASE ≢ n
    not n c d e = ⊎_elim (λ z. c (sym e ∙ z)) (λ z. d (sym e ∙ z)) f

    sweep : Swept l h.words
    sweep = s.swept (not 1 (omega arith) (omega arith))

    last : sweep.arena ≡ 6
    last = (swept_past sweep (not 2 (omega arith) (omega arith)) (not 3 (omega arith) (omega arith))).0

    some : (n : ℕ) → 1 ≤ n → n ≡ 0 → ⊥
    some n i z = omega (arith, i, z)

-- Heaps that the calls make have it whenever they are at Pause.
pub made_pause : (h : Heap) → Made h → at h.words PHASE ≡ 0 → Pausing h
made_pause h m e =
    let s = made_sound m in
    record {
      fits = s.fits;
      long = s.state.long;
      wide = s.state.wide;
      pause = e;
      white = white_at (lay_at h) (laid_of (sizes_at h.words) s.fits) (apart (sizes_at h.words)) h s.state (inl e);
      none = s.state.empty (omega (arith, e));
      arenas = s.state.arenas;
      out = s.state.out (λ z. omega (arith, e, z));
      whole = s.state.whole;
    }

-- At any time no damage is marked: no call on such a heap sets the mark.
pub made_whole : (h : Heap) → Made h → at h.words DAMAGE ≡ 0
made_whole h m = (made_sound m).state.whole

-- Each chain holds every free slot below its arena's fresh index once.
pub made_arenas : (h : Heap) → Made h → Arenas (lay_at h) h.words
made_arenas h m = (made_sound m).state.arenas

-- A finalizer is out at Finalize alone.
pub made_out : (h : Heap) → Made h → at h.words PHASE ≢ 4 → at h.words INTERRUPTED ≡ 0
made_out h m d = (made_sound m).state.out d

-- The counts of the four lists are within their rooms; those of prototypes, main stack, open list and frames within their parts.
pub made_lists : (h : Heap) → Made h → Lists (lay_at h) h.words
made_lists h m = (made_sound m).state.lists

pub made_mains : (h : Heap) → Made h → Mains (lay_at h) h.words
made_mains h m = (made_sound m).state.mains

-- Prototypes' nested numbers fall, and each has one parent.
pub made_nested : (h : Heap) → Made h → Nested (lay_at h) h.words
made_nested h m = (made_sound m).state.nested

pub one_parent : (h : Heap) → Made h → (n k i j : ℕ) → n < at h.words PROTOTYPES → k < at h.words PROTOTYPES
    → i < at h.words (proto_at (lay_at h) n + 1) → j < at h.words (proto_at (lay_at h) k + 1) → proto_child (lay_at h) n i h.words ≡ proto_child (lay_at h) k j h.words → n ≡ k
one_parent h m n k i j f g x y e =
    let s = made_nested h m in
    let p = s.parent n i f x in
    let q = s.parent k j g y in
    let r : n + 1 ≡ k + 1 = sym p ∙ ap (λ (c : ℕ). proto_parent (lay_at h) c h.words) e ∙ q in
    omega (arith, r)
