-- What holds of a heap between calls, whatever calls were made, and how a call that is no step of the collector keeps it.
-- Assumes nothing.
--     Swept             how far the sweep has come: the slots swept are free or in the current white; at Pause and Finalize all are
--     Lists, Mains, Sum, Nested     counts within their ranges; the total; the prototypes
--     State             what holds of a heap with the layout l
--     Calm, calm_state  a change that a call makes to the words, and that it keeps the state
--     call_state, marked_state     a public call keeps the state where its work does
use Rattle.std.specs.Prelude.{◌≡◌, refl, Bool, true, false, cond, ◌⊎◌, ◌≢◌, List, ℕ, zero, suc, min, ◌+◌, ◌*◌, ◌≤◌, ◌<◌, eqb, length, Ok, Err, Result}
use Rattle.std.proofs.Common.{sym, subst, ap, ◌∙◌, inl, inr, ⊎_elim, arith}
use Rattle.base.specs.Words.{at}
use Rattle.base.specs.Heap.{Heap, heap}
use Rattle.base.specs.declared.Refusal.TheVariants.{Unfit, Damaged}
use Rattle.base.specs.declared.Refusal.{Refusal}
use Rattle.arena.specs.Slots.{colour, fresh, count}
use Rattle.layout.specs.declared.Sizes.{Sizes}
use Rattle.layout.specs.declared.Lay.{Lay}
use Rattle.layout.specs.Places.{PROTOTYPES, TOP, OPENS, CI, DAMAGE, PHASE, WHITE, CURSOR_ARENA, CURSOR_SLOT, TOTAL, INTERRUPTED}
use Rattle.layout.specs.Layout.{lay_of}
use Rattle.test1.specs.Test1.{sizes_at, accepted, opened}
use Rattle.test1.specs.Calls.{on_opened, call, on_marked, call_marked}
use Rattle.lists.specs.Lists.{length_of}
use Rattle.main_record.specs.Prototypes.{proto_at, proto_parent, proto_child}
use Rattle.laid.specs.Laid.{Laid}
use Rattle.mark.specs.Words.{arena_of}
use Rattle.mark_laws.specs.Apart.{Apart, Order, order}
use Rattle.room_laws.specs.Tallies.{tally, Paid}
use Rattle.room_laws.proofs.Queues.{queue_count}
use Rattle.sweep_laws.specs.Turns.{Arenas}

-- The sweep is at a slot of an arena: 0 to 5, and 6 past the last, at Finalize and at Pause. Phase and cursor say so. Every occupied
-- slot before it has the current white.
pub record Swept (l : Lay) (w : List ℕ) : Type 0 where
  pub arena : ℕ
  pub slot : ℕ
  pub most : arena ≤ 6
  pub strings : arena ≡ 0 → (at w PHASE ≡ 2) × (at w CURSOR_SLOT ≡ slot)
  pub others : 1 ≤ arena → arena ≤ 5 → (at w PHASE ≡ 3) × (at w CURSOR_ARENA + 1 ≡ arena) × (at w CURSOR_SLOT ≡ slot)
  pub ended : arena ≡ 6 → (at w PHASE ≡ 0) ⊎ (at w PHASE ≡ 4)
  pub within : arena ≤ 5 → slot ≤ fresh (arena_of l arena) w
  pub white : (k i : ℕ) → k ≤ 5 → i < (arena_of l k).slots → (k < arena) ⊎ ((k ≡ arena) × (i < slot)) → colour (arena_of l k) i w ≢ 0 → colour (arena_of l k) i w ≡ at w WHITE

-- The counts of the four lists are within their rooms.
pub record Lists (l : Lay) (w : List ℕ) : Type 0 where
  pub gray : at w l.gray.count ≤ l.gray.room
  pub grayagain : at w l.grayagain.count ≤ l.grayagain.room
  pub weak : at w l.weak.count ≤ l.weak.room
  pub queue : at w l.queue.count ≤ l.queue.room

-- Prototypes used, the main thread's top, open count and current frame are within their parts.
pub record Mains (l : Lay) (w : List ℕ) : Type 0 where
  pub protos : at w PROTOTYPES ≤ l.protos.room
  pub top : at w TOP ≤ l.stack.room
  pub opens : at w OPENS ≤ l.opens.room
  pub frame : at w CI < l.frames.room

-- The sum of the counts of occupied slots times their sizes; the total is that, and at most 2^31 - 1.
abbrev pub worth : Lay → List ℕ → ℕ
worth l w =
    48 * count l.strings w + 64 * count l.tables w + 48 * count l.functions w + 24 * count l.upvalues w + 48 * count l.userdata w + 256 * count l.threads w

pub record Sum (l : Lay) (w : List ℕ) : Type 0 where
  pub total : at w TOTAL ≡ worth l w
  pub most : at w TOTAL ≤ 2147483647

-- Each prototype that is made has up to 8 nested ones; their numbers are below its own, no two are the same, and it is the parent of
-- each: so each has one parent.
pub record Nested (l : Lay) (w : List ℕ) : Type 0 where
  pub few : (n : ℕ) → n < at w PROTOTYPES → at w (proto_at l n + 1) ≤ 8
  pub falls : (n j : ℕ) → n < at w PROTOTYPES → j < at w (proto_at l n + 1) → proto_child l n j w < n
  pub parent : (n j : ℕ) → n < at w PROTOTYPES → j < at w (proto_at l n + 1) → proto_parent l (proto_child l n j w) w ≡ n + 1
  pub once : (n i j : ℕ) → n < at w PROTOTYPES → i < at w (proto_at l n + 1) → j < at w (proto_at l n + 1) → proto_child l n i w ≡ proto_child l n j w → i ≡ j

-- Past the boundary stand the prototypes, then the main stack, and all else behind it.
pub record Parted (l : Lay) : Type 0 where
  pub protos : l.protos.base + 59 * l.protos.room ≤ l.stack.base
  pub opens : l.stack.base ≤ l.opens.base
  pub frames : l.stack.base ≤ l.frames.base
  pub bodies : (k : ℕ) → k ≤ 5 → l.stack.base ≤ (arena_of l k).bodies

-- The layout of any sizes has it.
pub parted : (s : Sizes) → Parted (lay_of s)
unfolding lay_of
parted s = record { protos = omega arith; opens = omega arith; frames = omega arith; bodies = all }
  where
    all : (k : ℕ) → k ≤ 5 → (lay_of s).stack.base ≤ (arena_of (lay_of s) k).bodies
    all zero h = omega arith
    all (suc zero) h = omega arith
    all (suc (suc zero)) h = omega arith
    all (suc (suc (suc zero))) h = omega arith
    all (suc (suc (suc (suc zero)))) h = omega arith
    all (suc (suc (suc (suc (suc zero))))) h = omega arith
    all (suc (suc (suc (suc (suc (suc k)))))) h = absurd (let z : ⊥ = omega (arith, h) in z)

-- The words are as long as the layout asks, which is that of the sizes in the header. No damage is marked, the current white is 1 or 2,
-- the six arenas are well-formed. A finalizer is out at Finalize alone. Up to the atomic step the queue is empty. During Propagate
-- the lists are paid for, so that none passes its room; else the sweep has come as far as the cursor says. Counts and total are as above.
pub record State (l : Lay) (h : Heap) : Type 0 where
  pub sizes : lay_of (sizes_at h.words) ≡ l
  pub long : l.words ≤ length h.words
  pub wide : l.bytes ≤ length h.bytes
  pub whole : at h.words DAMAGE ≡ 0
  pub low : 1 ≤ at h.words WHITE
  pub high : at h.words WHITE ≤ 2
  pub arenas : Arenas l h.words
  pub out : at h.words PHASE ≢ 4 → at h.words INTERRUPTED ≡ 0
  pub empty : at h.words PHASE ≤ 1 → length_of l.queue h.words ≡ 0
  pub paid : at h.words PHASE ≡ 1 → Paid (tally l h.words) 0 0 0
  pub swept : at h.words PHASE ≢ 1 → Swept l h.words
  pub lists : Lists l h.words
  pub mains : Mains l h.words
  pub sum : Sum l h.words
  pub nested : Nested l h.words

-- So a heap's layout has it.
pub state_parted : {l : Lay} {h : Heap} → State l h → Parted l
state_parted {l} {h} s = subst Parted s.sizes (parted (sizes_at h.words))

-- Words that no such call writes: the sizes, damage mark, phase, white and cursor, the queue's count.
pub data Fixed (x : ℕ) : Type 0 where
  size : x < 10 → Fixed x
  mark : 52 ≤ x → x ≤ 56 → Fixed x
  queue : x ≡ 72 → Fixed x

-- The words w became u. Outside Propagate a colour changes to the current white alone.
pub record Calm (l : Lay) (w u : List ℕ) : Type 0 where
  pub long : length u ≡ length w
  pub fixed : (x : ℕ) → Fixed x → at u x ≡ at w x
  pub arenas : Arenas l u
  pub grows : (k : ℕ) → k ≤ 5 → fresh (arena_of l k) w ≤ fresh (arena_of l k) u
  pub colours : at w PHASE ≢ 1 → (k i : ℕ) → k ≤ 5 → i < (arena_of l k).slots → (colour (arena_of l k) i u ≡ colour (arena_of l k) i w) ⊎ (colour (arena_of l k) i u ≡ at w WHITE)
  pub paid : at w PHASE ≡ 1 → Paid (tally l u) 0 0 0
  pub lists : Lists l u

-- What is beside: whether a finalizer is out, the main record, the total, the prototypes.
pub record Beside (l : Lay) (w u : List ℕ) : Type 0 where
  pub out : at w PHASE ≢ 4 → at u INTERRUPTED ≡ 0
  pub mains : Mains l u
  pub sum : Sum l u
  pub nested : Nested l u

-- words that stay keep these
pub mains_same : {l : Lay} (w u : List ℕ) → ((x : ℕ) → 10 ≤ x → x < 14 → at u x ≡ at w x) → Mains l w → Mains l u
mains_same w u e m = record {
  protos = omega (arith, m.protos, e PROTOTYPES (omega arith) (omega arith));
  top = omega (arith, m.top, e TOP (omega arith) (omega arith));
  opens = omega (arith, m.opens, e OPENS (omega arith) (omega arith));
  frame = omega (arith, m.frame, e CI (omega arith) (omega arith));
}

pub sum_same : (l : Lay) (w u : List ℕ) → at u TOTAL ≡ at w TOTAL → ((k : ℕ) → k ≤ 5 → count (arena_of l k) u ≡ count (arena_of l k) w) → Sum l w → Sum l u
sum_same l w u e c s = record {
  total = omega (arith, s.total, e, c 0 (omega arith), c 1 (omega arith), c 2 (omega arith), c 3 (omega arith), c 4 (omega arith), c 5 (omega arith));
  most = omega (arith, s.most, e);
}

-- a prototype's words
pub proto_in_lem : {l : Lay} → Laid l → Apart l → Parted l → (n d : ℕ) → n < l.protos.room → d < 59 → (l.boundary ≤ proto_at l n + d) × (proto_at l n + d < l.stack.base)
proto_in_lem {l} ok a q n d h f = (omega (arith, (order l ok a).past_protos), omega (arith, q.protos, h, f))

pub nested_same : {l : Lay} {h : Heap} → Laid l → Apart l → State l h → (u : List ℕ) → at u PROTOTYPES ≡ at h.words PROTOTYPES
    → ((x : ℕ) → l.boundary ≤ x → x < l.stack.base → at u x ≡ at h.words x) → Nested l u
nested_same {l} {h} ok a s u e same = record {
  few = λ n f. let g = below n f in omega (arith, m.few n g, count n g);
  falls = λ n j f i. let g = below n f in omega (arith, m.falls n j g (lower n j g i), child n j g (lower n j g i));
  parent = λ n j f i.
      let g = below n f in
      let k = lower n j g i in
      let c = m.falls n j g k in
      ap (λ (x : ℕ). proto_parent l x u) (child n j g k) ∙ word (proto_child l n j h.words) 2 (omega (arith, c, g)) (omega arith) ∙ m.parent n j g k;
  once = λ n i j f x y z.
      let g = below n f in
      m.once n i j g (lower n i g x) (lower n j g y) (sym (child n i g (lower n i g x)) ∙ z ∙ child n j g (lower n j g y));
}
  where
    m : Nested l h.words
    m = s.nested

    below : (n : ℕ) → n < at u PROTOTYPES → n < at h.words PROTOTYPES
    below n f = omega (arith, f, e)

    word : (n d : ℕ) → n < at h.words PROTOTYPES → d < 59 → at u (proto_at l n + d) ≡ at h.words (proto_at l n + d)
    word n d f g =
        let p = proto_in_lem ok a (state_parted s) n d (omega (arith, f, s.mains.protos)) g in
        same (proto_at l n + d) p.0 p.1

    count : (n : ℕ) → n < at h.words PROTOTYPES → at u (proto_at l n + 1) ≡ at h.words (proto_at l n + 1)
    count n f = word n 1 f (omega arith)

    lower : (n j : ℕ) → n < at h.words PROTOTYPES → j < at u (proto_at l n + 1) → j < at h.words (proto_at l n + 1)
    lower n j f i = omega (arith, i, count n f)

    child : (n j : ℕ) → n < at h.words PROTOTYPES → j < at h.words (proto_at l n + 1) → proto_child l n j u ≡ proto_child l n j h.words
    child n j f i =
        let d : 51 + j < 59 = omega (arith, i, m.few n f) in
        let e : proto_at l n + 51 + j ≡ proto_at l n + (51 + j) = omega arith in
        ap (at u) e ∙ word n (51 + j) f d ∙ ap (at h.words) (sym e)

pub lists_same : {l : Lay} → Laid l → Apart l → (w u : List ℕ) → ((x : ℕ) → 69 ≤ x → x ≤ 72 → at u x ≡ at w x) → Lists l w → Lists l u
lists_same {l} ok a w u e m = record {
  gray = subst (λ (n : ℕ). n ≤ l.gray.room) (sym (e l.gray.count (omega (arith, o.gray)) (omega (arith, o.gray)))) m.gray;
  grayagain = subst (λ (n : ℕ). n ≤ l.grayagain.room) (sym (e l.grayagain.count (omega (arith, o.grayagain)) (omega (arith, o.grayagain)))) m.grayagain;
  weak = subst (λ (n : ℕ). n ≤ l.weak.room) (sym (e l.weak.count (omega (arith, o.weak)) (omega (arith, o.weak)))) m.weak;
  queue = subst (λ (n : ℕ). n ≤ l.queue.room) (sym (e l.queue.count (omega (arith, queue_count l ok)) (omega (arith, queue_count l ok)))) m.queue;
}
  where
    o : Order l
    o = order l ok a

-- The sizes are read from ten words.
pub sizes_same : (w u : List ℕ) → ((x : ℕ) → x < 10 → at u x ≡ at w x) → sizes_at u ≡ sizes_at w
unfolding sizes_at
sizes_same w u h =
    rw (
      h 0 (omega arith),
      h 1 (omega arith),
      h 2 (omega arith),
      h 3 (omega arith),
      h 4 (omega arith),
      h 5 (omega arith),
      h 6 (omega arith),
      h 7 (omega arith),
      h 8 (omega arith),
      h 9 (omega arith),
    )

-- Such a change keeps how far the sweep has come,
pub calm_swept : {l : Lay} {w u : List ℕ} → at w PHASE ≢ 1 → Calm l w u → Swept l w → Swept l u
calm_swept {l} {w} {u} d c s = record {
  arena = s.arena;
  slot = s.slot;
  most = s.most;
  strings = λ e. let p = s.strings e in (phase ∙ p.0, c.fixed CURSOR_SLOT (mark (omega arith) (omega arith)) ∙ p.1);
  others = λ f g. let p = s.others f g in (phase ∙ p.0, ap (λ (n : ℕ). n + 1) (c.fixed CURSOR_ARENA (mark (omega arith) (omega arith))) ∙ p.1, c.fixed CURSOR_SLOT (mark (omega arith) (omega arith)) ∙ p.2);
  ended = λ e. ⊎_elim (λ p. inl (phase ∙ p)) (λ p. inr (phase ∙ p)) (s.ended e);
  within = λ g. omega (arith, s.within g, c.grows s.arena g);
  white = λ k i g h p n. white k i g h p n (c.colours d k i g h);
}
  where
    phase : at u PHASE ≡ at w PHASE
    phase = c.fixed PHASE (mark (omega arith) (omega arith))

    now : at u WHITE ≡ at w WHITE
    now = c.fixed WHITE (mark (omega arith) (omega arith))

    white : (k i : ℕ) → k ≤ 5 → i < (arena_of l k).slots → (k < s.arena) ⊎ ((k ≡ s.arena) × (i < s.slot)) → colour (arena_of l k) i u ≢ 0
        → (colour (arena_of l k) i u ≡ colour (arena_of l k) i w) ⊎ (colour (arena_of l k) i u ≡ at w WHITE) → colour (arena_of l k) i u ≡ at u WHITE
    white k i g h p n (inl e) = e ∙ s.white k i g h p (λ z. n (e ∙ z)) ∙ sym now
    white k i g h p n (inr e) = e ∙ sym now

-- and the state, with what is beside; the bytes may change, and stay as many.
pub calm_state : {l : Lay} {w b u c : List ℕ} → Laid l → State l (heap w b) → Calm l w u → Beside l w u → length c ≡ length b → State l (heap u c)
calm_state {l} {w} {b} {u} {c} ok s m o e = record {
  sizes = ap lay_of (sizes_same w u (λ x f. m.fixed x (size f))) ∙ s.sizes;
  long = omega (arith, s.long, m.long);
  wide = omega (arith, s.wide, e);
  whole = m.fixed DAMAGE (mark (omega arith) (omega arith)) ∙ s.whole;
  low = omega (arith, s.low, now);
  high = omega (arith, s.high, now);
  arenas = m.arenas;
  out = λ d. o.out (λ z. d (phase ∙ z));
  empty = λ f. ap (λ (n : ℕ). min n l.queue.room) (ap (at u) (queue_count l ok) ∙ m.fixed 72 (queue refl) ∙ ap (at w) (sym (queue_count l ok))) ∙ s.empty (omega (arith, f, phase));
  paid = λ z. m.paid (sym phase ∙ z);
  swept = λ d. calm_swept (λ z. d (phase ∙ z)) m (s.swept (λ z. d (phase ∙ z)));
  lists = m.lists;
  mains = o.mains;
  sum = o.sum;
  nested = o.nested;
}
  where
    phase : at u PHASE ≡ at w PHASE
    phase = m.fixed PHASE (mark (omega arith) (omega arith))

    now : at u WHITE ≡ at w WHITE
    now = m.fixed WHITE (mark (omega arith) (omega arith))

-- What a call begins with: a refusal, or the layout of the sizes in the header.
opened_is : (w : List ℕ) (m : ℕ) (P : Result Sizes Refusal → Type 0) → P (Ok (sizes_at w)) → ((n : Refusal) → P (Err n)) → P (opened w m)
unfolding opened
opened_is w m P f r = go (accepted w m) (eqb (at w DAMAGE) 0)
  where
    go : (a d : Bool) → P (cond a (cond d (Ok (sizes_at w)) (Err Damaged)) (Err Unfit))
    go true true = f
    go true false = r Damaged
    go false d = r Unfit

-- So a public call keeps the state where its work does.
module _ {A : Type 0} (refuse : Refusal → A) (f : Lay → Heap → A × Heap) (l : Lay) (h : Heap) (s : State l h) (work : State l (f l h).1) where
  there : State l (f (lay_of (sizes_at h.words)) h).1
  there = subst (λ (k : Lay). State l (f k h).1) (sym s.sizes) work

  pub call_state : State l (call refuse f h).1
  unfolding call
  call_state = opened_is h.words (length h.bytes) (λ (o : Result Sizes Refusal). State l (on_opened refuse f h o).1) there (λ n. s)

  pub marked_state : State l (call_marked refuse f h).1
  unfolding call_marked
  marked_state = opened_is h.words (length h.bytes) (λ (o : Result Sizes Refusal). State l (on_marked refuse f h o).1) there (λ n. s)
