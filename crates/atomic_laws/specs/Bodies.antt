-- What separation writes lies apart from all that links are read from. Assumes nothing.
--     Bodies, bodies            the bodies of userdata lie apart from the other records; the layout of any sizes has it
--     body_end, body_next       a body ends within the bodies, and before the next begins
--     shade_held, named_held    the handles of all kinds but userdata
--     Flags, flags_reads        words past the boundary that differ at most in finalized marks; links are the same
--     marked_reads              marking leaves all that is read
use Rattle.std.specs.Prelude.{◌≡◌, List, ◌≢◌, ℕ, zero, suc, ◌+◌, ◌*◌, ◌≤◌, ◌<◌, Some, None}
use Rattle.std.proofs.Common.{sym, ap, ◌∙◌, inl, inr, mul_comm, arith}
use Rattle.std.proofs.Math.Decide.{dec_lt}
use Rattle.base.specs.Ways.{if_eq}
use Rattle.base.specs.Words.{at}
use Rattle.arena.specs.declared.Arena.{Arena}
use Rattle.arena.specs.Slots.{used, named, row}
use Rattle.value.specs.Laws.{Outside}
use Rattle.layout.specs.declared.Sizes.{Sizes}
use Rattle.layout.specs.declared.Lay.{Lay}
use Rattle.layout.specs.Layout.{lay_of}
use Rattle.record.specs.Fields.{body_at}
use Rattle.laid.specs.Laid.{Laid, string_words, table_words, function_words, upvalue_words, userdata_words}
use Rattle.mark.specs.Ops.{Ref, ref}
use Rattle.mark.specs.Words.{arena_of, shade, colour_w}
use Rattle.link_laws.specs.Reads.{Reads}
use Rattle.mark_laws.specs.Apart.{Apart, Order, order, arena_before, arena_kind, arena_header, arena_lists}
use Rattle.mark_laws.specs.Colours.{shade_same, shade_past, named_shade}
use Rattle.mark_laws.specs.Changes.{Marked}
use Rattle.mark_laws.specs.Stays.{below, named_stays}
use Rattle.room_laws.specs.Queues.{Held}
use Rattle.room_laws.proofs.Queues.{queue_count}

-- The bodies of userdata lie behind the prototypes and the bodies of strings, tables, closures and upvalues, and before those
-- of threads.
pub record Bodies (l : Lay) : Type 0 where
  pub protos : l.protos.base + 59 * l.protos.room ≤ l.userdata.bodies
  pub strings : l.strings.bodies + 1 * l.strings.slots ≤ l.userdata.bodies
  pub tables : l.tables.bodies + 580 * l.tables.slots ≤ l.userdata.bodies
  pub functions : l.functions.bodies + 53 * l.functions.slots ≤ l.userdata.bodies
  pub upvalues : l.upvalues.bodies + 4 * l.upvalues.slots ≤ l.userdata.bodies
  pub threads : l.userdata.bodies + 7 * l.userdata.slots ≤ l.threads.bodies

-- The layout of any sizes has it.
pub bodies : (s : Sizes) → Bodies (lay_of s)
unfolding lay_of
bodies s = record { protos = omega arith; strings = omega arith; tables = omega arith; functions = omega arith; upvalues = omega arith; threads = omega arith }

-- A body ends within the bodies,
pub body_end : (a : Arena) (k i : ℕ) → a.stride ≡ k → i < a.slots → body_at a i + k ≤ a.bodies + k * a.slots
body_end a k i e h = sums (i * a.stride) a.stride (a.slots * a.stride) (k * a.slots) (row a.stride h) (ap (λ (s : ℕ). a.slots * s) e ∙ mul_comm a.slots k) e
  where
    sums : (x s y z : ℕ) → x + s ≤ y → y ≡ z → s ≡ k → a.bodies + x + k ≤ a.bodies + z
    sums x s y z f g e = omega (arith, f, g, e)

-- and before the next begins.
pub body_next : (a : Arena) (k i j : ℕ) → a.stride ≡ k → i < j → body_at a i + k ≤ body_at a j
body_next a k i j e h = sums (i * a.stride) a.stride (j * a.stride) (row a.stride h) e
  where
    sums : (x s y : ℕ) → x + s ≤ y → s ≡ k → a.bodies + x + k ≤ a.bodies + y
    sums x s y f e = omega (arith, f, e)

-- The words from the boundary on are as they were, but for the finalized marks of userdata below k.
pub record Flags (l : Lay) (k : ℕ) (w u : List ℕ) : Type 0 where
  pub past : (q : ℕ) → l.boundary ≤ q → ((i : ℕ) → i < k → q ≢ body_at l.userdata i + 6) → at u q ≡ at w q

module _ (l : Lay) (ok : Laid l) (a : Apart l) where
  abbrev o : Order l
  o = order l ok a

  -- Words that are held leave the colour of every handle that is no userdata's,
  pub shade_held : {w u : List ℕ} → Held l w u → (x : Ref) → x.kind ≢ 4 → colour_w l x u ≡ colour_w l x w
  shade_held {w} {u} s x d = go (dec_lt x.at (used (arena_of l x.kind) w))
    where
      top : (k : ℕ) → k ≤ 5 → ((arena_of l k).top + 1 ≢ 72) × ((arena_of l k).top + 1 < 91)
      top zero h = (omega (arith, o.top_strings), omega (arith, o.top_strings))
      top (suc zero) h = (omega (arith, o.top_tables), omega (arith, o.top_tables))
      top (suc (suc zero)) h = (omega (arith, o.top_functions), omega (arith, o.top_functions))
      top (suc (suc (suc zero))) h = (omega (arith, o.top_upvalues), omega (arith, o.top_upvalues))
      top (suc (suc (suc (suc zero)))) h = (omega (arith, o.top_userdata), omega (arith, o.top_userdata))
      top (suc (suc (suc (suc (suc zero))))) h = (omega (arith, o.top_threads), omega (arith, o.top_threads))
      top (suc (suc (suc (suc (suc (suc k)))))) h = absurd (let z : ⊥ = omega (arith, h) in z)

      -- a word of an arena that is not userdata's
      inside : (k q : ℕ) → k ≤ 5 → k ≢ 4 → (arena_of l k).base ≤ q → q < (arena_of l k).base + 4 * (arena_of l k).slots → at u q ≡ at w q
      inside k q h e f g = s.kept q (omega (arith, f, arena_header l o k h, queue_count l ok)) (out (dec_lt k 4)) (omega (arith, g, arena_lists l o k h, a))
        where
          out : Dec (k < 4) → Outside l.userdata.base l.userdata.slots q
          out (yes z) = inl (omega (arith, g, arena_before l o k 4 z (omega arith)))
          out (no z) = inr (omega (arith, f, arena_before l o 4 k (omega (arith, z, e)) h))

      same_used : x.kind ≤ 5 → used (arena_of l x.kind) u ≡ used (arena_of l x.kind) w
      same_used h =
          let t = top x.kind h in
          rw (s.kept ((arena_of l x.kind).top + 1) (omega (arith, t.0, queue_count l ok)) (inl (omega (arith, t.1, o.header, a))) (omega (arith, t.1, o.header, a)))

      go : Dec (x.at < used (arena_of l x.kind) w) → colour_w l x u ≡ colour_w l x w
      go (yes f) =
          let k = arena_kind l o x.kind x.at (omega (arith, f)) in
          shade_same (arena_of l x.kind) x.at x.gen w u (same_used k) (inside x.kind ((arena_of l x.kind).base + (arena_of l x.kind).slots + x.at) k d (omega arith) (omega (arith, f)))
          (inside x.kind ((arena_of l x.kind).base + x.at) k d (omega arith) (omega (arith, f)))
      go (no f) = past (dec_lt x.kind 6)
        where
          past : Dec (x.kind < 6) → colour_w l x u ≡ colour_w l x w
          past (yes k) = shade_past (arena_of l x.kind) x.at x.gen u (omega (arith, f, same_used (omega (arith, k)))) ∙ sym (shade_past (arena_of l x.kind) x.at x.gen w (omega (arith, f)))
          past (no k) = none x.kind (omega (arith, k))
            where
              none : (k : ℕ) → 6 ≤ k → shade (arena_of l k) x.at x.gen u ≡ shade (arena_of l k) x.at x.gen w
              none (suc (suc (suc (suc (suc (suc k)))))) h = shade_past _ x.at x.gen u (omega arith) ∙ sym (shade_past _ x.at x.gen w (omega arith))
              none zero h = absurd (let z : ⊥ = omega (arith, h) in z)
              none (suc zero) h = absurd (let z : ⊥ = omega (arith, h) in z)
              none (suc (suc zero)) h = absurd (let z : ⊥ = omega (arith, h) in z)
              none (suc (suc (suc zero))) h = absurd (let z : ⊥ = omega (arith, h) in z)
              none (suc (suc (suc (suc zero)))) h = absurd (let z : ⊥ = omega (arith, h) in z)
              none (suc (suc (suc (suc (suc zero))))) h = absurd (let z : ⊥ = omega (arith, h) in z)

  -- and what it names.
  pub named_held : {w u : List ℕ} → Held l w u → (k i g : ℕ) → k ≢ 4 → named (arena_of l k) i g u ≡ named (arena_of l k) i g w
  named_held {w} {u} s k i g d =
      named_shade (arena_of l k) i g u
      ∙ ap (λ (c : ℕ). if_eq c 0 None (Some i)) (shade_held s (ref k i g) d)
      ∙ sym (named_shade (arena_of l k) i g w)

  -- Links, modes and methods are then the same.
  pub flags_reads : Bodies l → {w u : List ℕ} → Held l w u → {k : ℕ} → k ≤ l.userdata.slots → Flags l k w u → Reads l w u
  flags_reads y {w} {u} s {k} n f = record {
    header = record { word = λ q g h. s.kept q (omega (arith, h, queue_count l ok)) (inl (omega (arith, h, o.header, a))) (omega (arith, h, o.header, a)) };
    protos = record { word = λ q g h. before q (omega (arith, g, o.past_protos)) (omega (arith, h, y.protos)) };
    strings = λ i e. record { word = λ q g h. before q (omega (arith, g, o.past_strings)) (omega (arith, h, body_end l.strings 1 i (string_words l ok) e, y.strings)) };
    tables = λ i e. record { word = λ q g h. before q (omega (arith, g, o.past_tables)) (omega (arith, h, body_end l.tables 580 i (table_words l ok) e, y.tables)) };
    functions = λ i e. record { word = λ q g h. before q (omega (arith, g, o.past_functions)) (omega (arith, h, body_end l.functions 53 i (function_words l ok) e, y.functions)) };
    upvalues = λ i e. record { word = λ q g h. before q (omega (arith, g, o.past_upvalues)) (omega (arith, h, body_end l.upvalues 4 i (upvalue_words l ok) e, y.upvalues)) };
    userdata = λ i e. record { word = λ q g h. f.past q (omega (arith, g, o.past_userdata)) (λ j z. apart i j q g h (dec_lt i j) (dec_lt j i)) };
    threads = λ i e. record { word = λ q g h. f.past q (omega (arith, g, o.past_threads)) (λ j z c. omega (arith, c, g, body_end l.userdata 7 j (userdata_words l ok) (omega (arith, z, n)), y.threads)) };
    string_names = λ i g. named_held s 0 i g (omega arith);
    table_names_lem = λ i g. named_held s 1 i g (omega arith);
  }
    where
      before : (q : ℕ) → l.boundary ≤ q → q < l.userdata.bodies → at u q ≡ at w q
      before q g h = f.past q g (λ i z e. omega (arith, e, h))

      apart : (i j q : ℕ) → body_at l.userdata i ≤ q → q < body_at l.userdata i + 4 → Dec (i < j) → Dec (j < i) → q ≢ body_at l.userdata j + 6
      apart i j q g h (yes z) t e = omega (arith, e, h, body_next l.userdata 7 i j (userdata_words l ok) z)
      apart i j q g h (no z) (yes t) e = omega (arith, e, g, body_next l.userdata 7 j i (userdata_words l ok) t)
      apart i j q g h (no z) (no t) e =
          let c : i ≡ j = omega (arith, z, t) in
          omega (arith, e, h, ap (λ (k : ℕ). body_at l.userdata k) c)

  -- Marking leaves all that is read.
  pub marked_reads : {w u : List ℕ} → Marked l w u → Reads l w u
  marked_reads m = record {
    header = record { word = λ q g h. below o m q (inl (omega (arith, h))) };
    protos = record { word = λ q g h. below o m q (inr (omega (arith, g, o.past_protos))) };
    strings = λ i e. record { word = λ q g h. below o m q (inr (omega (arith, g, o.past_strings))) };
    tables = λ i e. record { word = λ q g h. below o m q (inr (omega (arith, g, o.past_tables))) };
    functions = λ i e. record { word = λ q g h. below o m q (inr (omega (arith, g, o.past_functions))) };
    upvalues = λ i e. record { word = λ q g h. below o m q (inr (omega (arith, g, o.past_upvalues))) };
    userdata = λ i e. record { word = λ q g h. below o m q (inr (omega (arith, g, o.past_userdata))) };
    threads = λ i e. record { word = λ q g h. below o m q (inr (omega (arith, g, o.past_threads))) };
    string_names = λ i g. named_stays o m 0 i g;
    table_names_lem = λ i g. named_stays o m 1 i g;
  }
