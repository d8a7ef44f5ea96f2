-- What is reached, due, kept and spared is read from the words that links are read from, the main record, the colours and the
-- finalized marks: words that agree there have the same. Assumes nothing.
--     alike_back      two words that agree on all that, the other way round
--     reached_alike, due_alike, kept_alike, spared_alike
use Rattle.std.specs.Prelude.{◌≡◌, ℕ, ◌≤◌, ◌<◌, ltb, Option}
use Rattle.std.proofs.Common.{sym, ap, subst, ◌∙◌, inl, inr, arith}
use mathlib.Core.List.{List, Memᴰ}
use Rattle.value.specs.declared.TableRef.{TableRef}
use Rattle.value.specs.Values.{is_nil}
use Rattle.layout.specs.declared.Lay.{Lay}
use Rattle.record.specs.Fields.{body_at}
use Rattle.record.specs.Tables.{table_meta}
use Rattle.record.specs.Userdata.{ud_meta}
use Rattle.mark.specs.Ops.{Ref, tab}
use Rattle.mark.specs.Words.{arena_of}
use Rattle.modes.specs.Modes.{is_weak, weak_mode, gc_method}
use Rattle.link_laws.specs.Agrees.{Agree, table_same}
use Rattle.link_laws.specs.Reads.{links_same, gc_method_same, weak_mode_same}
use Rattle.link_laws.specs.Roots.{roots_same}
use Rattle.mark_laws.specs.Colours.{shade_parts}
use Rattle.reach.specs.Reached.{Reach, Link, Occupied, Root, Reached}
use Rattle.reach.specs.Tri.{reach_more, reach_map, reach_occ}
use Rattle.atomic_laws.specs.Kept.{Due, KeptRoot, Kept, Spared}
use Rattle.atomic_laws.proofs.Spares.{strings_same}
use Rattle.atomic_laws.specs.Alikes.{Alike}

agree_back : {w u : List ℕ} {p n : ℕ} → Agree w u p n → Agree u w p n
agree_back s = record { word = λ q f g. sym (s.word q f g) }

-- and the other way round
pub alike_back : {l : Lay} {w u : List ℕ} → Alike l w u → Alike l u w
alike_back s = record {
  reads = record {
    header = agree_back s.reads.header;
    protos = agree_back s.reads.protos;
    strings = λ i h. agree_back (s.reads.strings i h);
    tables = λ i h. agree_back (s.reads.tables i h);
    functions = λ i h. agree_back (s.reads.functions i h);
    upvalues = λ i h. agree_back (s.reads.upvalues i h);
    userdata = λ i h. agree_back (s.reads.userdata i h);
    threads = λ i h. agree_back (s.reads.threads i h);
    string_names = λ i g. sym (s.reads.string_names i g);
    table_names_lem = λ i g. sym (s.reads.table_names_lem i g);
  };
  mains = record { stack = agree_back s.mains.stack; opens = agree_back s.mains.opens; frames = agree_back s.mains.frames };
  shades = λ x. sym (s.shades x);
  marks = λ i h. sym (s.marks i h);
}

-- a handle that names a slot lies below the slots
pub occupied_in : (l : Lay) (w : List ℕ) (x : Ref) → Occupied l w x → x.at < (arena_of l x.kind).slots
occupied_in l w x h = let p = shade_parts (arena_of l x.kind) x.at x.gen w h in omega (arith, p.0)

module _ {l : Lay} (one : 1 ≤ l.frames.room) (b : List ℕ) {w u : List ℕ} (s : Alike l w u) where
  occupied_alike : (x : Ref) → Occupied l w x → Occupied l u x
  occupied_alike x h = subst (λ n. 1 ≤ n) (sym (s.shades x)) h

  pub root_alike : (x : Ref) → Root l w b x → Root l u b x
  root_alike x m = subst (λ rs. Memᴰ x rs) (sym (roots_same l s.reads.header one s.mains b)) m

  link_alike : (x y : Ref) → Occupied l w x → Link l w b x y → Link l u b x y
  link_alike x y h m = subst (λ rs. Memᴰ y rs) (sym (links_same s.reads b x (occupied_in l w x h))) m

  -- the same roots and links reach the same
  pub reach_alike : {R R' : Ref → Type 0} → ((x : Ref) → R x → R' x) → (x : Ref) → Reach (Link l w b) R (Occupied l w) x → Reach (Link l u b) R' (Occupied l u) x
  reach_alike f x h = reach_map occupied_alike link_alike (reach_more f h)

  pub reached_alike : (x : Ref) → Reached l w b x → Reached l u b x
  reached_alike x h = reach_alike root_alike x h

-- A due userdata is due,
pub due_alike : {l : Lay} → 1 ≤ l.frames.room → (b : List ℕ) {w u : List ℕ} → Alike l w u → (x : Ref) → Due l w b x → Due l u b x
due_alike {l} one b {w} {u} s x d = record {
  userdata = d.userdata;
  occupied = occupied_alike one b s x d.occupied;
  unfinalized = ap (λ (n : ℕ). ltb 0 n) (s.marks x.at within) ∙ d.unfinalized;
  method =
      ap (λ (t : Option TableRef). is_nil (gc_method l t u)) (table_same (s.reads.userdata x.at within) (body_at l.userdata x.at) (omega arith) (omega arith))
      ∙ ap is_nil (gc_method_same s.reads (ud_meta (body_at l.userdata x.at) w))
      ∙ d.method;
  unreached = λ h. d.unreached (reached_alike one b (alike_back s) x h);
}
  where
    within : x.at < l.userdata.slots
    within = subst (λ k. x.at < (arena_of l k).slots) d.userdata (occupied_in l w x d.occupied)

-- what is kept is kept,
pub kept_alike : {l : Lay} → 1 ≤ l.frames.room → (b : List ℕ) {w u : List ℕ} → Alike l w u → (x : Ref) → Kept l w b x → Kept l u b x
kept_alike {l} one b {w} {u} s x h = reach_alike one b s more x h
  where
    more : (x : Ref) → KeptRoot l w b x → KeptRoot l u b x
    more x (inl r) = inl (root_alike one b s x r)
    more x (inr d) = inr (due_alike one b s x d)

-- and what is spared is spared.
pub spared_alike : {l : Lay} → 1 ≤ l.frames.room → (b : List ℕ) {w u : List ℕ} → Alike l w u → (x : Ref) → Spared l w b x → Spared l u b x
spared_alike {l} one b {w} {u} s x d = record {
  table = d.table;
  kept = kept_alike one b s (tab d.table) d.kept;
  weak = ap is_weak (mode d.table within) ∙ d.weak;
  inside = subst (λ rs. Memᴰ x rs) (sym (strings_same (s.reads.tables d.table.0 within))) d.inside;
  occupied = occupied_alike one b s x d.occupied;
}
  where
    within : d.table.0 < l.tables.slots
    within = occupied_in l w (tab d.table) (reach_occ d.kept)

    mode : (t : TableRef) → t.0 < l.tables.slots → weak_mode l (table_meta (body_at l.tables t.0) u) u b ≡ weak_mode l (table_meta (body_at l.tables t.0) w) w b
    mode t h =
        ap (λ (m : Option TableRef). weak_mode l m u b) (table_same (s.reads.tables t.0 h) (body_at l.tables t.0) (omega arith) (omega arith))
        ∙ weak_mode_same s.reads b (table_meta (body_at l.tables t.0) w)
