-- The weight of the words: the white tables, closures and threads, and the items on the gray list. Marking makes it no
-- heavier, and while it is at most the gray list's room, marking does not set the damage mark. The same is true of tables
-- alone, and of threads alone; and marking leaves grayagain and weak as long as they are. Assumes nothing.
--     weight, weight_most, supply     the weight; what it is at most, whatever the words hold; the part of one kind
--     Lighter, Clean              marked and no heavier; and all that is said above
--     string_clean, table_clean, closure_clean, thread_clean, userdata_clean, value_clean, upvalue_clean, marks_clean
use Rattle.std.specs.Prelude.{◌≡◌, Bool, true, false, cond, ◌≢◌, eqb, length, Some, None, Option}
use Rattle.std.proofs.Math.Path.{refl}
use Rattle.std.proofs.Common.{sym, ap, subst, ◌∙◌, inl, arith, get_or-set_other, eqb-true}
use mathlib.Core.List.{List, [], ◌∷◌}
use Prim.Native.Nat.{ℕ, zero, suc, min, ◌+◌, ◌≤◌, ◌<◌}
use Rattle.std.proofs.Math.Decide.{dec_lt}
use Rattle.base.specs.Words.{at}
use Rattle.value.specs.declared.TableRef.{TableRef}
use Rattle.arena.specs.Slots.{used, gen}
use Rattle.value.specs.declared.Value.{Value}
use Rattle.value.specs.declared.Value.TheVariants.{Nil, Boolean, Light, Number, Str, Table, Function, Userdata, Thread}
use Rattle.layout.specs.declared.Lay.{Lay}
use Rattle.lists.specs.declared.Item.{Item}
use Rattle.lists.specs.declared.Item.TheVariants as item
use Rattle.lists.specs.Lists.{damage, kind_of, length_of, push}
use Rattle.lists.proofs.Laws.{push_length, push_full_length, push_unmarked, push_kept}
use Rattle.lists.specs.Laws as lists
use Rattle.record.specs.Fields.{body_at}
use Rattle.record.specs.Userdata.{ud_meta, ud_env}
use Rattle.run_record.specs.Upvalues.{is_closed, upvalue_value}
use Rattle.laid.specs.Laid.{Laid, gray_room_lem}
use Rattle.mark.specs.Ops.{Ref, ref, gray, is_white}
use Rattle.mark.specs.Words.{arena_of, colour_w, paint_w, ops}
use Rattle.mark.specs.Marking.{mark_string, mark_table, mark_closure, mark_thread, follow_userdata, mark_userdata, follow_upvalue, mark_upvalue}
use Rattle.links.specs.Links.{value_links, table_link, userdata_links, upvalue_links}
use Rattle.mark_laws.specs.Apart.{Apart, Order, order}
use Rattle.mark_laws.specs.Colours.{shade_parts, white_true, not_white}
use Rattle.mark_laws.specs.Moves.{Rising, still, raised, pushed, paint_moves}
use Rattle.mark_laws.specs.Changes.{Marked, marked_none, marked_then, moves_marked, colour_in}
use Rattle.mark_laws.specs.Stays.{never_falls}
use Rattle.mark_laws.specs.Marks.{mark_kind, mark_ref, marks, marks_append, paint_colour}
use Rattle.mark_laws.specs.Follows.{userdata_links_lem, upvalue_links_lem}
use Rattle.mark_laws.specs.Whites.{whites_in, whites_of, whites_room, Listed, fall, less, whites_fall, whites_less}
use Rattle.mark_laws.specs.Items.{one, items_of, items_stay, push_counts}

-- White tables, closures and threads, and the items of the gray list.
abbrev pub weight : Lay → List ℕ → ℕ
weight l w = whites_of l w + length_of l.gray w

-- The white slots of kind k, and the items of kind c on the gray list.
abbrev pub supply : Lay → ℕ → ℕ → List ℕ → ℕ
supply l k c w = whites_in l k w + items_of l.gray c w

le_then : {x y z : ℕ} → x ≤ y → y ≤ z → x ≤ z
le_then f g = omega (arith, f, g)

le_sum : {x y p q : ℕ} → x ≤ y → p ≡ q → x + p ≤ y + q
le_sum f e = omega (arith, f, e)

le_none : (x y p q : ℕ) → x ≤ y → p ≤ q + 0 → x + p ≤ y + q
le_none x y p q f g = omega (arith, f, g)

le_one : (x y p q : ℕ) → x + 1 ≤ y → p ≤ q + 1 → x + p ≤ y + q
le_one x y p q f g = omega (arith, f, g)

-- whatever the words hold
pub weight_most : (l : Lay) (w : List ℕ) → weight l w ≤ l.tables.slots + l.functions.slots + l.threads.slots + l.gray.room
weight_most l w = omega (arith, whites_room l w)

-- The words u are the words w after marking, and no heavier.
pub record Lighter (l : Lay) (w u : List ℕ) : Type 0 where
  pub marked : Marked l w u
  pub less : weight l u ≤ weight l w

-- one after the other
pub lighter_then : {l : Lay} {w u v : List ℕ} → Lighter l w u → Lighter l u v → Lighter l w v
lighter_then f g = record { marked = marked_then f.marked g.marked; less = omega (arith, f.less, g.less) }

-- And if the weight is at most the gray list's room, the damage mark is as it was; tables and threads are no more, and the
-- other two lists are as long as they were.
pub record Clean (l : Lay) (w u : List ℕ) : Type 0 where
  pub light : Lighter l w u
  pub whole : weight l w ≤ l.gray.room → at u damage ≡ at w damage
  pub tables : supply l 1 5 u ≤ supply l 1 5 w
  pub threads : supply l 5 8 u ≤ supply l 5 8 w
  pub weak : length_of l.weak u ≡ length_of l.weak w
  pub again : length_of l.grayagain u ≡ length_of l.grayagain w

-- nothing done is clean
pub clean_none : {l : Lay} {w : List ℕ} → Clean l w w
clean_none = record { light = record { marked = marked_none; less = omega arith }; whole = λ h. refl; tables = omega arith; threads = omega arith; weak = refl; again = refl }

-- One clean part after the other is clean.
pub clean_then : {l : Lay} {w u v : List ℕ} → Clean l w u → Clean l u v → Clean l w v
clean_then f g = record {
  light = lighter_then f.light g.light;
  whole = λ h. g.whole (le_then f.light.less h) ∙ f.whole h;
  tables = le_then g.tables f.tables;
  threads = le_then g.threads f.threads;
  weak = g.weak ∙ f.weak;
  again = g.again ∙ f.again;
}

module _ (l : Lay) (ok : Laid l) (a : Apart l) where
  abbrev o : Order l
  o = order l ok a

  -- a painted slot leaves the header
  pub paint_header : (r : Ref) (c : ℕ) (w : List ℕ) → 1 ≤ colour_w l r w → (q : ℕ) → q < 91 → at (paint_w l r c w) q ≡ at w q
  paint_header r c w h q f =
      let p = shade_parts (arena_of l r.kind) r.at r.gen w h in
      let i : r.at < (arena_of l r.kind).slots = omega (arith, p.0) in
      get_or-set_other w ((arena_of l r.kind).base + r.at) q c 0 (λ e. omega (arith, e, (colour_in l ok a r.kind r.at i).0))

  -- and the lists
  pub paint_lists : (r : Ref) (c : ℕ) (w : List ℕ) → 1 ≤ colour_w l r w → (q : ℕ) → l.gray.base ≤ q → at (paint_w l r c w) q ≡ at w q
  paint_lists r c w h q f =
      let p = shade_parts (arena_of l r.kind) r.at r.gen w h in
      let i : r.at < (arena_of l r.kind).slots = omega (arith, p.0) in
      get_or-set_other w ((arena_of l r.kind).base + r.at) q c 0 (λ e. omega (arith, e, (colour_in l ok a r.kind r.at i).1))

  paint_items : (r : Ref) (d c : ℕ) (w : List ℕ) → 1 ≤ colour_w l r w → items_of l.gray c (paint_w l r d w) ≡ items_of l.gray c w
  paint_items r d c w h = items_stay l.gray c w (paint_w l r d w) (paint_header r d w h l.gray.count (omega (arith, o.gray))) (λ q f g. paint_lists r d w h q f)

  -- Painting a named slot black is clean.
  pub black_clean : (r : Ref) (w : List ℕ) → l.words ≤ length w → 1 ≤ colour_w l r w → Clean l w (paint_w l r 4 w)
  black_clean r w long h =
      let m : Marked l w (paint_w l r 4 w) = moves_marked l ok a (paint_moves l r h (still refl)) long in
      let e : length_of l.gray (paint_w l r 4 w) ≡ length_of l.gray w = ap (λ (n : ℕ). min n l.gray.room) (paint_header r 4 w h l.gray.count (omega (arith, o.gray))) in
      record {
        light = record { marked = m; less = omega (arith, whites_fall m, e) };
        whole = λ z. paint_header r 4 w h damage (omega arith);
        tables = le_sum (fall m 1) (paint_items r 4 5 w h);
        threads = le_sum (fall m 5) (paint_items r 4 8 w h);
        weak = ap (λ (n : ℕ). min n l.weak.room) (paint_header r 4 w h l.weak.count (omega (arith, o.weak)));
        again = ap (λ (n : ℕ). min n l.grayagain.room) (paint_header r 4 w h l.grayagain.count (omega (arith, o.grayagain)));
      }

  -- Painting a white slot of a listed kind gray and listing it is clean: one white fewer, one item more.
  module _ (r : Ref) (x : Item) (w : List ℕ) (long : l.words ≤ length w) (k : Listed r.kind) (t : kind_of x ≡ 5 → r.kind ≡ 1) (s : kind_of x ≡ 8 → r.kind ≡ 5) (white : is_white (colour_w l r w) ≡ true) where
    abbrev gray₁ : List ℕ
    gray₁ = paint_w l r 3 w

    abbrev gray₂ : List ℕ
    gray₂ = push l.gray x gray₁

    occupied : 1 ≤ colour_w l r w
    occupied = (white_true (colour_w l r w) white).0

    rising : Rising (colour_w l r w) 3
    rising = (occupied, omega (arith, (white_true (colour_w l r w) white).1), omega arith, omega arith)

    moved₁ : Marked l w gray₁
    moved₁ = moves_marked l ok a (raised (still refl) r 3 rising refl) long

    long₁ : l.words ≤ length gray₁
    long₁ = omega (arith, moved₁.long)

    moved₂ : Marked l w gray₂
    moved₂ = moves_marked l ok a (pushed (raised (still refl) r 3 rising refl) gray x refl) long

    -- one white fewer
    parts : (r.at < used (arena_of l r.kind) w) × (gen (arena_of l r.kind) r.at w ≡ r.gen) × (colour_w l r w ≡ at w ((arena_of l r.kind).base + r.at))
    parts = shade_parts (arena_of l r.kind) r.at r.gen w occupied

    now : 3 ≤ colour_w l r gray₂
    now =
        let m : Marked l gray₁ gray₂ = moves_marked l ok a (pushed (still refl) gray x refl) long₁ in
        omega (arith, paint_colour l ok a r 3 w long rising, never_falls o m r)

    dark : is_white (at gray₂ ((arena_of l r.kind).base + r.at)) ≡ false
    dark =
        let e = (shade_parts (arena_of l r.kind) r.at r.gen gray₂ (omega (arith, now))).2 in
        not_white (at gray₂ ((arena_of l r.kind).base + r.at)) (λ z. omega (arith, z, e, now)) (λ z. omega (arith, z, e, now))

    fewer : whites_of l gray₂ + 1 ≤ whites_of l w
    fewer = whites_less moved₂ r.kind r.at k (omega (arith, parts.0)) (ap is_white (sym parts.2) ∙ white) dark

    -- one item more, if there is room
    same : length_of l.gray gray₁ ≡ length_of l.gray w
    same = ap (λ (n : ℕ). min n l.gray.room) (paint_header r 3 w occupied l.gray.count (omega (arith, o.gray)))

    mark_apart : lists.Apart l.gray
    mark_apart = record { below = omega (arith, o.header, a); other = λ e. omega (arith, e, o.gray) }

    more : length_of l.gray gray₂ ≤ length_of l.gray w + 1
    more = go (dec_lt (length_of l.gray gray₁) l.gray.room)
      where
        go : Dec (length_of l.gray gray₁ < l.gray.room) → length_of l.gray gray₂ ≤ length_of l.gray w + 1
        go (yes h) = omega (arith, push_length l.gray x gray₁ (gray_room_lem l gray₁ ok long₁) h, same)
        go (no h) = omega (arith, push_full_length l.gray x gray₁ (gray_room_lem l gray₁ ok long₁) mark_apart (omega (arith, h)), same)

    -- the items of kind c and the whites of its kind are no more together
    supplies : (d c : ℕ) → (kind_of x ≡ c → r.kind ≡ d) → supply l d c gray₂ ≤ supply l d c w
    supplies d c h = go (eqb (kind_of x) c) refl items
      where
        items : items_of l.gray c gray₂ ≤ items_of l.gray c w + one (eqb (kind_of x) c)
        items = subst (λ n. items_of l.gray c gray₂ ≤ n + one (eqb (kind_of x) c)) (paint_items r 3 c w occupied) (push_counts l.gray c gray₁ (gray_room_lem l gray₁ ok long₁) x mark_apart)

        go : (b : Bool) → eqb (kind_of x) c ≡ b → items_of l.gray c gray₂ ≤ items_of l.gray c w + one b → supply l d c gray₂ ≤ supply l d c w
        go false e n = le_none (whites_in l d gray₂) (whites_in l d w) (items_of l.gray c gray₂) (items_of l.gray c w) (fall moved₂ d) n
        go true e n =
            le_one (whites_in l d gray₂) (whites_in l d w) (items_of l.gray c gray₂) (items_of l.gray c w)
            (subst (λ j. whites_in l j gray₂ + 1 ≤ whites_in l j w) (h (eqb-true (kind_of x) c e)) (less moved₂ r.kind r.at (omega (arith, parts.0)) (ap is_white (sym parts.2) ∙ white) dark))
            n

    -- the other lists' counts
    counts : (q : ℕ) → q < 91 → q ≢ 69 → q ≢ 52 → at gray₂ q ≡ at w q
    counts q h d e = push_kept l.gray x gray₁ (gray_room_lem l gray₁ ok long₁) q (λ z. omega (arith, z, d, o.gray)) e (inl (omega (arith, h, o.header, a))) ∙ paint_header r 3 w occupied q h

    -- So it is clean.
    pub gray_clean : Clean l w (push l.gray x (paint_w l r 3 w))
    gray_clean = record {
      light = record { marked = moved₂; less = omega (arith, fewer, more) };
      whole = λ h. push_unmarked l.gray x gray₁ (gray_room_lem l gray₁ ok long₁) mark_apart (omega (arith, h, fewer, same)) ∙ paint_header r 3 w occupied damage (omega arith);
      tables = supplies 1 5 t;
      threads = supplies 5 8 s;
      weak = ap (λ (n : ℕ). min n l.weak.room) (counts l.weak.count (omega (arith, o.weak)) (λ z. omega (arith, z, o.weak)) (λ z. omega (arith, z, o.weak)));
      again = ap (λ (n : ℕ). min n l.grayagain.room) (counts l.grayagain.count (omega (arith, o.grayagain)) (λ z. omega (arith, z, o.grayagain)) (λ z. omega (arith, z, o.grayagain)));
    }

  -- What is white is painted black, or gray and listed; what is not white is left.
  black_if : (r : Ref) (w : List ℕ) → l.words ≤ length w → Clean l w (cond (is_white (colour_w l r w)) (paint_w l r 4 w) w)
  black_if r w long = go (is_white (colour_w l r w)) refl
    where
      go : (b : Bool) → is_white (colour_w l r w) ≡ b → Clean l w (cond b (paint_w l r 4 w) w)
      go true e = black_clean r w long (white_true (colour_w l r w) e).0
      go false e = clean_none

  gray_if : (r : Ref) (x : Item) (w : List ℕ) → l.words ≤ length w → Listed r.kind → (kind_of x ≡ 5 → r.kind ≡ 1) → (kind_of x ≡ 8 → r.kind ≡ 5)
      → Clean l w (cond (is_white (colour_w l r w)) (push l.gray x (paint_w l r 3 w)) w)
  gray_if r x w long k t s = go (is_white (colour_w l r w)) refl
    where
      go : (b : Bool) → is_white (colour_w l r w) ≡ b → Clean l w (cond b (push l.gray x (paint_w l r 3 w)) w)
      go true e = gray_clean r x w long k t s e
      go false e = clean_none

  -- a link of a kind that is not followed at once
  module _ (i g : ℕ) (w : List ℕ) (long : l.words ≤ length w) where
    -- a string
    pub string_clean : Clean l w (mark_ref l (ref 0 i g) w)
    unfolding mark_string
    string_clean = black_if (ref 0 i g) w long

    -- a table
    pub table_clean : Clean l w (mark_ref l (ref 1 i g) w)
    unfolding mark_table
    table_clean = gray_if (ref 1 i g) (item.Table (record { 0 = i; 1 = g })) w long tt (λ e. refl) (λ e. absurd (let z : ⊥ = omega (arith, e) in z))

    -- a closure
    pub closure_clean : Clean l w (mark_ref l (ref 2 i g) w)
    unfolding mark_closure
    closure_clean = gray_if (ref 2 i g) (item.Function (record { 0 = i; 1 = g })) w long tt (λ e. absurd (let z : ⊥ = omega (arith, e) in z)) (λ e. absurd (let z : ⊥ = omega (arith, e) in z))

    -- a thread
    pub thread_clean : Clean l w (mark_ref l (ref 5 i g) w)
    unfolding mark_thread
    thread_clean = gray_if (ref 5 i g) (item.Thread (record { 0 = i; 1 = g })) w long tt (λ e. absurd (let z : ⊥ = omega (arith, e) in z)) (λ e. refl)

  -- a table that may be missing
  pub table_or_clean : (t : Option TableRef) (w : List ℕ) → l.words ≤ length w → Clean l w (marks l (table_link t) w)
  unfolding marks
  table_or_clean (Some r) w long = table_clean r.0 r.1 w long
  table_or_clean None w long = clean_none

  -- A userdata is painted, and its two tables are marked.
  pub userdata_clean : (i g : ℕ) (w : List ℕ) → l.words ≤ length w → Clean l w (mark_ref l (ref 4 i g) w)
  unfolding mark_userdata userdata_links
  userdata_clean i g w long = go (is_white (colour_w l (ref 4 i g) w)) refl
    where
      p : ℕ
      p = body_at l.userdata i

      go : (b : Bool) → is_white (colour_w l (ref 4 i g) w) ≡ b → Clean l w (cond b (follow_userdata (ops l) l (record { 0 = i; 1 = g }) w) w)
      go false e = clean_none
      go true e =
          let c = black_clean (ref 4 i g) w long (white_true (colour_w l (ref 4 i g) w) e).0 in
          let d = table_or_clean (ud_meta p w) (paint_w l (ref 4 i g) 4 w) (omega (arith, c.light.marked.long)) in
          let f = table_or_clean (ud_env p w) (marks l (table_link (ud_meta p w)) (paint_w l (ref 4 i g) 4 w)) (omega (arith, c.light.marked.long, d.light.marked.long)) in
          subst (λ x. Clean l w x)
          (sym (userdata_links_lem l ok a w long (record { 0 = i; 1 = g }) w marked_none ∙ marks_append l (table_link (ud_meta p w)) (table_link (ud_env p w)) (paint_w l (ref 4 i g) 4 w)))
          (clean_then c (clean_then d f))

  -- Marking what a value refers to is clean.
  pub value_clean : (v : Value) (w : List ℕ) → l.words ≤ length w → Clean l w (marks l (value_links v) w)
  unfolding marks
  value_clean Nil w long = clean_none
  value_clean (Boolean x) w long = clean_none
  value_clean (Light x) w long = clean_none
  value_clean (Number x) w long = clean_none
  value_clean (Str r) w long = string_clean r.0 r.1 w long
  value_clean (Table r) w long = table_clean r.0 r.1 w long
  value_clean (Function r) w long = closure_clean r.0 r.1 w long
  value_clean (Userdata r) w long = userdata_clean r.0 r.1 w long
  value_clean (Thread r) w long = thread_clean r.0 r.1 w long

  -- An upvalue is painted, and its value is marked if it is closed.
  pub upvalue_clean : (i g : ℕ) (w : List ℕ) → l.words ≤ length w → Clean l w (mark_ref l (ref 3 i g) w)
  unfolding mark_upvalue upvalue_links marks
  upvalue_clean i g w long = go (is_white (colour_w l (ref 3 i g) w)) refl
    where
      p : ℕ
      p = body_at l.upvalues i

      closed : (b : Bool) (x : List ℕ) → l.words ≤ length x → Clean l x (marks l (cond b (value_links (upvalue_value p w)) []) x)
      closed true x h = value_clean (upvalue_value p w) x h
      closed false x h = clean_none

      go : (b : Bool) → is_white (colour_w l (ref 3 i g) w) ≡ b → Clean l w (cond b (follow_upvalue (ops l) l (record { 0 = i; 1 = g }) w) w)
      go false e = clean_none
      go true e =
          let h = (white_true (colour_w l (ref 3 i g) w) e).0 in
          let c = black_clean (ref 3 i g) w long h in
          subst (λ x. Clean l w x)
          (sym (upvalue_links_lem l ok a w long (record { 0 = i; 1 = g }) w marked_none h))
          (clean_then c (closed (is_closed p w) (paint_w l (ref 3 i g) 4 w) (omega (arith, c.light.marked.long))))

  -- Marking any link is clean, and so is marking a list of links.
  pub ref_clean : (r : Ref) (w : List ℕ) → l.words ≤ length w → Clean l w (mark_ref l r w)
  ref_clean r w long = go r.kind
    where
      go : (k : ℕ) → Clean l w (mark_kind l k r.at r.gen w)
      go zero = string_clean r.at r.gen w long
      go (suc zero) = table_clean r.at r.gen w long
      go (suc (suc zero)) = closure_clean r.at r.gen w long
      go (suc (suc (suc zero))) = upvalue_clean r.at r.gen w long
      go (suc (suc (suc (suc zero)))) = userdata_clean r.at r.gen w long
      go (suc (suc (suc (suc (suc zero))))) = thread_clean r.at r.gen w long
      go (suc (suc (suc (suc (suc (suc k)))))) = clean_none

  -- Marking a list of links is clean.
  pub marks_clean : (rs : List Ref) (w : List ℕ) → l.words ≤ length w → Clean l w (marks l rs w)
  unfolding marks
  marks_clean [] w long = clean_none
  marks_clean (r ∷ rs) w long =
      let c = ref_clean r w long in
      clean_then c (marks_clean rs (mark_ref l r w) (omega (arith, c.light.marked.long)))
