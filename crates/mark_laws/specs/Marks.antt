-- Marking a list of links: each link in turn, by the function of its kind. Assumes nothing.
--     mark_ref, marks, marks_append, marks_none      the definitions; one list after the other; the empty list
--     ref_moves, marks_moves, marks_marked      they are moves
--     NoWhite, marks_again              marking what is not white changes nothing
--     ref_done, marks_done, dark_stays  what was marked is not white, and stays so
use Rattle.std.specs.Prelude.{◌≡◌, Bool, ℕ, zero, suc, ◌+◌, ◌≤◌, ◌<◌, length}
use Rattle.std.proofs.Math.Path.{refl, ap}
use Rattle.std.proofs.Common.{◌∙◌, arith, get_or-set_same}
use Rattle.std.proofs.Math.Bool.{true, false, cond}
use mathlib.Core.List.{List, [], ◌∷◌, ◌++◌}
use Rattle.base.specs.Words.{at}
use Rattle.arena.specs.Slots.{used, gen}
use Rattle.layout.specs.declared.Lay.{Lay}
use Rattle.lists.specs.declared.Item.TheVariants as item
use Rattle.record.specs.Fields.{body_at}
use Rattle.record.specs.Userdata.{ud_meta, ud_env}
use Rattle.run_record.specs.Upvalues.{is_closed}
use Rattle.laid.specs.Laid.{Laid}
use Rattle.mark.specs.Ops.{Ref, ref, gray, is_white}
use Rattle.mark.specs.Words.{arena_of, shade, colour_w, paint_w, ops}
use Rattle.mark.specs.Marking.{mark_string, mark_table, mark_closure, mark_thread, follow_userdata, mark_userdata, mark_value_at, follow_upvalue, mark_upvalue}
use Rattle.mark_laws.specs.Apart.{Apart, Order, order, arena_kind, arena_lists}
use Rattle.mark_laws.specs.Colours.{shade_parts, shade_is, white_true, not_white}
use Rattle.mark_laws.specs.Moves.{Rising, Moves, still, pushed, raised, string_moves, table_moves, closure_moves, thread_moves, table_or_moves, userdata_moves, value_at_moves, upvalue_moves}
use Rattle.mark_laws.specs.Changes.{Marked, marked_none, marked_then, moves_marked}
use Rattle.mark_laws.specs.Stays.{used_stays, gen_stays, marked_stays}

module _ (l : Lay) where
  -- A link is marked as its kind is: strings 0, tables 1, closures 2, upvalues 3, userdata 4, threads 5. No other is a kind.
  abbrev pub mark_kind : ℕ → ℕ → ℕ → List ℕ → List ℕ
  mark_kind zero i g w = mark_string (ops l) (record { 0 = i; 1 = g }) w
  mark_kind (suc zero) i g w = mark_table (ops l) (record { 0 = i; 1 = g }) w
  mark_kind (suc (suc zero)) i g w = mark_closure (ops l) (record { 0 = i; 1 = g }) w
  mark_kind (suc (suc (suc zero))) i g w = mark_upvalue (ops l) l (record { 0 = i; 1 = g }) w
  mark_kind (suc (suc (suc (suc zero)))) i g w = mark_userdata (ops l) l (record { 0 = i; 1 = g }) w
  mark_kind (suc (suc (suc (suc (suc zero))))) i g w = mark_thread (ops l) (record { 0 = i; 1 = g }) w
  mark_kind (suc (suc (suc (suc (suc (suc k)))))) i g w = w

  -- a handle of any kind
  abbrev pub mark_ref : Ref → List ℕ → List ℕ
  mark_ref r w = mark_kind r.kind r.at r.gen w

  -- Links in turn, from the left.
  unfoldable pub marks : List Ref → List ℕ → List ℕ
  marks [] w = w
  marks (r ∷ rs) w = marks rs (mark_ref r w)

  -- Two lists joined are marked one after the other.
  pub marks_append : (xs ys : List Ref) (w : List ℕ) → marks (xs ++ ys) w ≡ marks ys (marks xs w)
  unfolding marks
  marks_append [] ys w = refl
  marks_append (r ∷ xs) ys w = marks_append xs ys (mark_ref r w)

  -- No links, nothing done.
  pub marks_none : (rs : List Ref) (w : List ℕ) → rs ≡ [] → marks rs w ≡ w
  unfolding marks
  marks_none rs w e = ap (λ (x : List Ref). marks x w) e

  -- Marking a link is a move, and so is marking a list.
  pub ref_moves : (r : Ref) {w u : List ℕ} → Moves l w u → Moves l w (mark_ref r u)
  ref_moves r {w} {u} m = go r.kind
    where
      go : (k : ℕ) → Moves l w (mark_kind k r.at r.gen u)
      go zero = string_moves l (record { 0 = r.at; 1 = r.gen }) m
      go (suc zero) = table_moves l (record { 0 = r.at; 1 = r.gen }) m
      go (suc (suc zero)) = closure_moves l (record { 0 = r.at; 1 = r.gen }) m
      go (suc (suc (suc zero))) = upvalue_moves l (record { 0 = r.at; 1 = r.gen }) m
      go (suc (suc (suc (suc zero)))) = userdata_moves l (record { 0 = r.at; 1 = r.gen }) m
      go (suc (suc (suc (suc (suc zero))))) = thread_moves l (record { 0 = r.at; 1 = r.gen }) m
      go (suc (suc (suc (suc (suc (suc k)))))) = m

  -- and so is marking a list
  pub marks_moves : (rs : List Ref) {w u : List ℕ} → Moves l w u → Moves l w (marks rs u)
  unfolding marks
  marks_moves [] m = m
  marks_moves (r ∷ rs) m = marks_moves rs (ref_moves r m)

  -- None of the links is white.
  abbrev pub NoWhite : List Ref → List ℕ → Type 0
  NoWhite [] w = Unit {0}
  NoWhite (r ∷ rs) w = (is_white (colour_w l r w) ≡ false) × NoWhite rs w

  -- nor of two such lists joined
  pub dark_append : (xs ys : List Ref) (w : List ℕ) → NoWhite xs w → NoWhite ys w → NoWhite (xs ++ ys) w
  dark_append [] ys w f g = g
  dark_append (r ∷ xs) ys w f g = (f.0, dark_append xs ys w f.1 g)

  -- A link that is not white changes nothing when it is marked, and so a list of such.
  pub ref_again : (r : Ref) (w : List ℕ) → is_white (colour_w l r w) ≡ false → mark_ref r w ≡ w
  unfolding mark_string mark_table mark_closure mark_upvalue mark_userdata mark_thread
  ref_again r w e = go r.kind e
    where
      dark : (b : Bool) (x : List ℕ) → b ≡ false → cond b x w ≡ w
      dark b x p = ap (λ (c : Bool). cond c x w) p

      go : (k : ℕ) → is_white (shade (arena_of l k) r.at r.gen w) ≡ false → mark_kind k r.at r.gen w ≡ w
      go zero p = dark _ _ p
      go (suc zero) p = dark _ _ p
      go (suc (suc zero)) p = dark _ _ p
      go (suc (suc (suc zero))) p = dark _ _ p
      go (suc (suc (suc (suc zero)))) p = dark _ _ p
      go (suc (suc (suc (suc (suc zero))))) p = dark _ _ p
      go (suc (suc (suc (suc (suc (suc k)))))) p = refl

  -- Marking a list of which no link is white changes nothing.
  pub marks_again : (rs : List Ref) (w : List ℕ) → NoWhite rs w → marks rs w ≡ w
  unfolding marks
  marks_again [] w h = refl
  marks_again (r ∷ rs) w h = ap (marks rs) (ref_again r w h.0) ∙ marks_again rs w h.1

module _ (l : Lay) (ok : Laid l) (a : Apart l) where
  abbrev o : Order l
  o = order l ok a

  -- Marking a list does what marking does.
  pub marks_marked : (rs : List Ref) {w u : List ℕ} → l.words ≤ length w → Marked l w u → Marked l w (marks l rs u)
  marks_marked rs long m = marked_then m (moves_marked l ok a (marks_moves l rs (still refl)) (omega (arith, m.long)))

  -- What is not white stays so.
  pub dark_stays : (rs : List Ref) {w u : List ℕ} → Marked l w u → NoWhite l rs w → NoWhite l rs u
  dark_stays [] m h = tt
  dark_stays (r ∷ rs) m h = (marked_stays o m r h.0, dark_stays rs m h.1)

  -- A painted slot has the colour.
  pub paint_colour : (r : Ref) (c : ℕ) (w : List ℕ) → l.words ≤ length w → Rising (colour_w l r w) c → colour_w l r (paint_w l r c w) ≡ c
  paint_colour r c w long h =
      shade_is (arena_of l r.kind) r.at r.gen (paint_w l r c w) (omega (arith, p.0, used_stays o m r.kind)) (gen_stays o m r.kind r.at i ∙ p.1) (omega (arith, here, h.3)) ∙ here
    where
      m : Marked l w (paint_w l r c w)
      m = moves_marked l ok a (raised (still refl) r c h refl) long

      p : (r.at < used (arena_of l r.kind) w) × (gen (arena_of l r.kind) r.at w ≡ r.gen) × (colour_w l r w ≡ at w ((arena_of l r.kind).base + r.at))
      p = shade_parts (arena_of l r.kind) r.at r.gen w h.0

      i : r.at < (arena_of l r.kind).slots
      i = omega (arith, p.0)

      here : at (paint_w l r c w) ((arena_of l r.kind).base + r.at) ≡ c
      here =
          get_or-set_same w ((arena_of l r.kind).base + r.at) c 0
          (omega (arith, i, arena_lists l o r.kind (arena_kind l o r.kind r.at i), a, o.words))

  -- what is painted if it is white, and then followed by moves, is not white
  done_by : (r : Ref) (c : ℕ) (w x : List ℕ) → l.words ≤ length w → 3 ≤ c → c ≤ 4 → Moves l (paint_w l r c w) x
      → is_white (colour_w l r (cond (is_white (colour_w l r w)) x w)) ≡ false
  done_by r c w x long f g n = go (is_white (colour_w l r w)) refl
    where
      go : (b : Bool) → is_white (colour_w l r w) ≡ b → is_white (colour_w l r (cond b x w)) ≡ false
      go false e = e
      go true e =
          let h = white_true (colour_w l r w) e in
          let s : Rising (colour_w l r w) c = (h.0, omega (arith, h.1), f, g) in
          let m : Marked l w (paint_w l r c w) = moves_marked l ok a (raised (still refl) r c s refl) long in
          let p = paint_colour r c w long s in
          marked_stays o (moves_marked l ok a n (omega (arith, m.long))) r (not_white (colour_w l r (paint_w l r c w)) (λ z. omega (arith, z, p)) (λ z. omega (arith, z, p)))

  -- A link that was marked is not white.
  pub ref_done : (r : Ref) (w : List ℕ) → l.words ≤ length w → is_white (colour_w l r (mark_ref l r w)) ≡ false
  unfolding mark_string mark_table mark_closure mark_upvalue mark_userdata mark_thread follow_userdata follow_upvalue
  ref_done r w long = go r.kind
    where
      closed : (b : Bool) (p : ℕ) {x : List ℕ} → Moves l x (cond b (mark_value_at (ops l) l p x) x)
      closed true p = value_at_moves l p (still refl)
      closed false p = still refl

      go : (k : ℕ) → is_white (colour_w l (ref k r.at r.gen) (mark_kind l k r.at r.gen w)) ≡ false
      go zero = done_by (ref 0 r.at r.gen) 4 w _ long (omega arith) (omega arith) (still refl)
      go (suc zero) = done_by (ref 1 r.at r.gen) 3 w _ long (omega arith) (omega arith) (pushed (still refl) gray (item.Table (record { 0 = r.at; 1 = r.gen })) refl)
      go (suc (suc zero)) = done_by (ref 2 r.at r.gen) 3 w _ long (omega arith) (omega arith) (pushed (still refl) gray (item.Function (record { 0 = r.at; 1 = r.gen })) refl)
      go (suc (suc (suc zero))) =
          done_by (ref 3 r.at r.gen) 4 w _ long (omega arith) (omega arith)
          (closed (is_closed (body_at l.upvalues r.at) (paint_w l (ref 3 r.at r.gen) 4 w)) (body_at l.upvalues r.at + 1))
      go (suc (suc (suc (suc zero)))) =
          done_by (ref 4 r.at r.gen) 4 w _ long (omega arith) (omega arith)
          (table_or_moves l (ud_env (body_at l.userdata r.at) w) (table_or_moves l (ud_meta (body_at l.userdata r.at) w) (still refl)))
      go (suc (suc (suc (suc (suc zero))))) = done_by (ref 5 r.at r.gen) 3 w _ long (omega arith) (omega arith) (pushed (still refl) gray (item.Thread (record { 0 = r.at; 1 = r.gen })) refl)
      go (suc (suc (suc (suc (suc (suc k)))))) = not_white _ none none
        where
          none : {c : ℕ} → shade (arena_of l (suc (suc (suc (suc (suc (suc k))))))) r.at r.gen w ≡ suc c → ⊥
          none e = omega (arith, (shade_parts (arena_of l (suc (suc (suc (suc (suc (suc k))))))) r.at r.gen w (omega (arith, e))).0)

  -- After marking a list none of its links is white.
  pub marks_done : (rs : List Ref) (w : List ℕ) → l.words ≤ length w → NoWhite l rs (marks l rs w)
  unfolding marks
  marks_done [] w long = tt
  marks_done (r ∷ rs) w long =
      let m : Marked l w (mark_ref l r w) = moves_marked l ok a (ref_moves l r (still refl)) long in
      (marked_stays o (marks_marked rs (omega (arith, m.long)) marked_none) r (ref_done r w long), marks_done rs (mark_ref l r w) (omega (arith, m.long)))
