-- Marking keeps the counts of the lists within their rooms. Assumes nothing.
--     push_room, pop_room, clear_room     a push, a pop, a clearing of one list
--     only_lists        the counts of the other lists stay
--     moves_lists       all that marking does
use Rattle.std.specs.Prelude.{◌≡◌, List as Words, ℕ, ◌+◌, ◌-◌, ◌*◌, ◌≤◌, ◌<◌, length, Option}
use Rattle.std.proofs.Common.{sym, subst, ap, ◌∙◌, inl, arith, get_or-set_other}
use Rattle.std.proofs.Math.Decide.{dec_lt, ℕ_discrete}
use Rattle.std.proofs.Math.Seq.{get_or-set_same}
use Rattle.base.specs.Words.{at, clear}
use Rattle.arena_laws.specs.Words.{clear_length}
use Rattle.layout.specs.declared.List.{List}
use Rattle.layout.specs.declared.Lay.{Lay}
use Rattle.lists.specs.declared.Item.{Item}
use Rattle.lists.specs.Lists.{RoomFor, damage, length_of, push, pop, cleared}
use Rattle.lists.proofs.Laws.{push_stored, push_full, stored_count, pop_none, pop_some, taken_count}
use Rattle.lists.specs.Laws as lists
use Rattle.laid.specs.Laid.{Laid}
use Rattle.mark.specs.Ops.{Ref, Work, gray, grayagain, weak}
use Rattle.mark.specs.Words.{arena_of, list_of, colour_w, paint_w}
use Rattle.mark_laws.specs.Apart.{Apart, Order, order}
use Rattle.mark_laws.specs.Colours.{shade_parts}
use Rattle.mark_laws.specs.Moves.{Moves, still, raised, pushed, popped, emptied}
use Rattle.mark_laws.specs.Changes.{moves_marked, colour_in, work_room}
use Rattle.room_laws.specs.Frames.{OnlyList, mark_apart, push_only, pop_only, cleared_only}
use Rattle.room_laws.proofs.Queues.{queue_count}
use Rattle.state_laws.specs.State.{Lists, lists_same}

-- One list.
module _ (b : List) (w : Words ℕ) (ok : RoomFor b w) where
  pub push_room : lists.Apart b → (x : Item) → at w b.count ≤ b.room → at (push b x w) b.count ≤ b.room
  push_room d x h = go (dec_lt (length_of b w) b.room)
    where
      go : Dec (length_of b w < b.room) → at (push b x w) b.count ≤ b.room
      go (yes f) = omega (arith, f, ap (λ (u : Words ℕ). at u b.count) (push_stored b x w f) ∙ stored_count b (length_of b w) w ok f x)
      go (no f) = omega (arith, h, ap (λ (u : Words ℕ). at u b.count) (push_full b x w (omega (arith, f))) ∙ get_or-set_other w damage b.count 1 0 d.other)

  pub pop_room : at w b.count ≤ b.room → at (pop b w).1 b.count ≤ b.room
  pop_room h = go (ℕ_discrete (length_of b w) 0)
    where
      go : Dec (length_of b w ≡ 0) → at (pop b w).1 b.count ≤ b.room
      go (yes e) = omega (arith, h, ap (λ (x : Option Item × Words ℕ). at x.1 b.count) (pop_none b w e))
      go (no d) = omega (arith, h, ap (λ (x : Option Item × Words ℕ). at x.1 b.count) (pop_some b w d) ∙ taken_count b (length_of b w - 1) w ok (omega (arith, d)))

  pub clear_room : at (cleared b w) b.count ≤ b.room
  unfolding cleared
  clear_room = omega (arith, get_or-set_same (clear b.base (3 * length_of b w) w) b.count 0 0 (omega (arith, ok.count, ok.fits, clear_length b.base (3 * length_of b w) w)))

module _ (l : Lay) (ok : Laid l) (a : Apart l) where
  abbrev o : Order l
  o = order l ok a

  -- Where only one list changes, the counts of the others stay.
  pub only_lists : (k : Work) (w u : Words ℕ) → OnlyList l k w u → at u (list_of l k).count ≤ (list_of l k).room → Lists l w → Lists l u
  only_lists gray w u s h m = record {
    gray = h;
    grayagain = subst (λ (n : ℕ). n ≤ l.grayagain.room) (sym (s l.grayagain.count (λ e. omega (arith, e, o.gray, o.grayagain)) (λ e. omega (arith, e, o.grayagain)) (inl (omega (arith, o.grayagain, o.header, a))))) m.grayagain;
    weak = subst (λ (n : ℕ). n ≤ l.weak.room) (sym (s l.weak.count (λ e. omega (arith, e, o.gray, o.weak)) (λ e. omega (arith, e, o.weak)) (inl (omega (arith, o.weak, o.header, a))))) m.weak;
    queue = subst (λ (n : ℕ). n ≤ l.queue.room) (sym (s l.queue.count (λ e. omega (arith, e, o.gray, queue_count l ok)) (λ e. omega (arith, e, queue_count l ok)) (inl (omega (arith, queue_count l ok, o.header, a))))) m.queue;
  }
  only_lists grayagain w u s h m = record {
    gray = subst (λ (n : ℕ). n ≤ l.gray.room) (sym (s l.gray.count (λ e. omega (arith, e, o.gray, o.grayagain)) (λ e. omega (arith, e, o.gray)) (inl (omega (arith, o.gray, o.header, a))))) m.gray;
    grayagain = h;
    weak = subst (λ (n : ℕ). n ≤ l.weak.room) (sym (s l.weak.count (λ e. omega (arith, e, o.grayagain, o.weak)) (λ e. omega (arith, e, o.weak)) (inl (omega (arith, o.weak, o.header, a))))) m.weak;
    queue = subst (λ (n : ℕ). n ≤ l.queue.room) (sym (s l.queue.count (λ e. omega (arith, e, o.grayagain, queue_count l ok)) (λ e. omega (arith, e, queue_count l ok)) (inl (omega (arith, queue_count l ok, o.header, a))))) m.queue;
  }
  only_lists weak w u s h m = record {
    gray = subst (λ (n : ℕ). n ≤ l.gray.room) (sym (s l.gray.count (λ e. omega (arith, e, o.gray, o.weak)) (λ e. omega (arith, e, o.gray)) (inl (omega (arith, o.gray, o.header, a))))) m.gray;
    grayagain = subst (λ (n : ℕ). n ≤ l.grayagain.room) (sym (s l.grayagain.count (λ e. omega (arith, e, o.weak, o.grayagain)) (λ e. omega (arith, e, o.grayagain)) (inl (omega (arith, o.grayagain, o.header, a))))) m.grayagain;
    weak = h;
    queue = subst (λ (n : ℕ). n ≤ l.queue.room) (sym (s l.queue.count (λ e. omega (arith, e, o.weak, queue_count l ok)) (λ e. omega (arith, e, queue_count l ok)) (inl (omega (arith, queue_count l ok, o.header, a))))) m.queue;
  }

  -- the count of a list that marking uses
  room_of : (k : Work) {w : Words ℕ} → Lists l w → at w (list_of l k).count ≤ (list_of l k).room
  room_of gray m = m.gray
  room_of grayagain m = m.grayagain
  room_of weak m = m.weak

  -- A slot that a handle names is painted: no count is touched.
  pub paint_lists : (r : Ref) (c : ℕ) (u : Words ℕ) → 1 ≤ colour_w l r u → Lists l u → Lists l (paint_w l r c u)
  paint_lists r c u h m =
      let p = shade_parts (arena_of l r.kind) r.at r.gen u h in
      let x = colour_in l ok a r.kind r.at (omega (arith, p.0)) in
      lists_same ok a u (paint_w l r c u) (λ q f g. get_or-set_other u ((arena_of l r.kind).base + r.at) q c 0 (λ e. omega (arith, e, g, x.0))) m

  pub push_lists : (k : Work) (x : Item) (u : Words ℕ) → l.words ≤ length u → Lists l u → Lists l (push (list_of l k) x u)
  push_lists k x u long m = only_lists k u _ (push_only l ok a k x u long) (push_room (list_of l k) u (work_room l ok a k u long) (mark_apart l ok a k) x (room_of k m)) m

  pub pop_lists : (k : Work) (u : Words ℕ) → l.words ≤ length u → Lists l u → Lists l (pop (list_of l k) u).1
  pop_lists k u long m = only_lists k u _ (pop_only l ok a k u long) (pop_room (list_of l k) u (work_room l ok a k u long) (room_of k m)) m

  pub clear_lists_lem : (k : Work) (u : Words ℕ) → l.words ≤ length u → Lists l u → Lists l (cleared (list_of l k) u)
  clear_lists_lem k u long m = only_lists k u _ (cleared_only l ok a k u long) (clear_room (list_of l k) u (work_room l ok a k u long)) m

  -- All that marking does.
  pub moves_lists : {w u : Words ℕ} → Moves l w u → l.words ≤ length w → Lists l w → Lists l u
  moves_lists (still e) long m = subst (λ (x : Words ℕ). Lists l x) (sym e) m
  moves_lists (raised {u = u} n r c h e) long m = subst (λ (x : Words ℕ). Lists l x) (sym e) (paint_lists r c u h.0 (moves_lists n long m))
  moves_lists (pushed {u = u} n k x e) long m =
      let t = moves_marked l ok a n long in
      subst (λ (y : Words ℕ). Lists l y) (sym e) (push_lists k x u (omega (arith, long, t.long)) (moves_lists n long m))
  moves_lists (popped {u = u} n k e) long m =
      let t = moves_marked l ok a n long in
      subst (λ (y : Words ℕ). Lists l y) (sym e) (pop_lists k u (omega (arith, long, t.long)) (moves_lists n long m))
  moves_lists (emptied {u = u} n k e) long m =
      let t = moves_marked l ok a n long in
      subst (λ (y : Words ℕ). Lists l y) (sym e) (clear_lists_lem k u (omega (arith, long, t.long)) (moves_lists n long m))
