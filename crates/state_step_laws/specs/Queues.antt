-- The atomic step keeps the counts of the lists within their rooms. Assumes nothing.
--     marked_moves, second_moves     both markings of the atomic step
--     separated_lists   separation: of the counts, the queue's alone changes, and stays within its room
use Rattle.std.specs.Prelude.{◌≡◌, ◌≢◌, length}
use Rattle.std.proofs.Math.Path.{refl, subst}
use Rattle.std.proofs.Common.{sym, ◌∙◌, inl, arith, length-set, get_or-set_other}
use Rattle.std.proofs.Math.Bool.{true}
use mathlib.Core.List.{List}
use Prim.Native.Nat.{ℕ, ◌+◌, ◌-◌, ◌*◌, ◌≤◌, ◌<◌}
use Rattle.base.specs.Loop.{run_keeps}
use Rattle.base.specs.Words.{at}
use Rattle.arena.specs.Slots.{used, set_colour}
use Rattle.value.specs.declared.UdRef.{UdRef}
use Rattle.layout.specs.declared.Lay.{Lay}
use Rattle.layout.specs.Places.{WHITE}
use Rattle.lists.specs.declared.Item.{Item}
use Rattle.lists.specs.declared.Item.TheVariants.{Table, Function, Userdata, Thread, Main, Unknown}
use Rattle.lists.specs.Lists.{length_of, item_at, push, cleared}
use Rattle.lists.proofs.Laws.{push_long}
use Rattle.laid.specs.Laid.{Laid, queue_room_lem}
use Rattle.record.specs.Fields.{body_at}
use Rattle.record.specs.Userdata.{set_ud_finalized}
use Rattle.mark.specs.Ops.{gray, grayagain, weak}
use Rattle.mark.specs.Words.{shade, ops}
use Rattle.run_walk.specs.MainThread.{mark_main}
use Rattle.separate.specs.Separation.{is_due, of_userdata, queued, placed, shifts, creation_of, enqueue, separate_slot, separated, follow_due, mark_queued, mark_tmudata}
use Rattle.atomic.specs.Atomic.{again_item, again_listed, again_all, marked}
use Rattle.propagate.specs.Propagation.{propagate_all}
use Rattle.links.specs.Links.{main_links}
use Rattle.mark_laws.specs.Apart.{Apart, Order, order}
use Rattle.mark_laws.specs.Moves.{Moves, still, emptied, moves_then, userdata_follows}
use Rattle.mark_laws.specs.Changes.{marked_none, moves_marked}
use Rattle.mark_laws.specs.Marks.{marks_moves}
use Rattle.mark_laws.specs.MainLinks.{main_links_lem}
use Rattle.mark_laws.specs.Propagates.{table_whole, closure_whole, again_whole, all_moves}
use Rattle.room_laws.specs.Tallies.{Ample}
use Rattle.room_laws.specs.Queues.{Held}
use Rattle.room_laws.proofs.Queues.{queue_count, queue_mark, placed_below, separated_held}
use Rattle.state_laws.specs.State.{Lists}
use Rattle.state_laws.specs.Plains.{lt_both, eq_both, cond_both}
use Rattle.state_laws.specs.Rooms.{push_room}

module _ (l : Lay) (ok : Laid l) (a : Apart l) where
  abbrev o : Order l
  o = order l ok a

  -- The first marking: the main thread, grayagain in order, then all gray.
  again_moves : (b : List ℕ) (x : Item) (u : List ℕ) → l.words ≤ length u → Moves l u (again_item l b x u)
  unfolding again_item
  again_moves b (Table r) u long = table_whole l ok a u long b r
  again_moves b (Function r) u long = closure_whole l ok a u long r
  again_moves b (Thread r) u long = again_whole l ok a u long r
  again_moves b (Userdata r) u long = still refl
  again_moves b Main u long = still refl
  again_moves b Unknown u long = still refl

  pub marked_moves : (b w : List ℕ) → l.words ≤ length w → Moves l w (marked l b w)
  unfolding marked again_all again_listed
  marked_moves b w long =
      let m₁ : Moves l w w₁ = subst (λ (x : List ℕ). Moves l w x) (sym (main_links_lem l ok a w long w marked_none)) (marks_moves l (main_links w l) (still refl)) in
      let m₂ : Moves l w w₂ =
      run_keeps (again_listed l b) (λ (t : List ℕ). Moves l w t) 0 (length_of l.grayagain w₁) w₁ (omega arith)
      (λ j t h k. moves_then k (again_moves b (item_at l.grayagain j t) t (omega (arith, long, (moves_marked l ok a k long).long)))) m₁ in
      let m₃ : Moves l w w₃ = emptied m₂ grayagain refl in
      moves_then m₃ (all_moves l ok a b w₃ (omega (arith, long, (moves_marked l ok a m₃ long).long)))
    where
      w₁ : List ℕ
      w₁ = mark_main (ops l) l w

      w₂ : List ℕ
      w₂ = again_all l b (mark_main (ops l) l w)

      w₃ : List ℕ
      w₃ = cleared l.grayagain (again_all l b (mark_main (ops l) l w))

  -- The second: what is queued and what it reaches.
  due_moves : (r : UdRef) {w u : List ℕ} → Moves l w u → Moves l w (follow_due l r u)
  unfolding follow_due
  due_moves r {w} {u} m =
      eq_both (λ (x : List ℕ). Moves l w x) (shade l.userdata r.0 r.1 u) 0 u _ (λ e. m) (λ d. userdata_follows l r (some (shade l.userdata r.0 r.1 u) d) m)
    where
      some : (n : ℕ) → n ≢ 0 → 1 ≤ n
      some n d = omega (arith, d)

  item_moves : (x : Item) {w u : List ℕ} → Moves l w u → Moves l w (of_userdata (λ r. follow_due l r u) u x)
  unfolding of_userdata
  item_moves (Userdata r) m = due_moves r m
  item_moves (Table r) m = m
  item_moves (Function r) m = m
  item_moves (Thread r) m = m
  item_moves Main m = m
  item_moves Unknown m = m

  pub second_moves : (b w : List ℕ) → l.words ≤ length w → Moves l w (propagate_all (ops l) l b (mark_tmudata l w))
  unfolding mark_tmudata mark_queued
  second_moves b w long =
      let m : Moves l w (mark_tmudata l w) = run_keeps (mark_queued l) (λ (t : List ℕ). Moves l w t) 0 (length_of l.queue w) w (omega arith) (λ j t h k. item_moves (item_at l.queue j t) k) (still refl) in
      moves_then m (all_moves l ok a b (mark_tmudata l w) (omega (arith, long, (moves_marked l ok a m long).long)))

  -- Separation.
  module _ (w : List ℕ) (long : l.words ≤ length w) where
    abbrev Q : List ℕ → Type 0
    Q u = (length u ≡ length w) × (at u l.queue.count ≤ l.queue.room)

    -- what leaves the words below the queue
    below : (u v : List ℕ) → length v ≡ length u → at v l.queue.count ≡ at u l.queue.count → Q u → Q v
    below u v e f q = (e ∙ q.0, subst (λ (n : ℕ). n ≤ l.queue.room) (sym f) q.1)

    placed_keeps : (start k : ℕ) (r : UdRef) (u : List ℕ) → Q u → Q (placed l start k r u)
    placed_keeps start k r u q =
        let p = placed_below l ok a start k r u in
        below u (placed l start k r u) p.0 (p.1 l.queue.count (omega (arith, queue_count l ok, o.header, a))) q

    queued_keeps : (start : ℕ) (r : UdRef) (u : List ℕ) → Q u → Q (queued l start r u)
    unfolding queued
    queued_keeps start r u q =
        let fits = queue_room_lem l u ok (omega (arith, long, q.0)) in
        let v : List ℕ = push l.queue (Userdata r) u in
        let p : Q v = (push_long l.queue (Userdata r) u fits ∙ q.0, push_room l.queue u fits (queue_mark l ok a) (Userdata r) q.1) in
        lt_both Q (length_of l.queue u) l.queue.room (placed l start (length_of l.queue u) r v) _ (λ e. placed_keeps start (length_of l.queue u) r v p)
        (λ e. cond_both Q (shifts l start (length_of l.queue u) (creation_of l r v) v) (placed l start (length_of l.queue u - 1) r v) v (λ z. placed_keeps start (length_of l.queue u - 1) r v p) (λ z. p))

    slot_keeps : (start white i : ℕ) (x : ℕ × List ℕ) → Q x.1 → Q (separate_slot l start white i x).1
    unfolding separate_slot enqueue
    slot_keeps start white i x q =
        cond_both (λ (y : ℕ × List ℕ). Q y.1) (is_due l i white x.1) (x.0 + 1, enqueue l start i x.1) x
        (λ e. queued_keeps start _ u₂
        (below u₁ u₂ (length-set u₁ (l.userdata.base + i) 3) (get_or-set_other u₁ (l.userdata.base + i) l.queue.count 3 0 (λ z. omega (arith, z, queue_count l ok, o.header, a)))
        (below x.1 u₁ (length-set x.1 (body_at l.userdata i + 6) 1)
        (get_or-set_other x.1 (body_at l.userdata i + 6) l.queue.count 1 0 (λ z. far (body_at l.userdata i) z)) q)))
        (λ e. q)
      where
        u₁ : List ℕ
        u₁ = set_ud_finalized (body_at l.userdata i) true x.1

        u₂ : List ℕ
        u₂ = set_colour l.userdata i 3 (set_ud_finalized (body_at l.userdata i) true x.1)

        more : (x y z : ℕ) → x ≤ y → x ≤ y + z
        more x y z f = omega (arith, f)

        past : l.boundary ≤ body_at l.userdata i
        past = more l.boundary l.userdata.bodies (i * l.userdata.stride) o.past_userdata

        far : (p : ℕ) → l.queue.count ≡ body_at l.userdata i + 6 → ⊥
        far p z = omega (arith, z, past, queue_count l ok, o.header, a)

    separated_keeps : at w l.queue.count ≤ l.queue.room → Q (separated l w).1
    unfolding separated
    separated_keeps h =
        run_keeps (separate_slot l (length_of l.queue w) (at w WHITE)) (λ (x : ℕ × List ℕ). Q x.1) 0 (used l.userdata w) (0, w) (omega arith)
        (λ j x f q. slot_keeps (length_of l.queue w) (at w WHITE) j x q) (refl, h)

    pub separated_lists : Ample l → length_of l.queue w ≡ 0 → Lists l w → Lists l (separated l w).1
    separated_lists am none m = record {
      gray = subst (λ (n : ℕ). n ≤ l.gray.room) (sym (same l.gray.count (omega (arith, o.gray)))) m.gray;
      grayagain = subst (λ (n : ℕ). n ≤ l.grayagain.room) (sym (same l.grayagain.count (omega (arith, o.grayagain)))) m.grayagain;
      weak = subst (λ (n : ℕ). n ≤ l.weak.room) (sym (same l.weak.count (omega (arith, o.weak)))) m.weak;
      queue = kept.1;
    }
      where
        held : Held l w (separated l w).1
        held = separated_held l ok a am w long none

        same : (x : ℕ) → x < 72 → at (separated l w).1 x ≡ at w x
        same x h = held.kept x (λ e. omega (arith, e, h, queue_count l ok)) (inl (omega (arith, h, o.header, a))) (omega (arith, h, o.header, a))

        kept : Q (separated l w).1
        kept = separated_keeps m.queue
