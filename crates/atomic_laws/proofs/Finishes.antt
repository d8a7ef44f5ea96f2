-- The due and what they reach are marked: then what is marked is exactly what a root or a due userdata reaches. `w` are the words
-- before the collection, `u` those in which all that the roots reach is marked and nothing is gray. Assumes nothing.
--     queued_ok                 the queue is followed, item by item
--     finished_ok, finished_exact      separation, the queue, all gray: marked is kept
use Rattle.std.proofs.Math.Path.{◌≡◌, sym, ap, subst}
use Rattle.std.specs.Prelude.{refl, ◌⊎◌, ◌↔◌, ℕ, min, ◌+◌, ◌≤◌, ◌<◌, length}
use Rattle.std.proofs.Common.{◌∙◌, arith}
use mathlib.Core.List.{List, []}
use Rattle.std.proofs.Math.Logic.{inl, inr}
use Rattle.std.proofs.Math.Decide.{ℕ_discrete}
use Rattle.base.specs.Words.{at}
use Rattle.arena.specs.Slots.{used}
use Rattle.value.specs.declared.UdRef.{UdRef}
use Rattle.layout.specs.declared.Lay.{Lay}
use Rattle.layout.specs.Places.{WHITE}
use Rattle.lists.specs.declared.Item.{Item}
use Rattle.lists.specs.declared.Item.TheVariants.{Userdata}
use Rattle.lists.specs.Lists.{index_of, generation_of, item_in, length_of, place, item_at}
use Rattle.lists.proofs.Laws.{item_found, item_three}
use Rattle.laid.specs.Laid.{Laid}
use Rattle.mark.specs.Ops.{Ref, ud}
use Rattle.mark.specs.Words.{colour_w, paint_w, ops}
use Rattle.mark.specs.Marking.{follow_userdata}
use Rattle.propagate.specs.Propagation.{rounds, propagate_all}
use Rattle.links.specs.Links.{links}
use Rattle.separate.specs.Separation.{of_userdata, separated, follow_due, mark_queued, mark_tmudata}
use Rattle.atomic.specs.Atomic.{finished}
use Rattle.mark_laws.specs.Apart.{Apart, Order, order}
use Rattle.mark_laws.specs.Changes.{Marked, tops, past}
use Rattle.mark_laws.specs.Stays.{never_falls}
use Rattle.mark_laws.specs.Marks.{marks}
use Rattle.mark_laws.specs.Follows.{userdata_links_lem}
use Rattle.mark_laws.specs.Kinds.{links_userdata}
use Rattle.mark_laws.specs.Ends.{all_empty}
use Rattle.room_laws.specs.Tallies.{Ample}
use Rattle.room_laws.specs.Paints.{paint_quiet}
use Rattle.room_laws.proofs.Payments.{quiet_whole, whole_long}
use Rattle.room_laws.proofs.Walks.{run_along}
use Rattle.room_laws.proofs.Queues.{queue_count}
use Rattle.reach.specs.Reached.{Root}
use Rattle.reach.specs.Cycle.{AllWhite}
use Rattle.reach.specs.Shades.{ref_same}
use Rattle.reach.specs.Oks.{Ok}
use Rattle.reach.proofs.Oks.{marks_all}
use Rattle.reach.proofs.Traversals.{chosen, weaken_ok, follow_ok, for_ok}
use Rattle.reach.specs.Exact.{None}
use Rattle.reach.proofs.Exact.{ok_exact}
use Rattle.atomic_laws.specs.Kept.{KeptRoot, Kept}
use Rattle.atomic_laws.specs.Bodies.{Bodies}
use Rattle.atomic_laws.specs.Separates.{handle, Sorted}
use Rattle.atomic_laws.proofs.Dues.{sorted, handle_due, due_gray, reach_back, Waiting, separated_ok}

module _ (l : Lay) (ok : Laid l) (a : Apart l) (am : Ample l) (y : Bodies l) (w b : List ℕ) (long : l.words ≤ length w) (f : AllWhite l w) (none : length_of l.queue w ≡ 0)
    (u : List ℕ) (c : Ok l w b (Root l w b) (Root l w b) None 0 0 0 [] u) (e : length_of l.gray u ≡ 0) where
  abbrev o : Order l
  o = order l ok a

  -- the words after separation
  abbrev z : List ℕ
  z = (separated l u).1

  abbrev W : ℕ → Ref → Type 0
  W k x = Waiting l ok a am y w b long f none u c e k x

  s : Sorted l (at u WHITE) u (used l.userdata u) z
  s = sorted l ok a am y w b long f none u c e

  z_long : l.words ≤ length z
  z_long = omega (arith, whole_long l ok a am w long c.whole, s.held.long)

  -- marking leaves the queue
  queue_word : {x : List ℕ} → Marked l z x → (q : ℕ) → l.queue.base ≤ q → at x q ≡ at z q
  queue_word m q h = m.kept q (past h)

  queue_length : {x : List ℕ} → Marked l z x → length_of l.queue x ≡ length_of l.queue z
  queue_length m = ap (λ (n : ℕ). min n l.queue.room) (m.kept l.queue.count (tops (omega (arith, queue_count l ok)) (omega (arith, queue_count l ok))))

  -- A userdata that waits is followed: it is black, and its links are marked.
  due_ok : (k : ℕ) (r : UdRef) (x : List ℕ) → item_in z (place l.queue k) ≡ Userdata r → 3 ≤ colour_w l (ud r) x → Ok l z b (KeptRoot l w b) (KeptRoot l w b) (W k) 0 0 0 [] x
      → Ok l z b (KeptRoot l w b) (KeptRoot l w b) (W (k + 1)) 0 0 0 [] (follow_due l r x)
  unfolding follow_due
  due_ok k r x i h d =
      chosen (λ (t : List ℕ). Ok l z b (KeptRoot l w b) (KeptRoot l w b) (W (k + 1)) 0 0 0 [] t) (colour_w l (ud r) x) x (follow_userdata (ops l) l r x) h
      (subst (λ t. Ok l z b (KeptRoot l w b) (KeptRoot l w b) (W (k + 1)) 0 0 0 [] t) (sym (userdata_links_lem l ok a z z_long r x d.marked ∙ ap (λ rs. marks l rs (paint_w l (ud r) 4 x)) (sym (links_userdata z l b r))))
      (marks_all l ok a am z b z_long (links z l b (ud r))
      (follow_ok l ok a am z b z_long (ud r) x h
      (quiet_whole (paint_quiet l ok a (ud r) 4 x (whole_long l ok a am z z_long d.whole) (omega (arith, h)) (λ t. t)) d.whole)
      (weaken_ok l ok a am z b z_long [] x (λ t n g. apart t n) d))))
    where
      apart : (t : Ref) → W k t → W (k + 1) t ⊎ (t ≡ ud r)
      apart t (p, (j, g, n, q)) = go (ℕ_discrete j k)
        where
          go : Dec (j ≡ k) → W (k + 1) t ⊎ (t ≡ ud r)
          go (yes m) =
              let same : ◌≡◌ {A = Item} (Userdata (record { 0 = t.at; 1 = t.gen })) (Userdata r) = sym q ∙ ap (λ (n : ℕ). item_in z (place l.queue n)) m ∙ i in
              inr (ref_same t (ud r) p (ap index_of same) (ap generation_of same))
          go (no m) = inl (p, (j, omega (arith, g, m), n, q))

  -- one item of the queue
  item_ok : (k : ℕ) (x : List ℕ) → k < length_of l.queue z → Ok l z b (KeptRoot l w b) (KeptRoot l w b) (W k) 0 0 0 [] x → Ok l z b (KeptRoot l w b) (KeptRoot l w b) (W (k + 1)) 0 0 0 [] (mark_queued l k x)
  unfolding mark_queued of_userdata
  item_ok k x h d =
      let r = s.only (item_in z (place l.queue k)) (k, h, refl) in
      let i = r.0 in
      let g = (handle_due l ok a am y w b long f none u c e i r.1 r.2).0 in
      let n : 3 ≤ colour_w l (ud (handle l u i)) x = up (colour_w l (ud (handle l u i)) z) (colour_w l (ud (handle l u i)) x) (due_gray l ok a am y w b long f none u c e (ud (handle l u i)) g) (never_falls o d.marked (ud (handle l u i))) in
      subst (λ t. Ok l z b (KeptRoot l w b) (KeptRoot l w b) (W (k + 1)) 0 0 0 [] (of_userdata (λ r. follow_due l r x) x t)) (sym (there ∙ r.3)) (due_ok k (handle l u i) x r.3 n d)
    where
      up : (p q : ℕ) → p ≡ 3 → p ≤ q → 3 ≤ q
      up p q m n = omega (arith, m, n)

      there : item_at l.queue k x ≡ item_in z (place l.queue k)
      there =
          item_found l.queue k x (subst (λ n. k < n) (sym (queue_length d.marked)) h)
          ∙ item_three (place l.queue k) x z (queue_word d.marked (place l.queue k) (omega arith)) (queue_word d.marked (place l.queue k + 1) (omega arith)) (queue_word d.marked (place l.queue k + 2) (omega arith))

  -- The queue is followed: nothing waits.
  pub queued_ok : Ok l z b (KeptRoot l w b) (KeptRoot l w b) None 0 0 0 [] (mark_tmudata l z)
  unfolding mark_tmudata
  queued_ok =
      weaken_ok l ok a am z b z_long [] _ (λ t n g. over n.1.0 (length_of l.queue z) n.1.1 n.1.2)
      (run_along (mark_queued l) (λ k x. Ok l z b (KeptRoot l w b) (KeptRoot l w b) (W k) 0 0 0 [] x) 0 (length_of l.queue z) z (omega arith) (λ k x h d. item_ok k x h d) (separated_ok l ok a am y w b long f none u c e))
    where
      over : (i n : ℕ) → n ≤ i → i < n → ⊥
      over i n g h = omega (arith, g, h)

  -- Then all gray: the invariant is kept, and nothing is gray.
  pub finished_ok : Ok l z b (KeptRoot l w b) (KeptRoot l w b) None 0 0 0 [] (finished l b u).1 × (length_of l.gray (finished l b u).1 ≡ 0)
  unfolding finished propagate_all
  finished_ok = (
    for_ok l ok a am z b z_long (rounds l) 0 0 0 (mark_tmudata l z) queued_ok,
    all_empty l ok a b (mark_tmudata l z) (whole_long l ok a am z z_long queued_ok.whole),
  )

  -- What is marked is exactly what a root or a due userdata reaches.
  pub finished_exact : (r : Ref) → (3 ≤ colour_w l r (finished l b u).1) ↔ Kept l w b r
  finished_exact r =
      let d = ok_exact l ok a am z b z_long (λ x m. m) finished_ok.1 finished_ok.0 r in
      let g = reach_back l ok a am y w b long f none u c e r in
      ((λ m. g.0 (d.0 m)), λ m. d.1 (g.1 m))
