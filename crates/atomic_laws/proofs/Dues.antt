-- After separation the gray userdata are exactly the due ones. `w` are the words before the collection, `u` those in which all
-- that the roots reach is marked and nothing is gray, `v` those after separation. Assumes nothing.
--     due_parts, due_whole       what it means that a slot is due
--     due_handle, handle_due     a slot that separation finds due, and a userdata that is due
--     shade_apart                a handle is due's and gray, or it has its colour
--     links_back, occupied_back, reach_back     links, occupied slots and what is reached are the same in w and v
--     separated_ok               the tri-colour invariant after separation
use Rattle.std.specs.Prelude.{◌≡◌, refl, Bool, true, false, cond, ◌⊎◌, ◌↔◌, ℕ, min, ◌+◌, ◌≤◌, ◌<◌, eqb, ltb, length, Option}
use Rattle.std.proofs.Common.{sym, ap, subst, ◌∙◌, true≢false, inl, inr, ⊎_elim, arith, eqb-true}
use mathlib.Core.List.Memᴰ
use mathlib.Core.List.{List, [], Memᴰ}
use Rattle.std.proofs.Math.Decide.{dec_lt, ℕ_discrete}
use Rattle.base.specs.Ways.{if_eq, eq_yes, le_no}
use Rattle.base.specs.Words.{at}
use Rattle.value.specs.declared.TableRef.{TableRef}
use Rattle.arena.specs.declared.Arena.{Arena}
use Rattle.arena.specs.Slots.{known, colour, gen, used}
use Rattle.value.specs.Values.{is_nil}
use Rattle.layout.specs.declared.Lay.{Lay}
use Rattle.layout.specs.Places.{WHITE}
use Rattle.lists.specs.declared.Item.{Item}
use Rattle.lists.specs.declared.Item.TheVariants.{Userdata}
use Rattle.lists.specs.Lists.{item_in, length_of, place}
use Rattle.record.specs.Fields.{body_at}
use Rattle.record.specs.Userdata.{ud_meta, ud_finalized}
use Rattle.laid.specs.Laid.{Laid}
use Rattle.mark.specs.Ops.{Ref, ref, thread, gray, grayagain}
use Rattle.mark.specs.Words.{arena_of, shade, colour_w}
use Rattle.modes.specs.Modes.{gc_method}
use Rattle.links.specs.Links.{links}
use Rattle.separate.specs.Separation.{is_due, separated}
use Rattle.link_laws.specs.Reads.{links_same}
use Rattle.mark_laws.specs.Apart.{Apart, Order, order}
use Rattle.mark_laws.specs.Colours.{shade_parts, shade_is, shade_past, shade_stale}
use Rattle.mark_laws.specs.Changes.{tops, counters, Up, marked_none}
use Rattle.mark_laws.specs.Stays.{below, table_stays, colour_rises}
use Rattle.mark_laws.specs.ModesStay.{gc_method_stays}
use Rattle.mark_laws.specs.Whites.{Listed}
use Rattle.room_laws.specs.Pends.{item_for}
use Rattle.room_laws.specs.Counts.{is_gray, is_dark}
use Rattle.room_laws.specs.Tallies.{Ample}
use Rattle.room_laws.specs.Frames.{Quiet, quiet_paid}
use Rattle.room_laws.proofs.Payments.{whole_long}
use Rattle.room_laws.proofs.Queues.{queue_count, held_list, held_mark, held_colour}
use Rattle.reach.specs.Reached.{Reach, Reach-root, Reach-step, Link, Occupied, Root, Reached}
use Rattle.reach.specs.Cycle.{AllWhite}
use Rattle.reach.specs.Tri.{reach_more, reach_occ, reach_map}
use Rattle.reach.specs.OnLists.{on_same, on_none}
use Rattle.reach.specs.Oks.{Again, Ok}
use Rattle.reach.specs.Exact.{None}
use Rattle.reach.proofs.Exact.{ok_exact}
use Rattle.atomic_laws.specs.Kept.{Due, KeptRoot}
use Rattle.atomic_laws.specs.Bodies.{Bodies, shade_held, flags_reads, marked_reads}
use Rattle.atomic_laws.specs.Separates.{Sorted, separated_sorted}

-- A slot is due if it has the white, is not finalized, and has a method;
pub due_parts : (l : Lay) (i c : ℕ) (w : List ℕ) → is_due l i c w ≡ true
    → (colour l.userdata i w ≡ c) × (ud_finalized (body_at l.userdata i) w ≡ false) × (is_nil (gc_method l (ud_meta (body_at l.userdata i) w) w) ≡ false)
unfolding is_due if_eq
due_parts l i c w e = go (eqb (colour l.userdata i w) c) (ud_finalized (body_at l.userdata i) w) (is_nil (gc_method l (ud_meta (body_at l.userdata i) w) w)) refl refl refl e
  where
    go : (x y z : Bool) → eqb (colour l.userdata i w) c ≡ x → ud_finalized (body_at l.userdata i) w ≡ y → is_nil (gc_method l (ud_meta (body_at l.userdata i) w) w) ≡ z
        → cond x (cond y false (cond z false true)) false ≡ true
        → (colour l.userdata i w ≡ c) × (ud_finalized (body_at l.userdata i) w ≡ false) × (is_nil (gc_method l (ud_meta (body_at l.userdata i) w) w) ≡ false)
    go true false false p q r t = (eqb-true (colour l.userdata i w) c p, q, r)
    go true false true p q r t = absurd (true≢false (sym t))
    go true true z p q r t = absurd (true≢false (sym t))
    go false y z p q r t = absurd (true≢false (sym t))

-- and if it has these it is.
pub due_whole : (l : Lay) (i c : ℕ) (w : List ℕ) → colour l.userdata i w ≡ c → ud_finalized (body_at l.userdata i) w ≡ false → is_nil (gc_method l (ud_meta (body_at l.userdata i) w) w) ≡ false → is_due l i c w ≡ true
unfolding is_due
due_whole l i c w e f g =
    sym (eq_yes (colour l.userdata i w) c (cond (ud_finalized (body_at l.userdata i) w) false (cond (is_nil (gc_method l (ud_meta (body_at l.userdata i) w) w)) false true)) false _ e refl)
    ∙ ap (λ (x : Bool). cond x false (cond (is_nil (gc_method l (ud_meta (body_at l.userdata i) w) w)) false true)) f
    ∙ ap (λ (x : Bool). cond x false true) g

-- the colour of a handle that names a slot
pub shade_colour : (a : Arena) (i g : ℕ) (w : List ℕ) → i < used a w → gen a i w ≡ g → shade a i g w ≡ colour a i w
unfolding shade
shade_colour a i g w h e =
    sym (le_no (used a w) i 0 (if_eq (gen a i w) g (colour a i w) 0) _ h refl)
    ∙ sym (eq_yes (gen a i w) g (colour a i w) 0 _ e refl)

module _ (l : Lay) (ok : Laid l) (a : Apart l) (am : Ample l) (y : Bodies l) (w b : List ℕ) (long : l.words ≤ length w) (f : AllWhite l w) (none : length_of l.queue w ≡ 0)
    (u : List ℕ) (c : Ok l w b (Root l w b) (Root l w b) None 0 0 0 [] u) (e : length_of l.gray u ≡ 0) where
  abbrev o : Order l
  o = order l ok a

  abbrev pub v : List ℕ
  v = (separated l u).1

  u_long : l.words ≤ length u
  u_long = whole_long l ok a am w long c.whole

  exact : (r : Ref) → (3 ≤ colour_w l r u) ↔ Reached l w b r
  exact = ok_exact l ok a am w b long (λ x m. m) e c

  same_white : at u WHITE ≡ at w WHITE
  same_white = c.marked.kept WHITE (counters (omega arith) (omega arith))

  still_none : length_of l.queue u ≡ 0
  still_none = ap (λ (n : ℕ). min n l.queue.room) (c.marked.kept l.queue.count (tops (omega (arith, queue_count l ok)) (omega (arith, queue_count l ok)))) ∙ none

  pub sorted : Sorted l (at u WHITE) u (used l.userdata u) v
  sorted = separated_sorted l ok a am y u u_long still_none

  -- what is read past the boundary is as before the collection
  same_mark : (i : ℕ) → ud_finalized (body_at l.userdata i) u ≡ ud_finalized (body_at l.userdata i) w
  same_mark i = ap (λ (x : ℕ). ltb 0 x) (below o c.marked (body_at l.userdata i + 6) (inr (omega (arith, o.past_userdata))))

  same_method : (i : ℕ) → is_nil (gc_method l (ud_meta (body_at l.userdata i) u) u) ≡ is_nil (gc_method l (ud_meta (body_at l.userdata i) w) w)
  same_method i =
      ap (λ (t : Option TableRef). is_nil (gc_method l t u)) (table_stays o c.marked (body_at l.userdata i) (inr (omega (arith, o.past_userdata))))
      ∙ ap is_nil (gc_method_stays o c.marked (ud_meta (body_at l.userdata i) w))

  -- A slot that separation finds due holds a due userdata.
  pub handle_due : (i : ℕ) → i < used l.userdata u → is_due l i (at u WHITE) u ≡ true → Due l w b (ref 4 i (gen l.userdata i u)) × (colour_w l (ref 4 i (gen l.userdata i u)) u ≡ at w WHITE)
  handle_due i h d =
      let p = due_parts l i (at u WHITE) u d in
      let x = ref 4 i (gen l.userdata i u) in
      let k : colour_w l x u ≡ at w WHITE = shade_colour l.userdata i (gen l.userdata i u) u h refl ∙ p.0 ∙ same_white in (
        record {
          userdata = refl;
          occupied = (c.inv.occ x).1 (one (colour_w l x u) (at w WHITE) k f.low);
          unfinalized = sym (same_mark i) ∙ p.1;
          method = sym (same_method i) ∙ p.2;
          unreached = λ m. high (colour_w l x u) (at w WHITE) ((exact x).1 m) k f.high;
        },
        k,
      )
    where
      one : (x n : ℕ) → x ≡ n → 1 ≤ n → 1 ≤ x
      one x n p q = omega (arith, p, q)

      high : (x n : ℕ) → 3 ≤ x → x ≡ n → n ≤ 2 → ⊥
      high x n p q r = omega (arith, p, q, r)

  -- A due userdata has the white still, and is found.
  pub due_handle : (x : Ref) → Due l w b x → (x.at < used l.userdata u) × (gen l.userdata x.at u ≡ x.gen) × (is_due l x.at (at u WHITE) u ≡ true)
  due_handle x d = go x.kind d.userdata refl
    where
      white : (r : Ref) → Occupied l w r → (Reached l w b r → ⊥) → colour_w l r u ≡ at w WHITE
      white r i n = up (colour_rises o c.marked r)
        where
          up : Up (colour_w l r w) (colour_w l r u) → colour_w l r u ≡ at w WHITE
          up (inl p) = p ∙ f.white r i
          up (inr p) = absurd (n ((exact r).0 p.2))

      go : (k : ℕ) → x.kind ≡ 4 → x.kind ≡ k → (x.at < used l.userdata u) × (gen l.userdata x.at u ≡ x.gen) × (is_due l x.at (at u WHITE) u ≡ true)
      go k p q =
          let r : x ≡ ref 4 x.at x.gen = ap (λ n. ref n x.at x.gen) p in
          let i : 1 ≤ shade l.userdata x.at x.gen u = subst (λ z. 1 ≤ colour_w l z u) r ((c.inv.occ x).0 d.occupied) in
          let s = shade_parts l.userdata x.at x.gen u i in
          let h : shade l.userdata x.at x.gen u ≡ at w WHITE = ap (λ z. colour_w l z u) (sym r) ∙ white x d.occupied d.unreached in (
            s.0,
            s.1,
            due_whole l x.at (at u WHITE) u (sym (shade_colour l.userdata x.at x.gen u s.0 s.1) ∙ h ∙ sym same_white) (same_mark x.at ∙ d.unfinalized) (same_method x.at ∙ d.method),
          )

  same_used : used l.userdata v ≡ used l.userdata u
  same_used = rw (sorted.held.kept (l.userdata.top + 1) (λ z. omega (arith, z, queue_count l ok, o.top_userdata)) (inl (omega (arith, o.top_userdata, o.header, a))) (omega (arith, o.top_userdata, o.header, a)))

  same_gen : (i : ℕ) → i < l.userdata.slots → gen l.userdata i v ≡ gen l.userdata i u
  same_gen i h = sorted.held.kept (l.userdata.base + l.userdata.slots + i) (λ z. omega (arith, z, queue_count l ok, o.header, a)) (inr (omega arith)) (omega (arith, h, a))

  -- After separation a handle is a due userdata's and is gray, or has its colour.
  pub shade_apart : (x : Ref) → (Due l w b x × (colour_w l x v ≡ 3)) ⊎ (colour_w l x v ≡ colour_w l x u)
  shade_apart x = go (ℕ_discrete x.kind 4)
    where
      at_slot : (i g : ℕ) → Dec (i < used l.userdata u) → Dec (gen l.userdata i u ≡ g) → (d : Bool) → is_due l i (at u WHITE) u ≡ d
          → (Due l w b (ref 4 i g) × (colour_w l (ref 4 i g) v ≡ 3)) ⊎ (colour_w l (ref 4 i g) v ≡ colour_w l (ref 4 i g) u)
      at_slot i g (no h) p d q = inr (shade_past l.userdata i g v (omega (arith, h, same_used)) ∙ sym (shade_past l.userdata i g u (omega (arith, h))))
      at_slot i g (yes h) (no p) d q = inr (shade_stale l.userdata i g v (λ z. p (sym (same_gen i (omega (arith, h))) ∙ z)) ∙ sym (shade_stale l.userdata i g u p))
      at_slot i g (yes h) (yes p) true q =
          let n : at v (l.userdata.base + i) ≡ 3 = sorted.grayed i h q in
          inl (
            subst (λ k. Due l w b (ref 4 i k)) p (handle_due i h q).0,
            shade_is l.userdata i g v (omega (arith, h, same_used)) (same_gen i (omega (arith, h)) ∙ p) (omega (arith, n)) ∙ n,
          )
      at_slot i g (yes h) (yes p) false q =
          inr (
          shade_colour l.userdata i g v (omega (arith, h, same_used)) (same_gen i (omega (arith, h)) ∙ p)
          ∙ ap known (sorted.others i (omega (arith, h)) (inr q))
          ∙ sym (shade_colour l.userdata i g u h p)
          )

      go : Dec (x.kind ≡ 4) → (Due l w b x × (colour_w l x v ≡ 3)) ⊎ (colour_w l x v ≡ colour_w l x u)
      go (no d) = inr (shade_held l ok a sorted.held x d)
      go (yes d) =
          let r : x ≡ ref 4 x.at x.gen = ap (λ n. ref n x.at x.gen) d in
          subst (λ z. (Due l w b z × (colour_w l z v ≡ 3)) ⊎ (colour_w l z v ≡ colour_w l z u)) (sym r)
          (at_slot x.at x.gen (dec_lt x.at (used l.userdata u)) (ℕ_discrete (gen l.userdata x.at u) x.gen) (is_due l x.at (at u WHITE) u) refl)

  -- A due userdata is gray then.
  pub due_gray : (x : Ref) → Due l w b x → colour_w l x v ≡ 3
  due_gray x d =
      let h = due_handle x d in
      let r : x ≡ ref 4 x.at x.gen = ap (λ n. ref n x.at x.gen) d.userdata in
      let n : at v (l.userdata.base + x.at) ≡ 3 = sorted.grayed x.at h.0 h.2 in
      ap (λ z. colour_w l z v) r
      ∙ shade_is l.userdata x.at x.gen v (omega (arith, h.0, same_used)) (same_gen x.at (omega (arith, h.0)) ∙ h.1) (omega (arith, n))
      ∙ n

  -- Occupied slots and their links are the same before the collection and after separation,
  pub occupied_back : (x : Ref) → Occupied l w x ↔ Occupied l v x
  occupied_back x = (
    (λ h. go ((c.inv.occ x).0 h) (shade_apart x)),
    λ h. ⊎_elim (λ d. d.0.occupied) (λ p. (c.inv.occ x).1 (subst (λ n. 1 ≤ n) p h)) (shade_apart x),
  )
    where
      go : 1 ≤ colour_w l x u → (Due l w b x × (colour_w l x v ≡ 3)) ⊎ (colour_w l x v ≡ colour_w l x u) → 1 ≤ colour_w l x v
      go h (inl d) = subst (λ n. 1 ≤ n) (sym d.1) (omega arith)
      go h (inr p) = subst (λ n. 1 ≤ n) (sym p) h

  links_back : (x : Ref) → Occupied l w x → links v l b x ≡ links w l b x
  links_back x h =
      let s = shade_parts (arena_of l x.kind) x.at x.gen w h in
      let i : x.at < (arena_of l x.kind).slots = omega (arith, s.0) in
      links_same (flags_reads l ok a y sorted.held (omega arith) sorted.flags) b x i ∙ links_same (marked_reads l ok a c.marked) b x i

  -- and so is what is reached.
  pub reach_back : {R : Ref → Type 0} (x : Ref) → Reach (Link l v b) R (Occupied l v) x ↔ Reach (Link l w b) R (Occupied l w) x
  reach_back x = (
    (λ h. reach_map (λ i k. (occupied_back i).1 k) (λ i j k m. subst (λ rs. Memᴰ j rs) (links_back i ((occupied_back i).1 k)) m) h),
    λ h. reach_map (λ i k. (occupied_back i).0 k) (λ i j k m. subst (λ rs. Memᴰ j rs) (sym (links_back i k)) m) h,
  )

  -- what a root reaches, a root or a due userdata does
  kept_more : (x : Ref) → Reached l w b x → Reach (Link l v b) (KeptRoot l w b) (Occupied l v) x
  kept_more x h = (reach_back x).1 (reach_more (λ i m. inl m) h)

  quiet : Quiet l u v
  quiet = record {
    long = sorted.held.long;
    mark = held_mark l ok a sorted.held;
    lists = held_list l ok a sorted.held;
    dark = λ k d i h. ap is_dark (held_colour l ok a sorted.held k i (λ z. subst (λ n. Listed n) z d) h);
    grays = λ i h. ap is_gray (held_colour l ok a sorted.held 1 i (omega arith) h);
  }

  -- A userdata that is queued from place k on.
  abbrev pub Waiting : ℕ → Ref → Type 0
  Waiting k x = (x.kind ≡ 4) × ((i : ℕ) × (k ≤ i) × (i < length_of l.queue v) × (item_in v (place l.queue i) ≡ Userdata (record { 0 = x.at; 1 = x.gen })))

  -- a due userdata waits
  due_waits : (x : Ref) → Due l w b x → Waiting 0 x
  due_waits x d =
      let h = due_handle x d in
      let q = sorted.inside x.at h.0 h.2 in
      (d.userdata, (q.0, omega arith, q.1, q.2 ∙ ap (λ (g : ℕ). Userdata (record { 0 = x.at; 1 = g })) h.1))

  -- The tri-colour invariant after separation: the due are gray, and not listed.
  pub separated_ok : Ok l v b (KeptRoot l w b) (KeptRoot l w b) (Waiting 0) 0 0 0 [] v
  separated_ok = record {
    marked = marked_none;
    whole = record { long = refl; mark = refl; paid = quiet_paid quiet c.whole.paid };
    inv = record {
      sound = λ x m. ⊎_elim (λ d. Reach-root (inr d.0) ((occupied_back x).0 d.0.occupied)) (λ p. kept_more x ((exact x).0 (subst (λ n. 3 ≤ n) p m))) (shade_apart x);
      pend = λ x m k. absurd (Memᴰ.not-nil m);
      closed = λ x m. ⊎_elim (λ d. inl d.1) (λ p. inr (λ z h k. inr (follows x z (subst (λ n. 3 ≤ n) p m) h k))) (shade_apart x);
      roots = λ x m k. inr (⊎_elim (λ r. rises x ((exact x).1 (Reach-root r ((occupied_back x).1 k)))) (λ d. three (colour_w l x v) (due_gray x d)) m);
      occ = λ x. ((λ k. k), (λ k. k));
    };
    listed = λ x g. ⊎_elim (λ d. inr (due_waits x d.0)) (λ p. absurd (none_gray x (sym p ∙ g))) (shade_apart x);
    todo = λ x s i. absurd (on_none l.gray (item_for x) u e (on_same l.gray (item_for x) v u (λ q h. sym (held_list l ok a sorted.held gray q h)) i));
    kept = λ x i. again x (c.kept x (on_same l.grayagain x v u (λ q h. sym (held_list l ok a sorted.held grayagain q h)) i));
  }
    where
      three : (n : ℕ) → n ≡ 3 → 3 ≤ n
      three n p = omega (arith, p)

      none_gray : (x : Ref) → colour_w l x u ≡ 3 → ⊥
      none_gray x g = ⊎_elim (λ i. on_none l.gray (item_for x) u e i.1) (λ i. i) (c.listed x g)

      rises : (x : Ref) → 3 ≤ colour_w l x u → 3 ≤ colour_w l x v
      rises x m = ⊎_elim (λ d. three (colour_w l x v) d.1) (λ p. subst (λ n. 3 ≤ n) (sym p) m) (shade_apart x)

      -- a link of a slot that is reached leads to one that is reached
      follows : (x z : Ref) → 3 ≤ colour_w l x u → Link l v b x z → Occupied l v z → 3 ≤ colour_w l z v
      follows x z m h k =
          let r = (exact x).0 m in
          rises z ((exact z).1 (Reach-step r (subst (λ rs. Memᴰ z rs) (links_back x (reach_occ r)) h) ((occupied_back z).1 k)))

      again : (x : Item) → Again l x u → Again l x v
      again x (inl p) = inl p
      again x (inr (r, p, h)) = inr (r, p, subst (λ n. 4 ≤ n) (sym (shade_held l ok a sorted.held (thread r) (omega arith))) h)
