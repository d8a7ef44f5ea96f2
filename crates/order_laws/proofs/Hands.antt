-- The queue is handed out from its end: each item once, the method looked up then. The definitions are those of specs/Hands.antt.
-- Assumes nothing.
--     finalize_hands                what Finalize hands out, for any words
use Rattle.std.specs.Prelude.{◌≡◌, Bool, ◌⊎◌, ◌≢◌, length, Some, None, Option}
use Rattle.std.proofs.Math.Path.{refl, ap, subst}
use Rattle.std.proofs.Common.{sym, ◌∙◌, inl, inr}
use Rattle.std.proofs.Math.Bool.{true, false, cond}
use mathlib.Core.List.{List, [], ◌∷◌}
use Prim.Native.Nat.{ℕ, zero, suc, min, ◌+◌, ◌-◌, ◌*◌, ◌≤◌, ◌<◌}
use native.Mathlib.Omega.{arith}
use Rattle.std.proofs.Math.ListN.{length-set}
use Rattle.std.proofs.Math.Seq.{get_or-set_other}
use Rattle.base.specs.Ways.{if_eq}
use Rattle.base.specs.Words.{at, put}
use Rattle.base.specs.Heap.{Heap}
use Rattle.value.specs.declared.TableRef.{TableRef}
use Rattle.arena.specs.Slots.{named}
use Rattle.value.specs.declared.UdRef.{UdRef}
use Rattle.value.specs.declared.Value.{Value}
use Rattle.value.specs.declared.Value.TheVariants.{Nil}
use Rattle.value.specs.Values.{is_nil}
use Rattle.layout.specs.declared.Lay.{Lay}
use Rattle.layout.specs.Places.{PHASE, ESTIMATE, THRESHOLD}
use Rattle.lists.specs.declared.Item.{Item}
use Rattle.lists.specs.declared.Item.TheVariants.{Table, Function, Userdata, Thread, Main, Unknown}
use Rattle.lists.specs.Lists.{item_in, length_of, place, item_at, taken, pop}
use Rattle.lists.proofs.Laws.{item_three, item_found, pop_some, pop_length, pop_long, pop_kept, taken_kept}
use Rattle.record.specs.Fields.{body_at}
use Rattle.record.specs.Userdata.{ud_meta}
use Rattle.laid.specs.Laid.{Laid, queue_room_lem}
use Rattle.mark.specs.Ops.{ref}
use Rattle.mark.specs.Words.{arena_of, shade}
use Rattle.modes.specs.Modes.{gc_method}
use Rattle.step.specs.declared.Single.{Single}
use Rattle.step.specs.declared.Single.TheVariants.{Cost, Out}
use Rattle.step.specs.Step.{in_bytes, method_of, handed_out, lower_estimate, finalize, finalize_item, finalized, finalize_step, single_step}
use Rattle.link_laws.specs.Agrees.{Agree, table_same}
use Rattle.link_laws.specs.Reads.{Reads, gc_method_same}
use Rattle.mark_laws.specs.Apart.{Apart, Order, order, arena_header, arena_lists}
use Rattle.mark_laws.specs.Colours.{named_shade}
use Rattle.room_laws.proofs.Queues.{queue_count}
use Rattle.reach.specs.Shades.{shade_alike}
use Rattle.sweep_laws.proofs.Finalizes.{finalize_step_lem}
use Rattle.order_laws.specs.Hands.{back_items, offered, handable, told, outs}

module _ (l : Lay) (ok : Laid l) (a : Apart l) where
  abbrev o : Order l
  o = order l ok a

  -- What a step in Finalize leaves: all but the words of pacing, the phase and the queue.
  abbrev Far : ℕ → Type 0
  Far q = (q < 53) ⊎ (((73 ≤ q) × (q < l.queue.base)) ⊎ (l.boundary ≤ q))

  abbrev Calm : List ℕ → List ℕ → Type 0
  Calm w u = (q : ℕ) → Far q → at u q ≡ at w q

  calm_shade : (w u : List ℕ) → Calm w u → (k i g : ℕ) → k ≤ 5 → shade (arena_of l k) i g u ≡ shade (arena_of l k) i g w
  calm_shade w u s k i g h =
      shade_alike l ok a w u (ref k i g) (ap (λ (n : ℕ). min n (arena_of l k).slots) (s ((arena_of l k).top + 1) (top k h)))
      (λ j. s ((arena_of l k).base + (arena_of l k).slots + i) (inr (inl (omega (arith, arena_header l o k h), omega (arith, j, arena_lists l o k h, a)))))
      (λ j. s ((arena_of l k).base + i) (inr (inl (omega (arith, arena_header l o k h), omega (arith, j, arena_lists l o k h, a)))))
    where
      top : (k : ℕ) → k ≤ 5 → Far ((arena_of l k).top + 1)
      top zero h = inr (inl (omega (arith, o.top_strings), omega (arith, o.top_strings, o.header, a)))
      top (suc zero) h = inr (inl (omega (arith, o.top_tables), omega (arith, o.top_tables, o.header, a)))
      top (suc (suc zero)) h = inr (inl (omega (arith, o.top_functions), omega (arith, o.top_functions, o.header, a)))
      top (suc (suc (suc zero))) h = inr (inl (omega (arith, o.top_upvalues), omega (arith, o.top_upvalues, o.header, a)))
      top (suc (suc (suc (suc zero)))) h = inr (inl (omega (arith, o.top_userdata), omega (arith, o.top_userdata, o.header, a)))
      top (suc (suc (suc (suc (suc zero))))) h = inr (inl (omega (arith, o.top_threads), omega (arith, o.top_threads, o.header, a)))
      top (suc (suc (suc (suc (suc (suc k)))))) h = absurd (let z : ⊥ = omega (arith, h) in z)

  calm_named : (w u : List ℕ) → Calm w u → (k i g : ℕ) → k ≤ 5 → named (arena_of l k) i g u ≡ named (arena_of l k) i g w
  calm_named w u s k i g h =
      named_shade (arena_of l k) i g u ∙ ap (λ (c : ℕ). if_eq c 0 None (Some i)) (calm_shade w u s k i g h) ∙ sym (named_shade (arena_of l k) i g w)

  -- So a method is what it was.
  calm_reads : (w u : List ℕ) → Calm w u → Reads l w u
  calm_reads w u s = record {
    header = record { word = λ q g h. s q (inl (omega (arith, h))) };
    protos = record { word = λ q g h. s q (inr (inr (omega (arith, g, o.past_protos)))) };
    strings = λ i e. record { word = λ q g h. s q (inr (inr (omega (arith, g, o.past_strings)))) };
    tables = λ i e. record { word = λ q g h. s q (inr (inr (omega (arith, g, o.past_tables)))) };
    functions = λ i e. record { word = λ q g h. s q (inr (inr (omega (arith, g, o.past_functions)))) };
    upvalues = λ i e. record { word = λ q g h. s q (inr (inr (omega (arith, g, o.past_upvalues)))) };
    userdata = λ i e. record { word = λ q g h. s q (inr (inr (omega (arith, g, o.past_userdata)))) };
    threads = λ i e. record { word = λ q g h. s q (inr (inr (omega (arith, g, o.past_threads)))) };
    string_names = λ i g. calm_named w u s 0 i g (omega arith);
    table_names_lem = λ i g. calm_named w u s 1 i g (omega arith);
  }

  method_same : (w u : List ℕ) → Calm w u → (r : UdRef) → method_of l r u ≡ method_of l r w
  unfolding method_of
  method_same w u s r =
      let first : Agree w u (body_at l.userdata r.0) 2 = record { word = λ q g h. s q (inr (inr (omega (arith, g, o.past_userdata)))) } in
      ap (λ (c : ℕ). if_eq c 0 Nil (gc_method l (ud_meta (body_at l.userdata r.0) u) u)) (calm_shade w u s 4 r.0 r.1 (omega arith))
      ∙ ap (λ (t : Option TableRef). if_eq (shade l.userdata r.0 r.1 w) 0 Nil (gc_method l t u)) (table_same first (body_at l.userdata r.0) (omega arith) (omega arith))
      ∙ ap (λ (v : Value). if_eq (shade l.userdata r.0 r.1 w) 0 Nil v) (gc_method_same (calm_reads w u s) (ud_meta (body_at l.userdata r.0) w))

  offered_same : (w u : List ℕ) → Calm w u → (x : Item) (xs : List UdRef) → offered l u x xs ≡ offered l w x xs
  offered_same w u s (Userdata r) xs = ap (λ (v : Value). cond (is_nil v) xs (r ∷ xs)) (method_same w u s r)
  offered_same w u s (Table r) xs = refl
  offered_same w u s (Function r) xs = refl
  offered_same w u s (Thread r) xs = refl
  offered_same w u s Main xs = refl
  offered_same w u s Unknown xs = refl

  handable_same : (w u : List ℕ) → Calm w u → (xs : List Item) → handable l u xs ≡ handable l w xs
  unfolding handable
  handable_same w u s [] = refl
  handable_same w u s (x ∷ xs) = offered_same w u s x (handable l u xs) ∙ ap (offered l w x) (handable_same w u s xs)

  -- the items that are left stay
  items_same : (n : ℕ) (w u : List ℕ) → ((i : ℕ) → i < n → item_in u (place l.queue i) ≡ item_in w (place l.queue i)) → back_items l n u ≡ back_items l n w
  unfolding back_items
  items_same zero w u s = refl
  items_same (suc n) w u s = ap (λ (x : Item). x ∷ back_items l n u) (s n (omega arith)) ∙ ap (λ (xs : List Item). item_in w (place l.queue n) ∷ xs) (items_same n w u (λ i f. s i (omega (arith, f))))

  -- the definitions of specs/Hands.antt, for these
  abbrev Turn : (x : Item) (w : List ℕ) (y : Single × List ℕ) → Type 0
  Turn = Rattle.order_laws.specs.Hands.Turn l ok a

  off : (q p : ℕ) → (q < 59) ⊎ (62 ≤ q) → 59 ≤ p → p < 62 → q ≢ p
  off q p (inl f) g h e = omega (arith, e, f, g)
  off q p (inr f) g h e = omega (arith, e, f, h)

  item_turn : (x : Item) (w : List ℕ) → Turn x w (finalize_item l x w)
  unfolding finalize_item finalize
  item_turn (Userdata r) w = go (is_nil (method_of l r w)) refl
    where
      go : (d : Bool) → is_nil (method_of l r w) ≡ d → Turn (Userdata r) w (cond d (Cost 100, lower_estimate w) (Out r (method_of l r w), handed_out w))
      go true e = record {
        long = length-set w ESTIMATE _;
        word = λ q f. get_or-set_other w ESTIMATE q _ 0 (off q ESTIMATE f (omega arith) (omega arith));
        says = λ xs. ap (λ (d : Bool). cond d xs (r ∷ xs)) (sym e);
      }
      go false e = record {
        long = length-set (put THRESHOLD _ w) (THRESHOLD + 1) _ ∙ length-set w THRESHOLD _;
        word = λ q f. get_or-set_other (put THRESHOLD _ w) (THRESHOLD + 1) q _ 0 (off q (THRESHOLD + 1) f (omega arith) (omega arith)) ∙ get_or-set_other w THRESHOLD q _ 0 (off q THRESHOLD f (omega arith) (omega arith));
        says = λ xs. ap (λ (d : Bool). cond d xs (r ∷ xs)) (sym e);
      }
  item_turn (Table r) w = record { long = refl; word = λ q f. refl; says = λ xs. refl }
  item_turn (Function r) w = record { long = refl; word = λ q f. refl; says = λ xs. refl }
  item_turn (Thread r) w = record { long = refl; word = λ q f. refl; says = λ xs. refl }
  item_turn Main w = record { long = refl; word = λ q f. refl; says = λ xs. refl }
  item_turn Unknown w = record { long = refl; word = λ q f. refl; says = λ xs. refl }

  abbrev Stepped : (n : ℕ) (h g : Heap) (x : Single) → Type 0
  Stepped = Rattle.order_laws.specs.Hands.Stepped l ok a

  hand_step : (n : ℕ) (h : Heap) → l.words ≤ length h.words → at h.words PHASE ≡ 4 → length_of l.queue h.words ≡ n + 1 → Stepped n h (single_step l h).1 (single_step l h).0
  unfolding finalize_step
  hand_step n h long p e = subst (λ (y : Single × Heap). Stepped n h y.1 y.0) (sym is) (record {
    long = t.long ∙ p_long;
    phase = t.word PHASE (inl (omega arith)) ∙ kept PHASE (λ z. omega (arith, z)) (inl (omega (arith, o.header, a))) ∙ p;
    count = ap (λ (m : ℕ). min m l.queue.room) (t.word l.queue.count (inr (omega (arith, queue_count l ok)))) ∙ ap (length_of l.queue) (sym (ap (λ (y : Option Item × List ℕ). y.1) some)) ∙ pop_length l.queue w (queue_room_lem l w ok long) ∙ minus (length_of l.queue w) e;
    items = λ i f. left i f;
    calm = calm;
    says = λ xs. t.says xs ∙ offered_same w w' calm' x xs ∙ ap (λ (y : Item). offered l w y xs) item;
  })
    where
      w : List ℕ
      w = h.words

      w' : List ℕ
      w' = taken l.queue (length_of l.queue h.words - 1) h.words

      x : Item
      x = item_at l.queue (length_of l.queue h.words - 1) h.words

      not_zero : length_of l.queue h.words ≢ 0
      not_zero z = one (length_of l.queue h.words) e z
        where
          one : (m : ℕ) → m ≡ n + 1 → m ≡ 0 → ⊥
          one m e z = omega (arith, e, z)

      minus : (m : ℕ) → m ≡ n + 1 → m - 1 ≡ n
      minus m e = omega (arith, e)

      some : pop l.queue h.words ≡ (Some (item_at l.queue (length_of l.queue h.words - 1) h.words), taken l.queue (length_of l.queue h.words - 1) h.words)
      some = pop_some l.queue h.words not_zero

      is : single_step l h ≡ in_bytes (finalize_item l (item_at l.queue (length_of l.queue h.words - 1) h.words) (taken l.queue (length_of l.queue h.words - 1) h.words)) h.bytes
      is = finalize_step_lem l h p ∙ ap (λ (y : Option Item × List ℕ). in_bytes (finalized l y) h.bytes) some

      t : Turn (item_at l.queue (length_of l.queue h.words - 1) h.words) (taken l.queue (length_of l.queue h.words - 1) h.words)
          (finalize_item l (item_at l.queue (length_of l.queue h.words - 1) h.words) (taken l.queue (length_of l.queue h.words - 1) h.words))
      t = item_turn x w'

      p_long : length w' ≡ length w
      p_long = ap (λ (y : Option Item × List ℕ). length y.1) (sym some) ∙ pop_long l.queue w (queue_room_lem l w ok long)

      kept : (q : ℕ) → q ≢ 72 → (q < l.queue.base) ⊎ (l.queue.base + 3 * l.queue.room ≤ q) → at w' q ≡ at w q
      kept q d g = ap (λ (y : Option Item × List ℕ). at y.1 q) (sym some) ∙ pop_kept l.queue w (queue_room_lem l w ok long) q (λ z. d (z ∙ queue_count l ok)) g

      calm' : Calm w w'
      calm' q (inl f) = kept q (λ z. omega (arith, z, f)) (inl (omega (arith, f, o.header, a)))
      calm' q (inr (inl f)) = kept q (λ z. omega (arith, z, f.0)) (inl f.1)
      calm' q (inr (inr f)) = kept q (λ z. omega (arith, z, f, o.header, a)) (inr (omega (arith, f, a)))

      calm : Calm w (finalize_item l (item_at l.queue (length_of l.queue h.words - 1) h.words) (taken l.queue (length_of l.queue h.words - 1) h.words)).1
      calm q f = t.word q (far f) ∙ calm' q f
        where
          far : Far q → (q < 59) ⊎ (62 ≤ q)
          far (inl f) = inl (omega (arith, f))
          far (inr (inl f)) = inr (omega (arith, f.0))
          far (inr (inr f)) = inr (omega (arith, f, o.header, a))

      -- the last item
      item : item_at l.queue (length_of l.queue h.words - 1) h.words ≡ item_in h.words (place l.queue n)
      item = item_found l.queue (length_of l.queue w - 1) w (less (length_of l.queue w) not_zero) ∙ ap (λ (m : ℕ). item_in w (place l.queue m)) (minus (length_of l.queue w) e)
        where
          less : (m : ℕ) → m ≢ 0 → m - 1 < m
          less m d = omega (arith, d)

      -- those before it
      part : (i : ℕ) → i < n → (q : ℕ) → place l.queue i ≤ q → q < place l.queue i + 3 → at w' q ≡ at w q
      part i f q g k = taken_kept l.queue (length_of l.queue w - 1) w (queue_room_lem l w ok long) (omega (arith, not_zero)) q (λ z. omega (arith, z, g, queue_count l ok, o.header, a)) (inl (before (length_of l.queue w) e))
        where
          before : (m : ℕ) → m ≡ n + 1 → q < l.queue.base + 3 * (m - 1)
          before m e = omega (arith, e, f, k)

      left : (i : ℕ) → i < n → item_in (finalize_item l (item_at l.queue (length_of l.queue h.words - 1) h.words) (taken l.queue (length_of l.queue h.words - 1) h.words)).1 (place l.queue i) ≡ item_in w (place l.queue i)
      left i f =
          item_three (place l.queue i) (finalize_item l (item_at l.queue (length_of l.queue h.words - 1) h.words) (taken l.queue (length_of l.queue h.words - 1) h.words)).1 w
          (t.word (place l.queue i) (inr (omega (arith, o.header, a))) ∙ part i f (place l.queue i) (omega arith) (omega arith))
          (t.word (place l.queue i + 1) (inr (omega (arith, o.header, a))) ∙ part i f (place l.queue i + 1) (omega arith) (omega arith))
          (t.word (place l.queue i + 2) (inr (omega (arith, o.header, a))) ∙ part i f (place l.queue i + 2) (omega arith) (omega arith))

  -- Finalize hands out the queue from its end, each item once, if its metatable has a method then.
  pub finalize_hands : (n : ℕ) (h : Heap) → l.words ≤ length h.words → at h.words PHASE ≡ 4 → length_of l.queue h.words ≡ n → outs l n h ≡ handable l h.words (back_items l n h.words)
  unfolding outs handable back_items
  finalize_hands zero h long p e = refl
  finalize_hands (suc n) h long p e =
      let q : suc n ≡ n + 1 = omega arith in
      let s = hand_step n h long p (e ∙ q) in
      ap (told (single_step l h).0) (finalize_hands n (single_step l h).1 (omega (arith, long, s.long)) s.phase s.count)
      ∙ s.says (handable l (single_step l h).1.words (back_items l n (single_step l h).1.words))
      ∙ ap (offered l h.words (item_in h.words (place l.queue n)))
      (handable_same h.words (single_step l h).1.words s.calm (back_items l n (single_step l h).1.words) ∙ ap (handable l h.words) (items_same n h.words (single_step l h).1.words s.items))
