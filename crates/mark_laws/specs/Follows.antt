-- Each definition of marking marks exactly the links that `links` lists, read from the words before any marking: `w` are
-- those, `u` the words that the definition is given. Assumes nothing.
--     value_links_lem, table_link_lem           a value, a handle that may be missing
--     loop_links                        a loop whose turns mark lists marks the lists joined
--     values_links_lem, upvalues_links      runs of values and of upvalues
--     userdata_links_lem, upvalue_links_lem     the kinds that are followed at once
use Rattle.std.specs.Prelude.{◌≡◌, Bool, true, false, List, [], ◌∷◌, eqb, length, Some, None, Option}
use Rattle.std.proofs.Math.Path.{refl, sym, ap}
use Rattle.std.proofs.Common.{◌∙◌, inr}
use Rattle.std.proofs.Math.Bool.{cond}
use Prim.Native.Nat.{ℕ, zero, suc, ◌+◌, ◌-◌, ◌*◌, ◌≤◌, ◌<◌}
use native.Mathlib.Omega.{arith}
use Rattle.base.specs.Loop.{rounds, run}
use Rattle.value.specs.declared.TableRef.{TableRef}
use Rattle.value.specs.declared.UpvalRef.{UpvalRef}
use Rattle.value.specs.declared.UdRef.{UdRef}
use Rattle.value.specs.declared.Value.{Value}
use Rattle.value.specs.declared.Value.TheVariants.{Nil, Boolean, Light, Number, Str, Table, Function, Userdata, Thread}
use Rattle.value.specs.Values.{value_at}
use Rattle.layout.specs.declared.Lay.{Lay}
use Rattle.record.specs.Fields.{body_at, upval_at}
use Rattle.record.specs.Userdata.{ud_meta, ud_env}
use Rattle.run_record.specs.Upvalues.{is_closed, upvalue_value}
use Rattle.laid.specs.Laid.{Laid}
use Rattle.mark.specs.Ops.{Ref, upval, ud}
use Rattle.mark.specs.Words.{colour_w, paint_w, ops}
use Rattle.mark.specs.Marking.{mark_table_or, follow_userdata, mark_value, mark_value_at, follow_upvalue, mark_nth, mark_values, mark_upvalue_at, mark_nth_upvalue, mark_upvalues}
use Rattle.links.specs.Links.{value_links, table_link, each, upvalue_links, userdata_links}
use Rattle.mark_laws.specs.Apart.{Apart, Order, order}
use Rattle.mark_laws.specs.Moves.{still, paint_moves}
use Rattle.mark_laws.specs.Changes.{Marked, marked_then, moves_marked}
use Rattle.mark_laws.specs.Stays.{Safe, safe_in, below, value_stays, table_stays, upval_stays}
use Rattle.mark_laws.specs.Marks.{marks, marks_append, marks_marked}

-- A value is marked as what it refers to.
pub value_links_lem : (l : Lay) (v : Value) (u : List ℕ) → mark_value (ops l) l v u ≡ marks l (value_links v) u
unfolding mark_value marks
value_links_lem l Nil u = refl
value_links_lem l (Boolean x) u = refl
value_links_lem l (Light x) u = refl
value_links_lem l (Number x) u = refl
value_links_lem l (Str r) u = refl
value_links_lem l (Table r) u = refl
value_links_lem l (Function r) u = refl
value_links_lem l (Userdata r) u = refl
value_links_lem l (Thread r) u = refl

-- A table's handle that may be missing is marked as the link that it gives.
pub table_link_lem : (l : Lay) (t : Option TableRef) (u : List ℕ) → mark_table_or (ops l) t u ≡ marks l (table_link t) u
unfolding mark_table_or marks
table_link_lem l (Some r) u = refl
table_link_lem l None u = refl

module _ (l : Lay) (ok : Laid l) (a : Apart l) (w : List ℕ) (long : l.words ≤ length w) where
  abbrev o : Order l
  o = order l ok a

  -- A loop whose turn i marks the list g i, whatever was marked before, marks the lists joined.
  module _ (step : ℕ → List ℕ → List ℕ) (g : ℕ → List Ref) (e : ℕ)
      (turn : (i : ℕ) → i < e → (u : List ℕ) → Marked l w u → step i u ≡ marks l (g i) u) where
    rounds_links : (n i : ℕ) → i + n ≤ e → (u : List ℕ) → Marked l w u → rounds step n i u ≡ marks l (each g n i) u
    unfolding rounds each marks
    rounds_links zero i h u m = refl
    rounds_links (suc n) i h u m =
        ap (rounds step n (i + 1)) (turn i (omega arith) u m)
        ∙ rounds_links n (i + 1) (omega arith) (marks l (g i) u) (marks_marked l ok a (g i) long m)
        ∙ sym (marks_append l (g i) (each g n (i + 1)) u)

    -- The whole loop, from turn 0 to the last.
    pub loop_links : (u : List ℕ) → Marked l w u → run step 0 e u ≡ marks l (each g e 0) u
    unfolding run
    loop_links u m =
        let q : e - 0 ≡ e = omega arith in
        ap (λ (n : ℕ). rounds step n 0 u) q ∙ rounds_links e 0 (omega arith) u m

  module _ {u : List ℕ} (m : Marked l w u) where
    -- the value in words p to p + 2
    pub value_at_links : (p : ℕ) → Safe l p 3 → mark_value_at (ops l) l p u ≡ marks l (value_links (value_at w p)) u
    unfolding mark_value_at
    value_at_links p h = value_links_lem l (value_at u p) u ∙ ap (λ (v : Value). marks l (value_links v) u) (value_stays o m p h)

    -- the upvalue whose handle is in words p and p + 1
    pub upvalue_at_links : (p : ℕ) → Safe l p 2 → mark_upvalue_at (ops l) l p u ≡ marks l (upval (upval_at w p) ∷ []) u
    unfolding mark_upvalue_at marks
    upvalue_at_links p h = ap (λ (r : UpvalRef). marks l (upval r ∷ []) u) (upval_stays o m p h)

  -- n values from p on
  pub values_links_lem : (p n : ℕ) → Safe l p (3 * n) → (u : List ℕ) → Marked l w u
      → mark_values (ops l) l p n u ≡ marks l (each (λ i. value_links (value_at w (p + 3 * i))) n 0) u
  unfolding mark_values
  values_links_lem p n h u m =
      loop_links (mark_nth (ops l) l p) (λ i. value_links (value_at w (p + 3 * i))) n
      (λ i f t k. value_at_links k (p + 3 * i) (safe_in l p (3 * n) h (p + 3 * i) 3 (omega arith) (omega arith)))
      u m

  -- n handles of upvalues from p on
  pub upvalues_links : (p n : ℕ) → Safe l p (2 * n) → (u : List ℕ) → Marked l w u
      → mark_upvalues (ops l) l p n u ≡ marks l (each (λ i. upval (upval_at w (p + 2 * i)) ∷ []) n 0) u
  unfolding mark_upvalues
  upvalues_links p n h u m =
      loop_links (mark_nth_upvalue (ops l) l p) (λ i. upval (upval_at w (p + 2 * i)) ∷ []) n
      (λ i f t k. upvalue_at_links k (p + 2 * i) (safe_in l p (2 * n) h (p + 2 * i) 2 (omega arith) (omega arith)))
      u m

  -- A userdata is painted black, and its links are marked.
  pub userdata_links_lem : (r : UdRef) (u : List ℕ) → Marked l w u
      → follow_userdata (ops l) l r u ≡ marks l (userdata_links w (body_at l.userdata r.0)) (paint_w l (ud r) 4 u)
  unfolding follow_userdata userdata_links
  userdata_links_lem r u m =
      table_link_lem l (ud_env p u) (mark_table_or (ops l) (ud_meta p u) (paint_w l (ud r) 4 u))
      ∙ ap (marks l (table_link (ud_env p u))) (table_link_lem l (ud_meta p u) (paint_w l (ud r) 4 u))
      ∙ ap (λ (t : Option TableRef). marks l (table_link t) (marks l (table_link (ud_meta p u)) (paint_w l (ud r) 4 u))) (table_stays o m (p + 2) (inr (omega (arith, o.past_userdata))))
      ∙ ap (λ (t : Option TableRef). marks l (table_link (ud_env p w)) (marks l (table_link t) (paint_w l (ud r) 4 u))) (table_stays o m p (inr (omega (arith, o.past_userdata))))
      ∙ sym (marks_append l (table_link (ud_meta p w)) (table_link (ud_env p w)) (paint_w l (ud r) 4 u))
    where
      p : ℕ
      p = body_at l.userdata r.0

  -- An upvalue that is named is painted black, and its link is marked, if it is closed.
  pub upvalue_links_lem : (r : UpvalRef) (u : List ℕ) → Marked l w u → 1 ≤ colour_w l (upval r) u
      → follow_upvalue (ops l) l r u ≡ marks l (upvalue_links w (body_at l.upvalues r.0)) (paint_w l (upval r) 4 u)
  unfolding follow_upvalue upvalue_links marks
  upvalue_links_lem r u m h =
      ap (λ (x : ℕ). cond (eqb x 1) (mark_value_at (ops l) l (p + 1) (paint_w l (upval r) 4 u)) (paint_w l (upval r) 4 u)) (below o n p (inr (omega (arith, o.past_upvalues))))
      ∙ go (is_closed p w)
    where
      p : ℕ
      p = body_at l.upvalues r.0

      n : Marked l w (paint_w l (upval r) 4 u)
      n = marked_then m (moves_marked l ok a (paint_moves l (upval r) h (still refl)) (omega (arith, m.long)))

      go : (b : Bool) → cond b (mark_value_at (ops l) l (p + 1) (paint_w l (upval r) 4 u)) (paint_w l (upval r) 4 u)
          ≡ marks l (cond b (value_links (upvalue_value p w)) []) (paint_w l (upval r) 4 u)
      go true = value_at_links n (p + 1) (inr (omega (arith, o.past_upvalues)))
      go false = refl
