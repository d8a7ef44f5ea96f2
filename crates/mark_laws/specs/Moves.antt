-- What marking does to the words of a heap, as one relation, and that each definition of marking does no more. Assumes nothing.
--     Rising, Moves, moves_then     a colour that rises; the moves; one after the other
--     string_moves, table_moves, closure_moves, thread_moves, table_or_moves, userdata_follows, userdata_moves, value_moves,
--     value_at_moves, upvalue_follows, upvalue_moves, values_move, upvalues_move     each definition of marking
use Rattle.std.specs.Prelude.{◌≡◌, Bool, cond, ℕ, ◌+◌, ◌*◌, ◌≤◌, Some, None, Option}
use Rattle.std.proofs.Math.Path.{refl}
use Rattle.std.proofs.Common.{sym, subst, arith}
use Rattle.std.proofs.Math.Bool.{true, false}
use mathlib.Core.List.{List as Words}
use Rattle.base.specs.Loop.{run_keeps}
use Rattle.value.specs.declared.StrRef.{StrRef}
use Rattle.value.specs.declared.TableRef.{TableRef}
use Rattle.value.specs.declared.FuncRef.{FuncRef}
use Rattle.value.specs.declared.UpvalRef.{UpvalRef}
use Rattle.value.specs.declared.UdRef.{UdRef}
use Rattle.value.specs.declared.ThreadRef.{ThreadRef}
use Rattle.value.specs.declared.Value.{Value}
use Rattle.value.specs.declared.Value.TheVariants.{Nil, Boolean, Light, Number, Str, Table, Function, Userdata, Thread}
use Rattle.value.specs.Values.{value_at}
use Rattle.layout.specs.declared.Lay.{Lay}
use Rattle.lists.specs.declared.Item.{Item}
use Rattle.lists.specs.declared.Item.TheVariants as item
use Rattle.lists.specs.Lists.{push, pop, cleared}
use Rattle.record.specs.Fields.{body_at, upval_at}
use Rattle.record.specs.Userdata.{ud_meta, ud_env}
use Rattle.run_record.specs.Upvalues.{is_closed}
use Rattle.mark.specs.Ops.{Ref, str, tab, fun, upval, ud, thread, Work, gray, is_white}
use Rattle.mark.specs.Words.{arena_of, list_of, colour_w, paint_w, ops}
use Rattle.mark.specs.Marking.{mark_string, mark_gray, mark_table, mark_closure, mark_thread, mark_table_or, follow_userdata, mark_userdata, mark_value, mark_value_at, follow_upvalue, mark_upvalue, mark_nth, mark_values, mark_upvalue_at, mark_nth_upvalue, mark_upvalues}
use Rattle.mark_laws.specs.Colours.{shade_most, white_true}

-- The colour of an occupied slot becomes gray or black, and no less than it was: white to 3 or 4, 3 to 4.
abbrev pub Rising : ℕ → ℕ → Type 0
Rising c d = (1 ≤ c) × (c ≤ d) × (3 ≤ d) × (d ≤ 4)

-- What marking may do: nothing; raise the colour of a slot that a handle names; push, pop and clear gray, grayagain, weak.
pub data Moves (l : Lay) (w : Words ℕ) : Words ℕ → Type 0 where
  still : {v : Words ℕ} → v ≡ w → Moves l w v
  raised : {u v : Words ℕ} → Moves l w u → (r : Ref) (c : ℕ) → Rising (colour_w l r u) c → v ≡ paint_w l r c u → Moves l w v
  pushed : {u v : Words ℕ} → Moves l w u → (k : Work) (x : Item) → v ≡ push (list_of l k) x u → Moves l w v
  popped : {u v : Words ℕ} → Moves l w u → (k : Work) → v ≡ (pop (list_of l k) u).1 → Moves l w v
  emptied : {u v : Words ℕ} → Moves l w u → (k : Work) → v ≡ cleared (list_of l k) u → Moves l w v

-- The moves follow one another.
pub moves_then : {l : Lay} {w u v : Words ℕ} → Moves l w u → Moves l u v → Moves l w v
moves_then {l} {w} m (still e) = subst (λ x. Moves l w x) (sym e) m
moves_then m (raised n r c h e) = raised (moves_then m n) r c h e
moves_then m (pushed n k x e) = pushed (moves_then m n) k x e
moves_then m (popped n k e) = popped (moves_then m n) k e
moves_then m (emptied n k e) = emptied (moves_then m n) k e

module _ (l : Lay) {w : Words ℕ} where
  -- what is white and no link of its own becomes black
  black_moves : (r : Ref) {u : Words ℕ} → Moves l w u → Moves l w (cond (is_white (colour_w l r u)) (paint_w l r 4 u) u)
  black_moves r {u} m = go (is_white (colour_w l r u)) refl
    where
      go : (b : Bool) → is_white (colour_w l r u) ≡ b → Moves l w (cond b (paint_w l r 4 u) u)
      go true e = let h = white_true (colour_w l r u) e in raised m r 4 (h.0, omega arith, omega arith, omega arith) refl
      go false e = m

  -- what is white becomes gray, and is listed
  gray_moves : (r : Ref) (x : Item) {u : Words ℕ} → Moves l w u → Moves l w (mark_gray (ops l) r x u)
  gray_moves r x {u} m = go (is_white (colour_w l r u)) refl
    where
      go : (b : Bool) → is_white (colour_w l r u) ≡ b → Moves l w (cond b (push l.gray x (paint_w l r 3 u)) u)
      go true e =
          let h = white_true (colour_w l r u) e in
          pushed (raised m r 3 (h.0, omega arith, omega arith, omega arith) refl) gray x refl
      go false e = m

  -- Marking a string is moves.
  pub string_moves : (r : StrRef) {u : Words ℕ} → Moves l w u → Moves l w (mark_string (ops l) r u)
  unfolding mark_string
  string_moves r m = black_moves (str r) m

  -- Marking a table is moves.
  pub table_moves : (r : TableRef) {u : Words ℕ} → Moves l w u → Moves l w (mark_table (ops l) r u)
  unfolding mark_table
  table_moves r m = gray_moves (tab r) (item.Table r) m

  -- Marking a closure is moves.
  pub closure_moves : (r : FuncRef) {u : Words ℕ} → Moves l w u → Moves l w (mark_closure (ops l) r u)
  unfolding mark_closure
  closure_moves r m = gray_moves (fun r) (item.Function r) m

  -- Marking a thread is moves.
  pub thread_moves : (r : ThreadRef) {u : Words ℕ} → Moves l w u → Moves l w (mark_thread (ops l) r u)
  unfolding mark_thread
  thread_moves r m = gray_moves (thread r) (item.Thread r) m

  -- Marking a table that may be missing is moves.
  pub table_or_moves : (t : Option TableRef) {u : Words ℕ} → Moves l w u → Moves l w (mark_table_or (ops l) t u)
  unfolding mark_table_or
  table_or_moves (Some r) m = table_moves r m
  table_or_moves None m = m

  -- A handle that names an occupied slot is painted black.
  pub paint_moves : (r : Ref) {u : Words ℕ} → 1 ≤ colour_w l r u → Moves l w u → Moves l w (paint_w l r 4 u)
  paint_moves r {u} h m = raised m r 4 (h, shade_most (arena_of l r.kind) r.at r.gen u, omega arith, omega arith) refl

  -- a userdata that is named is followed
  pub userdata_follows : (r : UdRef) {u : Words ℕ} → 1 ≤ colour_w l (ud r) u → Moves l w u → Moves l w (follow_userdata (ops l) l r u)
  unfolding follow_userdata
  userdata_follows r {u} h m =
      table_or_moves (ud_env (body_at l.userdata r.0) u)
      (table_or_moves (ud_meta (body_at l.userdata r.0) u)
      (paint_moves (ud r) h m))

  -- Marking a userdata is moves.
  pub userdata_moves : (r : UdRef) {u : Words ℕ} → Moves l w u → Moves l w (mark_userdata (ops l) l r u)
  unfolding mark_userdata
  userdata_moves r {u} m = go (is_white (colour_w l (ud r) u)) refl
    where
      go : (b : Bool) → is_white (colour_w l (ud r) u) ≡ b → Moves l w (cond b (follow_userdata (ops l) l r u) u)
      go true e = let h = white_true (colour_w l (ud r) u) e in userdata_follows r h.0 m
      go false e = m

  -- Marking what a value refers to is moves.
  pub value_moves : (v : Value) {u : Words ℕ} → Moves l w u → Moves l w (mark_value (ops l) l v u)
  unfolding mark_value
  value_moves Nil m = m
  value_moves (Boolean b) m = m
  value_moves (Light x) m = m
  value_moves (Number x) m = m
  value_moves (Str r) m = string_moves r m
  value_moves (Table r) m = table_moves r m
  value_moves (Function r) m = closure_moves r m
  value_moves (Userdata r) m = userdata_moves r m
  value_moves (Thread r) m = thread_moves r m

  -- So is marking the value in words p to p + 2,
  pub value_at_moves : (p : ℕ) {u : Words ℕ} → Moves l w u → Moves l w (mark_value_at (ops l) l p u)
  unfolding mark_value_at
  value_at_moves p {u} m = value_moves (value_at u p) m

  -- an upvalue that is named is followed
  pub upvalue_follows : (r : UpvalRef) {u : Words ℕ} → 1 ≤ colour_w l (upval r) u → Moves l w u → Moves l w (follow_upvalue (ops l) l r u)
  unfolding follow_upvalue
  upvalue_follows r {u} h m = go (is_closed (body_at l.upvalues r.0) (paint_w l (upval r) 4 u))
    where
      go : (b : Bool) → Moves l w (cond b (mark_value_at (ops l) l (body_at l.upvalues r.0 + 1) (paint_w l (upval r) 4 u)) (paint_w l (upval r) 4 u))
      go true = value_at_moves (body_at l.upvalues r.0 + 1) (paint_moves (upval r) h m)
      go false = paint_moves (upval r) h m

  -- Marking an upvalue is moves.
  pub upvalue_moves : (r : UpvalRef) {u : Words ℕ} → Moves l w u → Moves l w (mark_upvalue (ops l) l r u)
  unfolding mark_upvalue
  upvalue_moves r {u} m = go (is_white (colour_w l (upval r) u)) refl
    where
      go : (b : Bool) → is_white (colour_w l (upval r) u) ≡ b → Moves l w (cond b (follow_upvalue (ops l) l r u) u)
      go true e = let h = white_true (colour_w l (upval r) u) e in upvalue_follows r h.0 m
      go false e = m

  -- Marking n values from p on is moves.
  pub values_move : (p n : ℕ) {u : Words ℕ} → Moves l w u → Moves l w (mark_values (ops l) l p n u)
  unfolding mark_values
  values_move p n {u} m = run_keeps (mark_nth (ops l) l p) (λ (t : Words ℕ). Moves l w t) 0 n u (omega arith) (λ j t h k. value_at_moves (p + 3 * j) k) m

  -- Marking the upvalue whose handle is in words p and p + 1 is moves,
  pub upvalue_at_moves : (p : ℕ) {u : Words ℕ} → Moves l w u → Moves l w (mark_upvalue_at (ops l) l p u)
  unfolding mark_upvalue_at
  upvalue_at_moves p {u} m = upvalue_moves (upval_at u p) m

  -- and so is marking n of them from p on.
  pub upvalues_move : (p n : ℕ) {u : Words ℕ} → Moves l w u → Moves l w (mark_upvalues (ops l) l p n u)
  unfolding mark_upvalues
  upvalues_move p n {u} m = run_keeps (mark_nth_upvalue (ops l) l p) (λ (t : Words ℕ). Moves l w t) 0 n u (omega arith) (λ j t h k. upvalue_at_moves (p + 2 * j) k) m
