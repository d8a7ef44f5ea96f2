-- Marking, over any heap that has the operations: a definition for each function, composed as the code is. Assumes nothing.
use Rattle.std.specs.Prelude.{cond, ℕ, ◌+◌, ◌*◌, Some, None, Option}
use Rattle.base.specs.Loop.{run}
use Rattle.value.specs.declared.StrRef.{StrRef}
use Rattle.value.specs.declared.TableRef.{TableRef}
use Rattle.value.specs.declared.FuncRef.{FuncRef}
use Rattle.value.specs.declared.UpvalRef.{UpvalRef}
use Rattle.value.specs.declared.UdRef.{UdRef}
use Rattle.value.specs.declared.ThreadRef.{ThreadRef}
use Rattle.value.specs.declared.Value.{Value}
use Rattle.value.specs.declared.Value.TheVariants.{Nil, Boolean, Light, Number, Str, Table, Function, Userdata, Thread}
use Rattle.value.specs.Values.{value_at}
use Rattle.layout.specs.declared.Lay.{Lay}
use Rattle.lists.specs.declared.Item.{Item}
use Rattle.lists.specs.declared.Item.TheVariants as item
use Rattle.record.specs.Fields.{body_at, upval_at}
use Rattle.record.specs.Userdata.{ud_meta, ud_env}
use Rattle.run_record.specs.Upvalues.{is_closed}
use Rattle.mark.specs.Ops.{Ref, str, tab, fun, upval, ud, thread, gray, Ops, is_white}

module _ {S : Type 0} (O : Ops S) where
  -- A string has no links: it is black at once.
  unfoldable pub mark_string : StrRef → S → S
  mark_string r s = cond (is_white (O.colour (str r) s)) (O.paint (str r) 4 s) s

  -- A table, closure or thread is gray, and listed.
  abbrev pub mark_gray : Ref → Item → S → S
  mark_gray r x s = cond (is_white (O.colour r s)) (O.push gray x (O.paint r 3 s)) s

  unfoldable pub mark_table : TableRef → S → S
  mark_table r s = mark_gray (tab r) (item.Table r) s

  unfoldable pub mark_closure : FuncRef → S → S
  mark_closure r s = mark_gray (fun r) (item.Function r) s

  unfoldable pub mark_thread : ThreadRef → S → S
  mark_thread r s = mark_gray (thread r) (item.Thread r) s

  unfoldable pub mark_table_or : Option TableRef → S → S
  mark_table_or (Some r) s = mark_table r s
  mark_table_or None s = s

  -- The colour of what a value refers to, 0 where it refers to nothing.
  unfoldable pub value_colour : Value → S → ℕ
  value_colour Nil s = 0
  value_colour (Boolean b) s = 0
  value_colour (Light x) s = 0
  value_colour (Number x) s = 0
  value_colour (Str r) s = O.colour (str r) s
  value_colour (Table r) s = O.colour (tab r) s
  value_colour (Function r) s = O.colour (fun r) s
  value_colour (Userdata r) s = O.colour (ud r) s
  value_colour (Thread r) s = O.colour (thread r) s

  module _ (l : Lay) where
    -- A userdata is black, its metatable and env are marked.
    unfoldable pub follow_userdata : UdRef → S → S
    follow_userdata r s =
        let p = body_at l.userdata r.0 in
        let s₁ = O.paint (ud r) 4 s in
        let s₂ = mark_table_or (ud_meta p (O.body s)) s₁ in
        mark_table_or (ud_env p (O.body s)) s₂

    unfoldable pub mark_userdata : UdRef → S → S
    mark_userdata r s = cond (is_white (O.colour (ud r) s)) (follow_userdata r s) s

    unfoldable pub mark_value : Value → S → S
    mark_value Nil s = s
    mark_value (Boolean b) s = s
    mark_value (Light x) s = s
    mark_value (Number x) s = s
    mark_value (Str r) s = mark_string r s
    mark_value (Table r) s = mark_table r s
    mark_value (Function r) s = mark_closure r s
    mark_value (Userdata r) s = mark_userdata r s
    mark_value (Thread r) s = mark_thread r s

    unfoldable pub mark_value_at : ℕ → S → S
    mark_value_at p s = mark_value (value_at (O.body s) p) s

    -- An upvalue is black; if it is closed, its value is marked.
    unfoldable pub follow_upvalue : UpvalRef → S → S
    follow_upvalue r s =
        let p = body_at l.upvalues r.0 in
        let s₁ = O.paint (upval r) 4 s in
        cond (is_closed p (O.body s₁)) (mark_value_at (p + 1) s₁) s₁

    unfoldable pub mark_upvalue : UpvalRef → S → S
    mark_upvalue r s = cond (is_white (O.colour (upval r) s)) (follow_upvalue r s) s

    -- n values from p on, and n handles of upvalues
    abbrev pub mark_nth : ℕ → ℕ → S → S
    mark_nth p i s = mark_value_at (p + 3 * i) s

    unfoldable pub mark_values : ℕ → ℕ → S → S
    mark_values p n s = run (mark_nth p) 0 n s

    unfoldable pub mark_upvalue_at : ℕ → S → S
    mark_upvalue_at p s = mark_upvalue (upval_at (O.body s) p) s

    abbrev pub mark_nth_upvalue : ℕ → ℕ → S → S
    mark_nth_upvalue p i s = mark_upvalue_at (p + 2 * i) s

    unfoldable pub mark_upvalues : ℕ → ℕ → S → S
    mark_upvalues p n s = run (mark_nth_upvalue p) 0 n s
