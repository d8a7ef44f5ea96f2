-- Document 01, 'Followed links'. Lua closure: env, upvalues, constants of its prototype and of all nested ones. Rust closure:
-- env if any, values. Assumes nothing.
use Rattle.std.specs.Prelude.{cond, List, ℕ, ◌+◌, ◌*◌}
use Rattle.base.specs.Ways.{if_eq}
use Rattle.value.specs.declared.FuncRef.{FuncRef}
use Rattle.layout.specs.declared.Lay.{Lay}
use Rattle.record.specs.Fields.{body_at}
use Rattle.run_record.specs.Closures.{is_rust, closure_env, closure_proto, closure_count}
use Rattle.mark.specs.Ops.{fun, Ops}
use Rattle.mark.specs.Marking.{mark_table_or, mark_values, mark_upvalues}
use Rattle.run_walk.specs.Prototypes.{mark_proto_constants}

-- Costs: Lua closure 48 + 8 per upvalue, Rust closure 48 + 16 per value (64 with one).
unfoldable pub closure_cost : ℕ → List ℕ → ℕ
closure_cost p w = cond (is_rust p w) (48 + 16 * closure_count p w) (48 + 8 * closure_count p w)

module _ {S : Type 0} (O : Ops S) (l : Lay) where
  unfoldable pub mark_lua : ℕ → S → S
  mark_lua p s =
      let k = closure_count p (O.body s) in
      let n = closure_proto p (O.body s) in
      let s₁ = mark_upvalues O l (p + 5) k s in
      mark_proto_constants O l n s₁

  unfoldable pub mark_rust : ℕ → S → S
  mark_rust p s = mark_values O l (p + 5) (closure_count p (O.body s)) s

  unfoldable pub traverse_closure_at : FuncRef → S → S
  traverse_closure_at r s =
      let p = body_at l.functions r.0 in
      let env = closure_env p (O.body s) in
      let s₁ = O.paint (fun r) 4 s in
      let s₂ = mark_table_or O env s₁ in
      cond (is_rust p (O.body s₂)) (mark_rust p s₂) (mark_lua p s₂)

  -- A handle that names no closure costs 48 and changes nothing.
  unfoldable pub traverse_closure : FuncRef → S → ℕ × S
  traverse_closure r s = if_eq (O.colour (fun r) s) 0 (48, s) (closure_cost (body_at l.functions r.0) (O.body s), traverse_closure_at r s)
