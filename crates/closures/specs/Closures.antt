-- A new closure: document 01, 'Sizes'. What is given is tested where it is called; here 6, 3 and damage are left. Assumes nothing.
use Rattle.std.specs.Prelude.{Bool, true, false, List, ℕ, ◌+◌, ◌*◌, ◌/◌, length, Some, Ok, Err, Option, Result}
use Rattle.base.specs.Loop.{run}
use Rattle.base.specs.declared.Refusal.{Refusal}
use Rattle.value.specs.declared.TableRef.{TableRef}
use Rattle.layout.specs.declared.Lay.{Lay}
use Rattle.record.specs.Fields.{upval_at, put_upval}
use Rattle.run_record.specs.Closures.{set_rust, set_closure_env, set_closure_proto, set_closure_count, closure_extent}
use Rattle.making.specs.declared.Made.{Made}
use Rattle.making.specs.declared.Made.TheVariants.{Function}
use Rattle.making.specs.Making.{new_object, on_new, put_values}

-- A closure, 48 in the total, has its kind, env, the number of its prototype (0 of a Rust closure) and a count.
unfoldable pub put_head : ℕ → Bool → Option TableRef → ℕ → ℕ → List ℕ → List ℕ
put_head p rust env proto n w =
    let w₁ = set_rust p rust w in
    let w₂ = set_closure_env p env w₁ in
    let w₃ = set_closure_proto p proto w₂ in
    set_closure_count p n w₃

abbrev pub headed : Bool → Option TableRef → ℕ → ℕ → Result (ℕ × ℕ × ℕ) Refusal × List ℕ → Result (ℕ × ℕ × ℕ) Refusal × List ℕ
headed rust env proto n (Ok (i, g, p), w) = (Ok (i, g, p), put_head p rust env proto n w)
headed rust env proto n (Err k, w) = (Err k, w)

unfoldable pub new_closure : Bool → Option TableRef → ℕ → ℕ → Lay → List ℕ → Result (ℕ × ℕ × ℕ) Refusal × List ℕ
new_closure rust env proto n l w = headed rust env proto n (new_object l.functions 48 (closure_extent rust n) w)

-- A Lua closure then has the handles of its upvalues.
unfoldable pub put_upvalue : ℕ → List ℕ → ℕ → List ℕ → List ℕ
put_upvalue p s k w = put_upval (p + 2 * k) (upval_at s (2 * k)) w

unfoldable pub put_upvalues : ℕ → List ℕ → ℕ → List ℕ → List ℕ
put_upvalues p s n w = run (put_upvalue p s) 0 n w

abbrev pub lua_at : List ℕ → ℕ → ℕ → ℕ → List ℕ → Result Made Refusal × List ℕ
lua_at s i g p w = (Ok (Function (record { 0 = i; 1 = g })), put_upvalues (p + 5) s (length s / 2) w)

unfoldable pub new_lua : ℕ → TableRef → List ℕ → Lay → List ℕ → Result Made Refusal × List ℕ
new_lua proto env s l w = on_new (lua_at s) (new_closure false (Some env) proto (length s / 2) l w)

-- A Rust closure then has its values.
abbrev pub rust_at : List ℕ → ℕ → ℕ → ℕ → List ℕ → Result Made Refusal × List ℕ
rust_at s i g p w = (Ok (Function (record { 0 = i; 1 = g })), put_values (p + 5) s (length s / 3) w)

unfoldable pub new_rust : Option TableRef → List ℕ → Lay → List ℕ → Result Made Refusal × List ℕ
new_rust env s l w = on_new (rust_at s) (new_closure true env 0 (length s / 3) l w)
