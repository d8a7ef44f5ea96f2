-- Making a closure: document 01, 'Sizes' and 'Refusal numbers'. A prototype not made, more than 16 upvalues or values, or a
-- list that is no whole number of them: 4. A handle given, or a constant of the prototype (nested ones too), that names no
-- occupied slot of its kind: 2. Then 6 and 3. Assumes nothing.
use Rattle.std.specs.Prelude.{◌≡◌, Bool, true, false, cond, ◌&&◌, List, ℕ, ◌/◌, ◌%◌, ◌≤◌, eqb, leb, length, Err, Option, Result}
use Rattle.std.proofs.Common.{sym, true≢false, leb-true}
use Rattle.base.specs.Ways.{if_le}
use Rattle.base.specs.Heap.{Heap}
use Rattle.base.specs.declared.Refusal.TheVariants.{Stale, OutOfRange}
use Rattle.base.specs.declared.Refusal.{Refusal}
use Rattle.value.specs.declared.TableRef.{TableRef}
use Rattle.layout.specs.declared.Lay.{Lay}
use Rattle.test1.specs.Calls.{call, in_words}
use Rattle.main_record.specs.Prototypes.{protos_used}
use Rattle.given.specs.Given.{is_table, is_table_or}
use Rattle.sound.specs.Sound.{are_sound, are_upvalues, sound_proto}
use Rattle.making.specs.declared.Made.{Made}
use Rattle.closures.specs.Closures.{new_lua, new_rust}

-- up to 16 of two words, and of three
abbrev pub upvalues_fit : ℕ → Bool
upvalues_fit n = eqb (n % 2) 0 && leb n 32

abbrev pub values_fit : ℕ → Bool
values_fit n = eqb (n % 3) 0 && leb n 48

right : (a b : Bool) → a && b ≡ true → b ≡ true
right true b q = q
right false b q = absurd (true≢false (sym q))

pub upvalues_most : (n : ℕ) → upvalues_fit n ≡ true → n ≤ 32
upvalues_most n p = leb-true n 32 (right (eqb (n % 2) 0) (leb n 32) p)

pub values_most : (n : ℕ) → values_fit n ≡ true → n ≤ 48
values_most n p = leb-true n 48 (right (eqb (n % 3) 0) (leb n 48) p)

unfoldable pub lua_sound : ℕ → TableRef → List ℕ → Lay → List ℕ → Bool
lua_sound proto env s l w = is_table l env w && are_upvalues l s (length s / 2) w && sound_proto l w proto

unfoldable pub lua_in : ℕ → TableRef → List ℕ → Lay → List ℕ → Result Made Refusal × List ℕ
lua_in proto env s l w =
    if_le (protos_used l w) proto (Err OutOfRange, w)
    (cond (upvalues_fit (length s))
    (cond (lua_sound proto env s l w) (new_lua proto env s l w) (Err Stale, w))
    (Err OutOfRange, w))

unfoldable pub make_lua_closure : ℕ → TableRef → List ℕ → Heap → Result Made Refusal × Heap
make_lua_closure proto env s h = call Err (in_words (lua_in proto env s)) h

unfoldable pub rust_sound : Option TableRef → List ℕ → Lay → List ℕ → Bool
rust_sound env s l w = is_table_or l env w && are_sound l s 0 (length s / 3) w

unfoldable pub rust_in : Option TableRef → List ℕ → Lay → List ℕ → Result Made Refusal × List ℕ
rust_in env s l w =
    cond (values_fit (length s))
    (cond (rust_sound env s l w) (new_rust env s l w) (Err Stale, w))
    (Err OutOfRange, w)

unfoldable pub make_rust_closure : Option TableRef → List ℕ → Heap → Result Made Refusal × Heap
make_rust_closure env s h = call Err (in_words (rust_in env s)) h
