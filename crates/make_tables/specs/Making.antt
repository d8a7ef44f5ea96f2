-- Making a table or a userdata: document 01, 'Sizes' and 'Refusal numbers'. The first refusal in the order 4, 6, 3 is the
-- answer and changes nothing. What a record does not name here is 0: none, nil, no. Assumes nothing.
use Rattle.std.specs.Prelude.{◌≡◌, refl, ◌⊎◌, Bool, true, false, cond, ◌||◌, List, ℕ, ◌≤◌, eqb, Ok, Err, Result}
use Rattle.std.proofs.Common.{inl, inr, ⊎_elim, arith, eqb-true}
use Rattle.base.specs.Ways.{if_lt}
use Rattle.base.specs.Words.{get64, put64, add_sat}
use Rattle.base.specs.Heap.{Heap}
use Rattle.base.specs.declared.Refusal.TheVariants.{OutOfRange}
use Rattle.base.specs.declared.Refusal.{Refusal}
use Rattle.layout.specs.declared.Lay.{Lay}
use Rattle.layout.specs.Places.{CREATION, USERDATA_WORDS}
use Rattle.test1.specs.Calls.{call, in_words}
use Rattle.record.specs.Tables.{set_table_sizes, table_extent}
use Rattle.record.specs.Userdata.{set_ud_creation}
use Rattle.making.specs.declared.Made.{Made}
use Rattle.making.specs.declared.Made.TheVariants.{Table, Userdata}
use Rattle.making.specs.Making.{new_object, on_new}

-- Nodes 0, 1, 2, 4, 8, 16, 32 or 64.
unfoldable pub is_nodes : ℕ → Bool
is_nodes n = eqb n 0 || eqb n 1 || eqb n 2 || eqb n 4 || eqb n 8 || eqb n 16 || eqb n 32 || eqb n 64

-- no such number is above 64
pub nodes_most : (n : ℕ) → is_nodes n ≡ true → n ≤ 64
unfolding is_nodes
nodes_most n p =
    both (eqb n 0 || eqb n 1 || eqb n 2 || eqb n 4 || eqb n 8 || eqb n 16 || eqb n 32) 64 (omega arith)
    (both (eqb n 0 || eqb n 1 || eqb n 2 || eqb n 4 || eqb n 8 || eqb n 16) 32 (omega arith)
    (both (eqb n 0 || eqb n 1 || eqb n 2 || eqb n 4 || eqb n 8) 16 (omega arith)
    (both (eqb n 0 || eqb n 1 || eqb n 2 || eqb n 4) 8 (omega arith)
    (both (eqb n 0 || eqb n 1 || eqb n 2) 4 (omega arith)
    (both (eqb n 0 || eqb n 1) 2 (omega arith)
    (both (eqb n 0) 1 (omega arith)
    (λ q. let e : n ≡ 0 = eqb-true n 0 q in omega arith))))))) p
  where
    either : (a b : Bool) → a || b ≡ true → (a ≡ true) ⊎ (b ≡ true)
    either true b q = inl refl
    either false b q = inr q

    both : (a : Bool) (k : ℕ) → k ≤ 64 → (a ≡ true → n ≤ 64) → a || eqb n k ≡ true → n ≤ 64
    both a k h f q = ⊎_elim f (λ r. let e : n ≡ k = eqb-true n k r in omega arith) (either a (eqb n k) q)

-- A table, 64 in the total: array 0 to 64 (4), nodes as above (4).
abbrev pub table_at : ℕ → ℕ → ℕ → ℕ → ℕ → List ℕ → Result Made Refusal × List ℕ
table_at array nodes i g p w = (Ok (Table (record { 0 = i; 1 = g })), set_table_sizes p array nodes w)

unfoldable pub new_table : ℕ → ℕ → Lay → List ℕ → Result Made Refusal × List ℕ
new_table array nodes l w = on_new (table_at array nodes) (new_object l.tables 64 (table_extent array nodes) w)

unfoldable pub table_in : ℕ → ℕ → Lay → List ℕ → Result Made Refusal × List ℕ
table_in array nodes l w =
    if_lt 64 array (Err OutOfRange, w)
    (cond (is_nodes nodes) (new_table array nodes l w) (Err OutOfRange, w))

unfoldable pub make_table : ℕ → ℕ → Heap → Result Made Refusal × Heap
make_table array nodes h = call Err (in_words (table_in array nodes)) h

-- A userdata, 48 in the total, has the next creation number, which rises by 1 and stops at the end of 64 bits.
abbrev pub userdata_at : ℕ → ℕ → ℕ → List ℕ → Result Made Refusal × List ℕ
userdata_at i g p w =
    let number = get64 w CREATION in
    let w₁ = set_ud_creation p number w in
    (Ok (Userdata (record { 0 = i; 1 = g })), put64 CREATION (add_sat number 1) w₁)

unfoldable pub userdata_in : Lay → List ℕ → Result Made Refusal × List ℕ
userdata_in l w = on_new userdata_at (new_object l.userdata 48 USERDATA_WORDS w)

unfoldable pub make_userdata : Heap → Result Made Refusal × Heap
make_userdata h = call Err (in_words userdata_in) h
