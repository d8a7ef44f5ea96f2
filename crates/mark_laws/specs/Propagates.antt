-- Propagation is moves, whatever the lists hold: so all that is proved of moves holds of any number of steps. Assumes nothing.
--     table_whole, closure_whole, thread_whole, again_whole     a traversal by handle; one that names nothing changes nothing
--     item_moves, one_moves, for_moves, all_moves     an item, one step, n steps, all of it
use Rattle.std.specs.Prelude.{◌≡◌, Bool, cond, length, Some, None, Option}
use Rattle.std.proofs.Math.Path.{refl}
use Rattle.std.proofs.Common.{subst, arith}
use Rattle.std.proofs.Math.Bool.{true, false}
use mathlib.Core.List.{List}
use Prim.Native.Nat.{ℕ, zero, suc, ◌≤◌}
use Rattle.std.proofs.Math.Decide.{ℕ_discrete}
use Rattle.base.specs.Ways.{if_eq, eq_yes, eq_no}
use Rattle.value.specs.declared.TableRef.{TableRef}
use Rattle.value.specs.declared.FuncRef.{FuncRef}
use Rattle.value.specs.declared.ThreadRef.{ThreadRef}
use Rattle.layout.specs.declared.Lay.{Lay}
use Rattle.lists.specs.declared.Item.{Item}
use Rattle.lists.specs.declared.Item.TheVariants.{Table, Function, Userdata, Thread, Main, Unknown}
use Rattle.lists.specs.Lists.{pop}
use Rattle.record.specs.Fields.{body_at}
use Rattle.laid.specs.Laid.{Laid}
use Rattle.mark.specs.Ops.{tab, fun, thread, gray}
use Rattle.mark.specs.Words.{colour_w, ops}
use Rattle.table_walk.specs.Tables.{table_cost, traverse_table_at, traverse_table}
use Rattle.run_walk.specs.Closures.{closure_cost, traverse_closure_at, traverse_closure}
use Rattle.run_walk.specs.Threads.{thread_cost, traverse_thread_at, traverse_thread, retraverse_thread_at, retraverse_thread}
use Rattle.propagate.specs.Propagation.{goes_on, rounds, propagate_item, propagate_popped, propagate_one, propagate_for, propagate_all}
use Rattle.mark_laws.specs.Apart.{Apart}
use Rattle.mark_laws.specs.Moves.{Moves, still, popped, moves_then}
use Rattle.mark_laws.specs.Changes.{marked_none, moves_marked}
use Rattle.mark_laws.specs.TableLinks.{table_traversed}
use Rattle.mark_laws.specs.RunLinks.{closure_traversed, thread_traversed, again_traversed}

-- a choice by whether a colour is 0: what is moved is the words of the answer
pub choice : {A : Type 0} (P : A → Type 0) (c : ℕ) (x y : A) → P x → (1 ≤ c → P y) → P (if_eq c 0 x y)
choice P c x y p q = go (ℕ_discrete c 0)
  where
    go : Dec (c ≡ 0) → P (if_eq c 0 x y)
    go (yes e) = subst P (eq_yes c 0 x y x e refl) p
    go (no d) = subst P (eq_no c 0 x y y d refl) (q (omega (arith, d)))

module _ (l : Lay) (ok : Laid l) (a : Apart l) where
  module _ (u : List ℕ) (long : l.words ≤ length u) where
    -- A traversal by handle.
    pub table_whole : (b : List ℕ) (r : TableRef) → Moves l u (traverse_table (ops l) l b r u).1
    unfolding traverse_table
    table_whole b r =
        choice (λ (x : ℕ × List ℕ). Moves l u x.1) (colour_w l (tab r) u) (64, u) (table_cost (body_at l.tables r.0) u, traverse_table_at (ops l) l b r u)
        (still refl) (λ h. table_traversed l ok a u long b r u marked_none h)

    -- A closure by handle.
    pub closure_whole : (r : FuncRef) → Moves l u (traverse_closure (ops l) l r u).1
    unfolding traverse_closure
    closure_whole r =
        choice (λ (x : ℕ × List ℕ). Moves l u x.1) (colour_w l (fun r) u) (48, u) (closure_cost (body_at l.functions r.0) u, traverse_closure_at (ops l) l r u)
        (still refl) (λ h. closure_traversed l ok a u long r u marked_none h)

    -- A thread by handle,
    pub thread_whole : (r : ThreadRef) → Moves l u (traverse_thread (ops l) l r u).1
    unfolding traverse_thread
    thread_whole r =
        choice (λ (x : ℕ × List ℕ). Moves l u x.1) (colour_w l (thread r) u) (256, u) (thread_cost (body_at l.threads r.0) u, traverse_thread_at (ops l) l r u)
        (still refl) (λ h. thread_traversed l ok a u long r u marked_none h)

    -- and once more in the atomic phase.
    pub again_whole : (r : ThreadRef) → Moves l u (retraverse_thread (ops l) l r u)
    unfolding retraverse_thread
    again_whole r =
        choice (λ (x : List ℕ). Moves l u x) (colour_w l (thread r) u) u (retraverse_thread_at (ops l) l r u)
        (still refl) (λ h. again_traversed l ok a u long r u marked_none h)

    -- What is done with an item that was taken out.
    pub item_moves : (b : List ℕ) (x : Item) → Moves l u (propagate_item (ops l) l b x u).1
    unfolding propagate_item
    item_moves b (Table r) = table_whole b r
    item_moves b (Function r) = closure_whole r
    item_moves b (Thread r) = thread_whole r
    item_moves b Main = still refl
    item_moves b (Userdata r) = still refl
    item_moves b Unknown = still refl

  -- One step,
  pub one_moves : (b u : List ℕ) → l.words ≤ length u → Moves l u (propagate_one (ops l) l b u).1
  unfolding propagate_one
  one_moves b u long = go (pop l.gray u).0 (pop l.gray u).1 (popped (still refl) gray refl)
    where
      go : (p : Option Item) (v : List ℕ) → Moves l u v → Moves l u (propagate_popped (ops l) l b (p, v)).1
      go (Some x) v m = moves_then m (item_moves v (omega (arith, (moves_marked l ok a m long).long)) b x)
      go None v m = m

  -- n steps at most,
  pub for_moves : (b : List ℕ) (n : ℕ) (u : List ℕ) → l.words ≤ length u → Moves l u (propagate_for (ops l) l b n u)
  unfolding propagate_for
  for_moves b zero u long = still refl
  for_moves b (suc n) u long =
      let m = one_moves b u long in
      go (goes_on (propagate_one (ops l) l b u).0) m (moves_then m (for_moves b n (propagate_one (ops l) l b u).1 (omega (arith, (moves_marked l ok a m long).long))))
    where
      go : (c : Bool) → Moves l u (propagate_one (ops l) l b u).1 → Moves l u (propagate_for (ops l) l b n (propagate_one (ops l) l b u).1)
          → Moves l u (cond c (propagate_for (ops l) l b n (propagate_one (ops l) l b u).1) (propagate_one (ops l) l b u).1)
      go true x y = y
      go false x y = x

  -- and as many as are made.
  pub all_moves : (b u : List ℕ) → l.words ≤ length u → Moves l u (propagate_all (ops l) l b u)
  unfolding propagate_all
  all_moves b u long = for_moves b (rounds l) u long
