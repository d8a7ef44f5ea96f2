-- Traversing a closure or a thread marks exactly its links. `w` are the words before any marking, `u` those that a definition
-- is given. Assumes nothing.
--     closure_links_lem, closure_traversed      a closure is painted, its links are marked; that is moves
--     thread_links_lem, thread_traversed        a thread is painted, its links are marked, and it is listed in grayagain
--     again_links, again_traversed          the atomic phase marks them once more, but for the hook function
use Rattle.std.specs.Prelude.{◌≡◌, refl, Bool, true, false, eqb, length, Option}
use Rattle.std.proofs.Math.Path.{sym, ap}
use Rattle.std.proofs.Common.{subst, ◌∙◌, inr, arith}
use Rattle.std.proofs.Math.Bool.{cond}
use mathlib.Core.List.{List, [], ◌∷◌, ◌++◌}
use Prim.Native.Nat.{ℕ, min, ◌+◌, ◌≤◌}
use Rattle.base.specs.Words.{at, bounded}
use Rattle.value.specs.declared.TableRef.{TableRef}
use Rattle.value.specs.declared.FuncRef.{FuncRef}
use Rattle.value.specs.declared.ThreadRef.{ThreadRef}
use Rattle.layout.specs.declared.Lay.{Lay}
use Rattle.lists.specs.declared.Item.TheVariants.{Thread}
use Rattle.lists.specs.Lists.{push}
use Rattle.record.specs.Fields.{body_at}
use Rattle.run_record.specs.Closures.{is_rust, closure_env, closure_proto, closure_count, closure_upvalue, closure_value}
use Rattle.run_record.specs.Threads.{thread_global, thread_hook, thread_top, thread_open_count, thread_suspended_count, thread_open, thread_suspended, thread_value}
use Rattle.laid.specs.Laid.{Laid}
use Rattle.mark.specs.Ops.{Ref, fun, thread, upval, grayagain}
use Rattle.mark.specs.Words.{colour_w, paint_w, ops}
use Rattle.mark.specs.Marking.{mark_table_or, mark_value_at, mark_values, mark_upvalues}
use Rattle.run_walk.specs.Prototypes.{mark_proto_constants}
use Rattle.run_walk.specs.Closures.{mark_lua, mark_rust, traverse_closure_at}
use Rattle.run_walk.specs.Threads.{mark_stack, traverse_thread_at, retraverse_thread_at}
use Rattle.links.specs.Links.{value_links, table_link, each, proto_links, closure_links, stack_links, thread_links}
use Rattle.mark_laws.specs.Apart.{Apart, Order, order}
use Rattle.mark_laws.specs.Moves.{Moves, still, pushed, paint_moves}
use Rattle.mark_laws.specs.Changes.{Marked, marked_then, moves_marked}
use Rattle.mark_laws.specs.Stays.{below, table_stays}
use Rattle.mark_laws.specs.Marks.{marks, marks_append, marks_moves, marks_marked}
use Rattle.mark_laws.specs.Follows.{table_link_lem, value_at_links, values_links_lem, upvalues_links}
use Rattle.mark_laws.specs.ProtoLinks.{proto_links_lem}

module _ (l : Lay) (ok : Laid l) (a : Apart l) (w : List ℕ) (long : l.words ≤ length w) where
  abbrev o : Order l
  o = order l ok a

  -- a word of a record past the boundary
  word : (q : ℕ) → l.boundary ≤ q → {u : List ℕ} → Marked l w u → at u q ≡ at w q
  word q h m = below o m q (inr h)

  module _ (p : ℕ) (h : l.boundary ≤ p) where
    -- the values of a Rust closure
    rust_links : {u : List ℕ} → Marked l w u → mark_rust (ops l) l p u ≡ marks l (each (λ i. value_links (closure_value p i w)) (closure_count p w) 0) u
    unfolding mark_rust
    rust_links {u} m =
        ap (λ (x : ℕ). mark_values (ops l) l (p + 5) (bounded x 16) u) (word (p + 4) (omega arith) m)
        ∙ values_links_lem l ok a w long (p + 5) (closure_count p w) (inr (omega arith)) u m

    -- the upvalues of a Lua closure, and its prototype
    lua_links : {u : List ℕ} → Marked l w u
        → mark_lua (ops l) l p u ≡ marks l (each (λ i. upval (closure_upvalue p i w) ∷ []) (closure_count p w) 0 ++ proto_links w l (closure_proto p w)) u
    unfolding mark_lua
    lua_links {u} m =
        ap (λ (x : ℕ). mark_proto_constants (ops l) l (closure_proto p u) (mark_upvalues (ops l) l (p + 5) (bounded x 16) u)) (word (p + 4) (omega arith) m)
        ∙ ap (λ (n : ℕ). mark_proto_constants (ops l) l n (mark_upvalues (ops l) l (p + 5) (closure_count p w) u)) (word (p + 3) (omega arith) m)
        ∙ ap (mark_proto_constants (ops l) l (closure_proto p w)) (upvalues_links l ok a w long (p + 5) (closure_count p w) (inr (omega arith)) u m)
        ∙ proto_links_lem l ok a w long (closure_proto p w) (marks_marked l ok a U long m)
        ∙ sym (marks_append l U (proto_links w l (closure_proto p w)) u)
      where
        U : List Ref
        U = each (λ i. upval (closure_upvalue p i w) ∷ []) (closure_count p w) 0

    -- the stack below top, the open and the suspended upvalues of a thread
    stack_links_lem : {u : List ℕ} → Marked l w u → mark_stack (ops l) l p u ≡ marks l (stack_links w p) u
    unfolding mark_stack stack_links
    stack_links_lem {u} m =
        ap (λ (x : ℕ). whole (min (at u (p + 9)) (bounded x 64)) (thread_open_count p u) (thread_suspended_count p u)) (word (p + 8) (omega arith) m)
        ∙ ap (λ (x : ℕ). whole (min x (bounded (at w (p + 8)) 64)) (thread_open_count p u) (thread_suspended_count p u)) (word (p + 9) (omega arith) m)
        ∙ ap (λ (x : ℕ). whole (thread_top p w) (bounded x 16) (thread_suspended_count p u)) (word (p + 10) (omega arith) m)
        ∙ ap (λ (x : ℕ). whole (thread_top p w) (thread_open_count p w) (bounded x 16)) (word (p + 11) (omega arith) m)
        ∙ ap (λ (x : List ℕ). mark_upvalues (ops l) l (p + 44) (thread_suspended_count p w) (mark_upvalues (ops l) l (p + 12) (thread_open_count p w) x))
        (values_links_lem l ok a w long (p + 76) (thread_top p w) (inr (omega arith)) u m)
        ∙ ap (mark_upvalues (ops l) l (p + 44) (thread_suspended_count p w)) (upvalues_links l ok a w long (p + 12) (thread_open_count p w) (inr (omega arith)) _ (marks_marked l ok a S long m))
        ∙ upvalues_links l ok a w long (p + 44) (thread_suspended_count p w) (inr (omega arith)) _ (marks_marked l ok a U long (marks_marked l ok a S long m))
        ∙ ap (marks l T) (sym (marks_append l S U u))
        ∙ sym (marks_append l (S ++ U) T u)
      where
        whole : ℕ → ℕ → ℕ → List ℕ
        whole n j k = mark_upvalues (ops l) l (p + 44) k (mark_upvalues (ops l) l (p + 12) j (mark_values (ops l) l (p + 76) n u))

        S : List Ref
        S = each (λ i. value_links (thread_value p i w)) (thread_top p w) 0

        U : List Ref
        U = each (λ i. upval (thread_open p i w) ∷ []) (thread_open_count p w) 0

        T : List Ref
        T = each (λ i. upval (thread_suspended p i w) ∷ []) (thread_suspended_count p w) 0

  -- A closure that is named is painted black, and its links are marked.
  module _ (r : FuncRef) (u : List ℕ) (m : Marked l w u) (named : 1 ≤ colour_w l (fun r) u) where
    abbrev closure_body : ℕ
    closure_body = body_at l.functions r.0

    closure_painted : Moves l u (paint_w l (fun r) 4 u)
    closure_painted = paint_moves l (fun r) named (still refl)

    -- Its traversal marks exactly its links.
    pub closure_links_lem : traverse_closure_at (ops l) l r u ≡ marks l (closure_links w l (body_at l.functions r.0)) (paint_w l (fun r) 4 u)
    unfolding traverse_closure_at closure_links
    closure_links_lem =
        ap (λ (t : Option TableRef). rest (mark_table_or (ops l) t (paint_w l (fun r) 4 u))) (table_stays o m (closure_body + 1) (inr (omega (arith, o.past_functions))))
        ∙ ap rest (table_link_lem l (closure_env closure_body w) (paint_w l (fun r) 4 u))
        ∙ ap (λ (x : ℕ). cond (eqb x 1) (mark_rust (ops l) l closure_body v) (mark_lua (ops l) l closure_body v)) (word closure_body (omega (arith, o.past_functions)) n)
        ∙ go (is_rust closure_body w)
        ∙ sym (marks_append l (table_link (closure_env closure_body w)) _ (paint_w l (fun r) 4 u))
      where
        rest : List ℕ → List ℕ
        rest x = cond (is_rust (body_at l.functions r.0) x) (mark_rust (ops l) l (body_at l.functions r.0) x) (mark_lua (ops l) l (body_at l.functions r.0) x)

        v : List ℕ
        v = marks l (table_link (closure_env (body_at l.functions r.0) w)) (paint_w l (fun r) 4 u)

        n : Marked l w (marks l (table_link (closure_env (body_at l.functions r.0) w)) (paint_w l (fun r) 4 u))
        n = marks_marked l ok a (table_link (closure_env closure_body w)) long (marked_then m (moves_marked l ok a closure_painted (omega (arith, m.long))))

        go : (b : Bool) → cond b (mark_rust (ops l) l (body_at l.functions r.0) v) (mark_lua (ops l) l (body_at l.functions r.0) v)
            ≡ marks l (cond b (each (λ i. value_links (closure_value (body_at l.functions r.0) i w)) (closure_count (body_at l.functions r.0) w) 0)
            (each (λ i. upval (closure_upvalue (body_at l.functions r.0) i w) ∷ []) (closure_count (body_at l.functions r.0) w) 0 ++ proto_links w l (closure_proto (body_at l.functions r.0) w))) v
        go true = rust_links closure_body (omega (arith, o.past_functions)) n
        go false = lua_links closure_body (omega (arith, o.past_functions)) n

    -- So the traversal is moves.
    pub closure_traversed : Moves l u (traverse_closure_at (ops l) l r u)
    closure_traversed = subst (λ x. Moves l u x) (sym closure_links_lem) (marks_moves l (closure_links w l closure_body) closure_painted)

  -- A thread that is named is painted black, its links are marked, and it is listed for the atomic phase.
  module _ (r : ThreadRef) (u : List ℕ) (m : Marked l w u) (named : 1 ≤ colour_w l (thread r) u) where
    abbrev thread_body : ℕ
    thread_body = body_at l.threads r.0

    abbrev painted : List ℕ
    painted = paint_w l (thread r) 4 u

    thread_painted : Moves l u painted
    thread_painted = paint_moves l (thread r) named (still refl)

    painted_marked : Marked l w painted
    painted_marked = marked_then m (moves_marked l ok a thread_painted (omega (arith, m.long)))

    global_is : mark_table_or (ops l) (thread_global thread_body u) painted ≡ marks l (table_link (thread_global thread_body w)) painted
    global_is =
        table_link_lem l (thread_global thread_body u) painted
        ∙ ap (λ (t : Option TableRef). marks l (table_link t) painted) (table_stays o m thread_body (inr (omega (arith, o.past_threads))))

    -- Its traversal marks exactly its links, and lists it.
    pub thread_links_lem : traverse_thread_at (ops l) l r u ≡ push l.grayagain (Thread r) (marks l (thread_links w (body_at l.threads r.0)) (paint_w l (thread r) 4 u))
    unfolding traverse_thread_at thread_links
    thread_links_lem =
        ap (λ (x : List ℕ). push l.grayagain (Thread r) (mark_stack (ops l) l thread_body (mark_value_at (ops l) l (thread_body + 2) x))) global_is
        ∙ ap (λ (x : List ℕ). push l.grayagain (Thread r) (mark_stack (ops l) l thread_body x))
        (value_at_links l ok a w long (marks_marked l ok a G long painted_marked) (thread_body + 2) (inr (omega (arith, o.past_threads))))
        ∙ ap (push l.grayagain (Thread r)) (stack_links_lem thread_body (omega (arith, o.past_threads)) (marks_marked l ok a H long (marks_marked l ok a G long painted_marked)))
        ∙ ap (λ (x : List ℕ). push l.grayagain (Thread r) (marks l (stack_links w thread_body) x)) (sym (marks_append l G H painted))
        ∙ ap (push l.grayagain (Thread r)) (sym (marks_append l (G ++ H) (stack_links w thread_body) painted))
      where
        G : List Ref
        G = table_link (thread_global (body_at l.threads r.0) w)

        H : List Ref
        H = value_links (thread_hook (body_at l.threads r.0) w)

    -- So the traversal is moves.
    pub thread_traversed : Moves l u (traverse_thread_at (ops l) l r u)
    thread_traversed = pushed (marks_moves l (thread_links w thread_body) thread_painted) grayagain (Thread r) thread_links_lem

    -- In the atomic phase its links but for the hook function are marked once more.
    pub again_links : retraverse_thread_at (ops l) l r u ≡ marks l (table_link (thread_global (body_at l.threads r.0) w) ++ stack_links w (body_at l.threads r.0)) (paint_w l (thread r) 4 u)
    unfolding retraverse_thread_at
    again_links =
        ap (mark_stack (ops l) l thread_body) global_is
        ∙ stack_links_lem thread_body (omega (arith, o.past_threads)) (marks_marked l ok a (table_link (thread_global thread_body w)) long painted_marked)
        ∙ sym (marks_append l (table_link (thread_global thread_body w)) (stack_links w thread_body) painted)

    -- That is moves.
    pub again_traversed : Moves l u (retraverse_thread_at (ops l) l r u)
    again_traversed = subst (λ x. Moves l u x) (sym again_links) (marks_moves l (table_link (thread_global thread_body w) ++ stack_links w thread_body) thread_painted)
