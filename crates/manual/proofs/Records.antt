-- The references of the instance, place by place, are the lists of document 01's 'Followed links'. Assumes nothing.
--     links_out, links_in       an object refers to a followed link, by its record or, a table, by an entry; and the other way round
--     rooted_out, rooted_in     what a program has at hand are the roots
use Rattle.std.specs.Prelude.{◌≡◌, Bool, cond, ◌⊎◌, ℕ, zero, suc, ◌+◌, ◌≤◌, ◌<◌}
use Rattle.std.proofs.Math.Path.{refl, sym, subst}
use Rattle.std.proofs.Common.{ap, ◌∙◌, arith}
use Rattle.std.proofs.Math.Bool.{true, false}
use mathlib.Core.List.Memᴰ
use mathlib.Core.List.{List, [], ◌∷◌, ◌++◌, Memᴰ}
use Rattle.std.proofs.Math.Logic.{inl, inr, ⊎_elim}
use Rattle.std.proofs.Math.Decide.{dec_lt}
use Rattle.base.specs.Ways.{if_lt, if_eq, eq_no, lt_yes, lt_no}
use Rattle.layout.specs.declared.Lay.{Lay}
use Rattle.record.specs.Tables.{table_meta}
use Rattle.record.specs.Userdata.{ud_meta, ud_env}
use Rattle.run_record.specs.Closures.{is_rust, closure_env, closure_proto, closure_count, closure_upvalue, closure_value}
use Rattle.run_record.specs.Upvalues.{is_closed, upvalue_value}
use Rattle.run_record.specs.Threads.{thread_global, thread_hook, thread_top, thread_open_count, thread_suspended_count, thread_open, thread_suspended, thread_value}
use Rattle.main_record.specs.Main.{main_top, main_open_count, main_ci, main_error, main_hook, global, registry, mode_name, gc_name, type_meta, main_value, main_open, frame_function}
use Rattle.mark.specs.Ops.{Ref, ref, upval}
use Rattle.modes.specs.Modes.{weak_mode}
use Rattle.links.specs.Links.{value_links, table_link, string_link, each, entry_links, table_links, closure_links, upvalue_links, userdata_links, stack_links, thread_links, proto_links, frame_links, main_links, root_links, links, roots}
use Rattle.mark_laws.specs.Kinds.{links_table, links_closure, links_upvalue, links_userdata, links_thread}
use Rattle.atomic_laws.proofs.Spares.{each_out, each_in}
use Rattle.manual.specs.Instance.{
  Rooted,
  Rooted-global,
  Rooted-registry,
  Rooted-type,
  Rooted-mode,
  Rooted-gc,
  Rooted-stack,
  Rooted-open,
  Rooted-error,
  Rooted-hook,
  Rooted-frame,
  Refers,
  Refers-table_meta,
  Refers-closure_env,
  Refers-closure_value,
  Refers-closure_upvalue,
  Refers-closure_constant,
  Refers-upvalue_closed,
  Refers-userdata_meta,
  Refers-userdata_env,
  Refers-thread_global,
  Refers-thread_hook,
  Refers-thread_stack,
  Refers-thread_open,
  Refers-thread_suspended,
  in_tables,
  in_functions,
  in_upvalues,
  in_userdata,
  in_threads,
}

-- one of lists joined, from the first on
any_out : (g : ℕ → List Ref) (n : ℕ) (q : Ref) → Memᴰ q (each g n 0) → (i : ℕ) × (i < n) × Memᴰ q (g i)
any_out g n q m = let c = each_out g n 0 q m in (c.0, omega (arith, c.2), c.3)

any_in : (g : ℕ → List Ref) (n : ℕ) (q : Ref) (i : ℕ) → i < n → Memᴰ q (g i) → Memᴰ q (each g n 0)
any_in g n q i f m = each_in g n 0 i q (omega arith) (omega (arith, f)) m

-- a part that stands only below a bound
below_out : (m n : ℕ) (xs : List Ref) (q : Ref) → Memᴰ q (if_lt m n xs []) → (m < n) × Memᴰ q xs
below_out m n xs q h = go (dec_lt m n)
  where
    go : Dec (m < n) → (m < n) × Memᴰ q xs
    go (yes f) = (f, subst (λ ys. Memᴰ q ys) (sym (lt_yes m n xs [] xs f refl)) h)
    go (no f) = absurd (Memᴰ.not-nil (subst (λ ys. Memᴰ q ys) (sym (lt_no m n xs [] [] (omega (arith, f)) refl)) h))

below_in : (m n : ℕ) (xs : List Ref) (q : Ref) → m < n → Memᴰ q xs → Memᴰ q (if_lt m n xs [])
below_in m n xs q f h = subst (λ ys. Memᴰ q ys) (lt_yes m n xs [] xs f refl) h

module _ (l : Lay) (w b : List ℕ) where
  -- `links` of a handle, by its kind
  by_kind : (r : Ref) (k : ℕ) → r.kind ≡ k → links w l b r ≡ links w l b (ref k r.at r.gen)
  by_kind r k e = ap (λ (n : ℕ). links w l b (ref n r.at r.gen)) e

  of_table : (r : Ref) → r.kind ≡ 1 → links w l b r ≡ table_links w l b (in_tables l w b r)
  of_table r e = by_kind r 1 e ∙ links_table w l b (record { 0 = r.at; 1 = r.gen })

  of_closure : (r : Ref) → r.kind ≡ 2 → links w l b r ≡ closure_links w l (in_functions l w b r)
  of_closure r e = by_kind r 2 e ∙ links_closure w l b (record { 0 = r.at; 1 = r.gen })

  of_upvalue : (r : Ref) → r.kind ≡ 3 → links w l b r ≡ upvalue_links w (in_upvalues l w b r)
  of_upvalue r e = by_kind r 3 e ∙ links_upvalue w l b (record { 0 = r.at; 1 = r.gen })

  of_userdata_lem : (r : Ref) → r.kind ≡ 4 → links w l b r ≡ userdata_links w (in_userdata l w b r)
  of_userdata_lem r e = by_kind r 4 e ∙ links_userdata w l b (record { 0 = r.at; 1 = r.gen })

  of_thread : (r : Ref) → r.kind ≡ 5 → links w l b r ≡ thread_links w (in_threads l w b r)
  of_thread r e = by_kind r 5 e ∙ links_thread w l b (record { 0 = r.at; 1 = r.gen })

  of_string : (i g : ℕ) → links w l b (ref 0 i g) ≡ []
  unfolding links if_eq
  of_string i g = refl

  of_other : (r : Ref) → 6 ≤ r.kind → links w l b r ≡ []
  unfolding links
  of_other r f =
      sym (eq_no r.kind 1 _ _ [] (λ e. omega (arith, e, f)) (eq_no r.kind 2 _ _ [] (λ e. omega (arith, e, f)) (eq_no r.kind 3 _ _ [] (λ e. omega (arith, e, f))
      (eq_no r.kind 4 _ _ [] (λ e. omega (arith, e, f)) (eq_no r.kind 5 _ _ [] (λ e. omega (arith, e, f)) refl)))))

  module _ (r q : Ref) where
    abbrev In : List Ref → Type 0
    In xs = Memᴰ q xs

    abbrev pub Entries : Type 0
    Entries = (r.kind ≡ 1) × In (entry_links w (weak_mode l (table_meta (in_tables l w b r) w) w b) (in_tables l w b r))

    -- Each followed link is a reference of the record, or one of a table's entries.
    table_out : r.kind ≡ 1 → In (table_links w l b (in_tables l w b r)) → Refers l w b r q ⊎ Entries
    unfolding table_links
    table_out k h = ⊎_elim (λ i. inl (Refers-table_meta k i)) (λ i. inr (k, i)) (Memᴰ.append_cases (table_link (table_meta (in_tables l w b r) w)) h)

    abbrev f : ℕ
    f = in_functions l w b r

    abbrev rusts : List Ref
    rusts = each (λ i. value_links (closure_value f i w)) (closure_count f w) 0

    abbrev luas : List Ref
    luas = each (λ i. upval (closure_upvalue f i w) ∷ []) (closure_count f w) 0

    closure_out : r.kind ≡ 2 → In (closure_links w l f) → Refers l w b r q
    unfolding closure_links
    closure_out k h = ⊎_elim (λ i. Refers-closure_env k i) (λ i. by_sort (is_rust f w) refl i) (Memᴰ.append_cases (table_link (closure_env f w)) h)
      where
        upvalue : is_rust f w ≡ false → In luas → Refers l w b r q
        upvalue e i = let c = any_out (λ i. upval (closure_upvalue f i w) ∷ []) (closure_count f w) q i in Refers-closure_upvalue k e c.0 c.1 (Memᴰ.eq_of_singleton c.2)

        by_sort : (c : Bool) → is_rust f w ≡ c → In (cond c rusts (luas ++ proto_links w l (closure_proto f w))) → Refers l w b r q
        by_sort true e i = let c = any_out (λ i. value_links (closure_value f i w)) (closure_count f w) q i in Refers-closure_value k e c.0 c.1 c.2
        by_sort false e i = ⊎_elim (λ j. upvalue e j) (λ j. Refers-closure_constant k e j) (Memᴰ.append_cases luas i)

    upvalue_out : r.kind ≡ 3 → In (upvalue_links w (in_upvalues l w b r)) → Refers l w b r q
    unfolding upvalue_links
    upvalue_out k h = go (is_closed (in_upvalues l w b r) w) refl h
      where
        go : (c : Bool) → is_closed (in_upvalues l w b r) w ≡ c → In (cond c (value_links (upvalue_value (in_upvalues l w b r) w)) []) → Refers l w b r q
        go true e i = Refers-upvalue_closed k e i
        go false e i = absurd (Memᴰ.not-nil i)

    userdata_out : r.kind ≡ 4 → In (userdata_links w (in_userdata l w b r)) → Refers l w b r q
    unfolding userdata_links
    userdata_out k h = ⊎_elim (λ i. Refers-userdata_meta k i) (λ i. Refers-userdata_env k i) (Memᴰ.append_cases (table_link (ud_meta (in_userdata l w b r) w)) h)

    abbrev t : ℕ
    t = in_threads l w b r

    abbrev stack : List Ref
    stack = each (λ i. value_links (thread_value t i w)) (thread_top t w) 0

    abbrev opens : List Ref
    opens = each (λ i. upval (thread_open t i w) ∷ []) (thread_open_count t w) 0

    abbrev suspended : List Ref
    suspended = each (λ i. upval (thread_suspended t i w) ∷ []) (thread_suspended_count t w) 0

    abbrev before : List Ref
    before = table_link (thread_global t w) ++ value_links (thread_hook t w)

    thread_out : r.kind ≡ 5 → In (thread_links w t) → Refers l w b r q
    unfolding thread_links stack_links
    thread_out k h = ⊎_elim (λ i. ⊎_elim (λ j. Refers-thread_global k j) (λ j. Refers-thread_hook k j) (Memᴰ.append_cases (table_link (thread_global t w)) i)) on_stack (Memᴰ.append_cases before h)
      where
        on_stack : In (stack ++ opens ++ suspended) → Refers l w b r q
        on_stack h =
            ⊎_elim (λ i. ⊎_elim
            (λ j. let c = any_out (λ i. value_links (thread_value t i w)) (thread_top t w) q j in Refers-thread_stack k c.0 c.1 c.2)
            (λ j. let c = any_out (λ i. upval (thread_open t i w) ∷ []) (thread_open_count t w) q j in Refers-thread_open k c.0 c.1 (Memᴰ.eq_of_singleton c.2))
            (Memᴰ.append_cases stack i))
            (λ j. let c = any_out (λ i. upval (thread_suspended t i w) ∷ []) (thread_suspended_count t w) q j in Refers-thread_suspended k c.0 c.1 (Memᴰ.eq_of_singleton c.2))
            (Memᴰ.append_cases (stack ++ opens) h)

    pub links_out : In (links w l b r) → Refers l w b r q ⊎ Entries
    links_out h = go r.kind refl
      where
        seen : {xs : List Ref} → links w l b r ≡ xs → In xs
        seen e = subst In e h

        none : {xs : List Ref} → links w l b r ≡ xs → xs ≡ [] → Refers l w b r q ⊎ Entries
        none e z = absurd (Memᴰ.not-nil (subst In (e ∙ z) h))

        go : (k : ℕ) → r.kind ≡ k → Refers l w b r q ⊎ Entries
        go zero e = none (by_kind r 0 e) (of_string r.at r.gen)
        go (suc zero) e = table_out e (seen (of_table r e))
        go (suc (suc zero)) e = inl (closure_out e (seen (of_closure r e)))
        go (suc (suc (suc zero))) e = inl (upvalue_out e (seen (of_upvalue r e)))
        go (suc (suc (suc (suc zero)))) e = inl (userdata_out e (seen (of_userdata_lem r e)))
        go (suc (suc (suc (suc (suc zero))))) e = inl (thread_out e (seen (of_thread r e)))
        go (suc (suc (suc (suc (suc (suc k)))))) e = none (of_other r (omega (arith, e))) refl

    -- Each reference of the record is a followed link,
    closure_in_lem : (c : Bool) → is_rust f w ≡ c → In (cond c rusts (luas ++ proto_links w l (closure_proto f w))) → In (closure_links w l f)
    unfolding closure_links
    closure_in_lem c e i = Memᴰ.append_right (table_link (closure_env f w)) (subst (λ x. In (cond x rusts (luas ++ proto_links w l (closure_proto f w)))) (sym e) i)

    closure_env_in : In (table_link (closure_env f w)) → In (closure_links w l f)
    unfolding closure_links
    closure_env_in i = Memᴰ.append_left (cond (is_rust f w) rusts (luas ++ proto_links w l (closure_proto f w))) i

    upvalue_in_lem : is_closed (in_upvalues l w b r) w ≡ true → In (value_links (upvalue_value (in_upvalues l w b r) w)) → In (upvalue_links w (in_upvalues l w b r))
    unfolding upvalue_links
    upvalue_in_lem e i = subst (λ x. In (cond x (value_links (upvalue_value (in_upvalues l w b r) w)) [])) (sym e) i

    userdata_in_lem : In (table_link (ud_meta (in_userdata l w b r) w) ++ table_link (ud_env (in_userdata l w b r) w)) → In (userdata_links w (in_userdata l w b r))
    unfolding userdata_links
    userdata_in_lem i = i

    thread_in_lem : In (before ++ (stack ++ opens ++ suspended)) → In (thread_links w t)
    unfolding thread_links stack_links
    thread_in_lem i = i

    table_in_lem : In (table_link (table_meta (in_tables l w b r) w)) → In (table_links w l b (in_tables l w b r))
    unfolding table_links
    table_in_lem i = Memᴰ.append_left (entry_links w (weak_mode l (table_meta (in_tables l w b r) w) w b) (in_tables l w b r)) i

    back : {xs : List Ref} → links w l b r ≡ xs → In xs → In (links w l b r)
    back e i = subst In (sym e) i

    pub links_in : Refers l w b r q → In (links w l b r)
    links_in (Refers-table_meta k i) = back (of_table r k) (table_in_lem i)
    links_in (Refers-closure_env k i) = back (of_closure r k) (closure_env_in i)
    links_in (Refers-closure_value k e i h m) = back (of_closure r k) (closure_in_lem true e (any_in (λ i. value_links (closure_value f i w)) (closure_count f w) q i h m))
    links_in (Refers-closure_upvalue k e i h m) =
        back (of_closure r k) (closure_in_lem false e (Memᴰ.append_left (proto_links w l (closure_proto f w)) (any_in (λ i. upval (closure_upvalue f i w) ∷ []) (closure_count f w) q i h (Memᴰ.head m))))
    links_in (Refers-closure_constant k e m) = back (of_closure r k) (closure_in_lem false e (Memᴰ.append_right luas m))
    links_in (Refers-upvalue_closed k e m) = back (of_upvalue r k) (upvalue_in_lem e m)
    links_in (Refers-userdata_meta k m) = back (of_userdata_lem r k) (userdata_in_lem (Memᴰ.append_left (table_link (ud_env (in_userdata l w b r) w)) m))
    links_in (Refers-userdata_env k m) = back (of_userdata_lem r k) (userdata_in_lem (Memᴰ.append_right (table_link (ud_meta (in_userdata l w b r) w)) m))
    links_in (Refers-thread_global k m) = back (of_thread r k) (thread_in_lem (Memᴰ.append_left (stack ++ opens ++ suspended) (Memᴰ.append_left (value_links (thread_hook t w)) m)))
    links_in (Refers-thread_hook k m) = back (of_thread r k) (thread_in_lem (Memᴰ.append_left (stack ++ opens ++ suspended) (Memᴰ.append_right (table_link (thread_global t w)) m)))
    links_in (Refers-thread_stack k i h m) =
        back (of_thread r k) (thread_in_lem (Memᴰ.append_right before (Memᴰ.append_left suspended (Memᴰ.append_left opens (any_in (λ i. value_links (thread_value t i w)) (thread_top t w) q i h m)))))
    links_in (Refers-thread_open k i h m) =
        back (of_thread r k) (thread_in_lem (Memᴰ.append_right before (Memᴰ.append_left suspended (Memᴰ.append_right stack (any_in (λ i. upval (thread_open t i w) ∷ []) (thread_open_count t w) q i h (Memᴰ.head m))))))
    links_in (Refers-thread_suspended k i h m) =
        back (of_thread r k) (thread_in_lem (Memᴰ.append_right before (Memᴰ.append_right (stack ++ opens) (any_in (λ i. upval (thread_suspended t i w) ∷ []) (thread_suspended_count t w) q i h (Memᴰ.head m)))))

    -- and so is each of a table's entries.
    pub entries_in : Entries → In (links w l b r)
    unfolding table_links
    entries_in (k, i) = back (of_table r k) (Memᴰ.append_right (table_link (table_meta (in_tables l w b r) w)) i)

  -- The roots.
  module _ (q : Ref) where
    abbrev G : List Ref
    G = table_link (global w)

    abbrev R : List Ref
    R = table_link (registry w)

    abbrev T : List Ref
    T = each (λ k. table_link (type_meta k w)) 9 0

    abbrev M : List Ref
    M = string_link (mode_name w)

    abbrev C : List Ref
    C = string_link (gc_name w)

    abbrev S : List Ref
    S = each (λ i. value_links (main_value l i w)) (main_top l w) 0

    abbrev O : List Ref
    O = each (λ i. upval (main_open l i w) ∷ []) (main_open_count l w) 0

    abbrev E : List Ref
    E = value_links (main_error w)

    abbrev H : List Ref
    H = value_links (main_hook w)

    abbrev F : List Ref
    F = each (frame_links w l) (main_ci l w + 1) 0

    frame_out : Memᴰ q F → Rooted l w b q
    unfolding frame_links
    frame_out m =
        let c = any_out (frame_links w l) (main_ci l w + 1) q m in
        let d = below_out (frame_function l c.0 w) l.stack.room (value_links (main_value l (frame_function l c.0 w) w)) q c.2 in
        Rooted-frame c.0 (omega (arith, c.1)) d.0 d.1

    frame_in_lem : (i : ℕ) → i ≤ main_ci l w → frame_function l i w < l.stack.room → Memᴰ q (value_links (main_value l (frame_function l i w) w)) → Memᴰ q F
    unfolding frame_links
    frame_in_lem i f g m = any_in (frame_links w l) (main_ci l w + 1) q i (omega (arith, f)) (below_in (frame_function l i w) l.stack.room (value_links (main_value l (frame_function l i w) w)) q g m)

    first_out : Memᴰ q (G ++ R ++ T ++ M ++ C) → Rooted l w b q
    first_out m =
        ⊎_elim (λ m. ⊎_elim (λ m. ⊎_elim (λ m. ⊎_elim (λ m. Rooted-global m) (λ m. Rooted-registry m) (Memᴰ.append_cases G m))
        (λ m. let c = any_out (λ k. table_link (type_meta k w)) 9 q m in Rooted-type c.0 c.1 c.2) (Memᴰ.append_cases (G ++ R) m))
        (λ m. Rooted-mode m) (Memᴰ.append_cases (G ++ R ++ T) m))
        (λ m. Rooted-gc m) (Memᴰ.append_cases (G ++ R ++ T ++ M) m)

    main_out : Memᴰ q (S ++ O ++ E ++ H ++ F) → Rooted l w b q
    main_out m =
        ⊎_elim (λ m. ⊎_elim (λ m. ⊎_elim (λ m. ⊎_elim
        (λ m. let c = any_out (λ i. value_links (main_value l i w)) (main_top l w) q m in Rooted-stack c.0 c.1 c.2)
        (λ m. let c = any_out (λ i. upval (main_open l i w) ∷ []) (main_open_count l w) q m in Rooted-open c.0 c.1 (Memᴰ.eq_of_singleton c.2))
        (Memᴰ.append_cases S m))
        (λ m. Rooted-error m) (Memᴰ.append_cases (S ++ O) m))
        (λ m. Rooted-hook m) (Memᴰ.append_cases (S ++ O ++ E) m))
        frame_out (Memᴰ.append_cases (S ++ O ++ E ++ H) m)

    pub rooted_out : Memᴰ q (roots w l b) → Rooted l w b q
    unfolding root_links main_links
    rooted_out m = ⊎_elim first_out main_out (Memᴰ.append_cases (G ++ R ++ T ++ M ++ C) m)

    first_in : Memᴰ q (G ++ R ++ T ++ M ++ C) → Memᴰ q (roots w l b)
    unfolding root_links
    first_in m = Memᴰ.append_left (main_links w l) m

    main_in_lem : Memᴰ q (S ++ O ++ E ++ H ++ F) → Memᴰ q (roots w l b)
    unfolding main_links
    main_in_lem m = Memᴰ.append_right (root_links w l) m

    pub rooted_in : Rooted l w b q → Memᴰ q (roots w l b)
    rooted_in (Rooted-global m) = first_in (Memᴰ.append_left C (Memᴰ.append_left M (Memᴰ.append_left T (Memᴰ.append_left R m))))
    rooted_in (Rooted-registry m) = first_in (Memᴰ.append_left C (Memᴰ.append_left M (Memᴰ.append_left T (Memᴰ.append_right G m))))
    rooted_in (Rooted-type k f m) = first_in (Memᴰ.append_left C (Memᴰ.append_left M (Memᴰ.append_right (G ++ R) (any_in (λ k. table_link (type_meta k w)) 9 q k f m))))
    rooted_in (Rooted-mode m) = first_in (Memᴰ.append_left C (Memᴰ.append_right (G ++ R ++ T) m))
    rooted_in (Rooted-gc m) = first_in (Memᴰ.append_right (G ++ R ++ T ++ M) m)
    rooted_in (Rooted-stack i f m) = main_in_lem (Memᴰ.append_left F (Memᴰ.append_left H (Memᴰ.append_left E (Memᴰ.append_left O (any_in (λ i. value_links (main_value l i w)) (main_top l w) q i f m)))))
    rooted_in (Rooted-open i f e) = main_in_lem (Memᴰ.append_left F (Memᴰ.append_left H (Memᴰ.append_left E (Memᴰ.append_right S (any_in (λ i. upval (main_open l i w) ∷ []) (main_open_count l w) q i f (Memᴰ.head e))))))
    rooted_in (Rooted-error m) = main_in_lem (Memᴰ.append_left F (Memᴰ.append_left H (Memᴰ.append_right (S ++ O) m)))
    rooted_in (Rooted-hook m) = main_in_lem (Memᴰ.append_left F (Memᴰ.append_right (S ++ O ++ E) m))
    rooted_in (Rooted-frame i f g m) = main_in_lem (Memᴰ.append_right (S ++ O ++ E ++ H) (frame_in_lem i f g m))
