-- Marking a list of links as an induction. `P E u` says something of the words u while the links E are still to be marked.
-- If it is kept where a link is passed, where one is painted black and its links are to be marked in its place, and where
-- one is painted gray and listed, then it is kept by marking any list. Assumes nothing.
--     Direct, item_for        the kinds that are followed at once; the item by which one of the others is listed
--     marks_pends            the induction
--     marks_keep             the same for what does not speak of links that are still to be marked
use Rattle.std.specs.Prelude.{◌≡◌, Bool, cond, ℕ, zero, suc, ◌≤◌, length, Some, None, Option}
use Rattle.std.proofs.Math.Path.{refl, subst}
use Rattle.std.proofs.Common.{sym, arith}
use Rattle.std.proofs.Math.Bool.{true, false}
use mathlib.Core.List.{List, [], ◌∷◌, ◌++◌, append_assoc}
use Rattle.value.specs.declared.TableRef.{TableRef}
use Rattle.value.specs.declared.Value.{Value}
use Rattle.value.specs.declared.Value.TheVariants.{Nil, Boolean, Light, Number, Str, Table, Function, Userdata, Thread}
use Rattle.layout.specs.declared.Lay.{Lay}
use Rattle.lists.specs.declared.Item.{Item}
use Rattle.lists.specs.declared.Item.TheVariants as item
use Rattle.lists.specs.Lists.{push}
use Rattle.record.specs.Fields.{body_at}
use Rattle.record.specs.Userdata.{ud_meta, ud_env}
use Rattle.run_record.specs.Upvalues.{is_closed, upvalue_value}
use Rattle.laid.specs.Laid.{Laid}
use Rattle.mark.specs.Ops.{Ref, ref, is_white}
use Rattle.mark.specs.Words.{arena_of, shade, colour_w, paint_w}
use Rattle.mark.specs.Marking.{mark_string, mark_table, mark_closure, mark_thread}
use Rattle.links.specs.Links.{value_links, table_link, userdata_links, upvalue_links, links}
use Rattle.mark_laws.specs.Apart.{Apart}
use Rattle.mark_laws.specs.Colours.{shade_parts, white_true, not_white}
use Rattle.mark_laws.specs.Moves.{still, paint_moves}
use Rattle.mark_laws.specs.Changes.{Marked, marked_none, marked_then, moves_marked}
use Rattle.mark_laws.specs.Marks.{mark_kind, mark_ref, marks, marks_append, ref_moves, marks_marked}
use Rattle.mark_laws.specs.Kinds.{links_string, links_upvalue, links_userdata, userdata_direct, upvalue_direct}
use Rattle.mark_laws.specs.Whites.{Listed}

-- The kinds that are followed at once when they are marked: strings, upvalues, userdata.
abbrev pub Direct : ℕ → Type 0
Direct zero = Unit {0}
Direct (suc zero) = ⊥
Direct (suc (suc zero)) = ⊥
Direct (suc (suc (suc zero))) = Unit {0}
Direct (suc (suc (suc (suc zero)))) = Unit {0}
Direct (suc (suc (suc (suc (suc k))))) = ⊥

-- The item by which a table, closure or thread is listed.
abbrev pub item_kind : ℕ → ℕ → ℕ → Item
item_kind zero i g = item.Unknown
item_kind (suc zero) i g = item.Table (record { 0 = i; 1 = g })
item_kind (suc (suc zero)) i g = item.Function (record { 0 = i; 1 = g })
item_kind (suc (suc (suc zero))) i g = item.Unknown
item_kind (suc (suc (suc (suc zero)))) i g = item.Unknown
item_kind (suc (suc (suc (suc (suc zero))))) i g = item.Thread (record { 0 = i; 1 = g })
item_kind (suc (suc (suc (suc (suc (suc k)))))) i g = item.Unknown

-- the same of a handle
abbrev pub item_for : Ref → Item
item_for r = item_kind r.kind r.at r.gen

module _ (l : Lay) (ok : Laid l) (a : Apart l) (w b : List ℕ) (long : l.words ≤ length w) (P : List Ref → List ℕ → Type 0)
    (skip : (r : Ref) (E : List Ref) (u : List ℕ) → Marked l w u → is_white (colour_w l r u) ≡ false → P (r ∷ E) u → P E u)
    (black : (r : Ref) (E : List Ref) (u : List ℕ) → Marked l w u → is_white (colour_w l r u) ≡ true → Direct r.kind → P (r ∷ E) u → P (links w l b r ++ E) (paint_w l r 4 u))
    (gray : (r : Ref) (E : List Ref) (u : List ℕ) → Marked l w u → is_white (colour_w l r u) ≡ true → Listed r.kind → P (r ∷ E) u → P E (push l.gray (item_for r) (paint_w l r 3 u))) where
  -- a link that is not followed at once
  gray_pends : (r : Ref) (E : List Ref) {u : List ℕ} → Marked l w u → Listed r.kind → P (r ∷ E) u → P E (cond (is_white (colour_w l r u)) (push l.gray (item_for r) (paint_w l r 3 u)) u)
  gray_pends r E {u} m k p = go (is_white (colour_w l r u)) refl
    where
      go : (c : Bool) → is_white (colour_w l r u) ≡ c → P E (cond c (push l.gray (item_for r) (paint_w l r 3 u)) u)
      go true e = gray r E u m e k p
      go false e = skip r E u m e p

  string_pends : (i g : ℕ) (E : List Ref) {u : List ℕ} → Marked l w u → P (ref 0 i g ∷ E) u → P E (mark_ref l (ref 0 i g) u)
  unfolding mark_string
  string_pends i g E {u} m p = go (is_white (colour_w l (ref 0 i g) u)) refl
    where
      go : (c : Bool) → is_white (colour_w l (ref 0 i g) u) ≡ c → P E (cond c (paint_w l (ref 0 i g) 4 u) u)
      go true e = subst (λ rs. P (rs ++ E) (paint_w l (ref 0 i g) 4 u)) (links_string w l b (record { 0 = i; 1 = g })) (black (ref 0 i g) E u m e tt p)
      go false e = skip (ref 0 i g) E u m e p

  table_pends : (i g : ℕ) (E : List Ref) {u : List ℕ} → Marked l w u → P (ref 1 i g ∷ E) u → P E (mark_ref l (ref 1 i g) u)
  unfolding mark_table
  table_pends i g E m p = gray_pends (ref 1 i g) E m tt p

  closure_pends : (i g : ℕ) (E : List Ref) {u : List ℕ} → Marked l w u → P (ref 2 i g ∷ E) u → P E (mark_ref l (ref 2 i g) u)
  unfolding mark_closure
  closure_pends i g E m p = gray_pends (ref 2 i g) E m tt p

  thread_pends : (i g : ℕ) (E : List Ref) {u : List ℕ} → Marked l w u → P (ref 5 i g ∷ E) u → P E (mark_ref l (ref 5 i g) u)
  unfolding mark_thread
  thread_pends i g E m p = gray_pends (ref 5 i g) E m tt p

  -- a table that may be missing
  table_or_pends : (t : Option TableRef) (E : List Ref) {u : List ℕ} → Marked l w u → P (table_link t ++ E) u → P E (marks l (table_link t) u)
  unfolding marks
  table_or_pends (Some r) E m p = table_pends r.0 r.1 E m p
  table_or_pends None E m p = p

  painted : (r : Ref) {u : List ℕ} → Marked l w u → is_white (colour_w l r u) ≡ true → Marked l w (paint_w l r 4 u)
  painted r {u} m e = marked_then m (moves_marked l ok a (paint_moves l r (white_true (colour_w l r u) e).0 (still refl)) (omega (arith, m.long)))

  -- A userdata: its two tables.
  userdata_pends : (i g : ℕ) (E : List Ref) {u : List ℕ} → Marked l w u → P (ref 4 i g ∷ E) u → P E (mark_ref l (ref 4 i g) u)
  unfolding userdata_links
  userdata_pends i g E {u} m p = subst (λ x. P E x) (sym (userdata_direct l ok a w b long u m (record { 0 = i; 1 = g }))) (go (is_white (colour_w l (ref 4 i g) u)) refl)
    where
      A : List Ref
      A = table_link (ud_meta (body_at l.userdata i) w)

      B : List Ref
      B = table_link (ud_env (body_at l.userdata i) w)

      both : {v : List ℕ} → Marked l w v → P ((A ++ B) ++ E) v → P E (marks l (A ++ B) v)
      both {v} n q =
          subst (λ x. P E x) (sym (marks_append l A B v))
          (table_or_pends (ud_env (body_at l.userdata i) w) E (marks_marked l ok a A long n)
          (table_or_pends (ud_meta (body_at l.userdata i) w) (B ++ E) n (subst (λ rs. P rs v) (append_assoc A B E) q)))

      go : (c : Bool) → is_white (colour_w l (ref 4 i g) u) ≡ c → P E (cond c (marks l (links w l b (ref 4 i g)) (paint_w l (ref 4 i g) 4 u)) u)
      go false e = skip (ref 4 i g) E u m e p
      go true e =
          subst (λ rs. P (rs ++ E) (paint_w l (ref 4 i g) 4 u) → P E (marks l rs (paint_w l (ref 4 i g) 4 u))) (sym (links_userdata w l b (record { 0 = i; 1 = g })))
          (both (painted (ref 4 i g) m e)) (black (ref 4 i g) E u m e tt p)

  -- what a value refers to
  value_pends : (v : Value) (E : List Ref) {u : List ℕ} → Marked l w u → P (value_links v ++ E) u → P E (marks l (value_links v) u)
  unfolding marks
  value_pends Nil E m p = p
  value_pends (Boolean x) E m p = p
  value_pends (Light x) E m p = p
  value_pends (Number x) E m p = p
  value_pends (Str r) E m p = string_pends r.0 r.1 E m p
  value_pends (Table r) E m p = table_pends r.0 r.1 E m p
  value_pends (Function r) E m p = closure_pends r.0 r.1 E m p
  value_pends (Userdata r) E m p = userdata_pends r.0 r.1 E m p
  value_pends (Thread r) E m p = thread_pends r.0 r.1 E m p

  -- An upvalue: its value, if it is closed.
  upvalue_pends : (i g : ℕ) (E : List Ref) {u : List ℕ} → Marked l w u → P (ref 3 i g ∷ E) u → P E (mark_ref l (ref 3 i g) u)
  unfolding upvalue_links marks
  upvalue_pends i g E {u} m p = subst (λ x. P E x) (sym (upvalue_direct l ok a w b long u m (record { 0 = i; 1 = g }))) (go (is_white (colour_w l (ref 3 i g) u)) refl)
    where
      closed : (c : Bool) {v : List ℕ} → Marked l w v → P (cond c (value_links (upvalue_value (body_at l.upvalues i) w)) [] ++ E) v
          → P E (marks l (cond c (value_links (upvalue_value (body_at l.upvalues i) w)) []) v)
      closed true n q = value_pends (upvalue_value (body_at l.upvalues i) w) E n q
      closed false n q = q

      go : (c : Bool) → is_white (colour_w l (ref 3 i g) u) ≡ c → P E (cond c (marks l (links w l b (ref 3 i g)) (paint_w l (ref 3 i g) 4 u)) u)
      go false e = skip (ref 3 i g) E u m e p
      go true e =
          subst (λ rs. P (rs ++ E) (paint_w l (ref 3 i g) 4 u) → P E (marks l rs (paint_w l (ref 3 i g) 4 u))) (sym (links_upvalue w l b (record { 0 = i; 1 = g })))
          (closed (is_closed (body_at l.upvalues i) w) (painted (ref 3 i g) m e)) (black (ref 3 i g) E u m e tt p)

  -- a kind that no arena has
  none_pends : (k i g : ℕ) (E : List Ref) {u : List ℕ} → Marked l w u → P (ref (suc (suc (suc (suc (suc (suc k)))))) i g ∷ E) u → P E u
  none_pends k i g E {u} m p = skip (ref (suc (suc (suc (suc (suc (suc k)))))) i g) E u m (not_white _ none none) p
    where
      none : {c : ℕ} → shade (arena_of l (suc (suc (suc (suc (suc (suc k))))))) i g u ≡ suc c → ⊥
      none e = omega (arith, (shade_parts (arena_of l (suc (suc (suc (suc (suc (suc k))))))) i g u (omega (arith, e))).0)

  -- one link
  ref_pends : (r : Ref) (E : List Ref) {u : List ℕ} → Marked l w u → P (r ∷ E) u → P E (mark_ref l r u)
  ref_pends r E {u} m p = go r.kind p
    where
      go : (k : ℕ) → P (ref k r.at r.gen ∷ E) u → P E (mark_kind l k r.at r.gen u)
      go zero q = string_pends r.at r.gen E m q
      go (suc zero) q = table_pends r.at r.gen E m q
      go (suc (suc zero)) q = closure_pends r.at r.gen E m q
      go (suc (suc (suc zero))) q = upvalue_pends r.at r.gen E m q
      go (suc (suc (suc (suc zero)))) q = userdata_pends r.at r.gen E m q
      go (suc (suc (suc (suc (suc zero))))) q = thread_pends r.at r.gen E m q
      go (suc (suc (suc (suc (suc (suc k)))))) q = none_pends k r.at r.gen E m q

  -- Marking a list of links strikes it off what is to be marked.
  pub marks_pends : (rs E : List Ref) {u : List ℕ} → Marked l w u → P (rs ++ E) u → P E (marks l rs u)
  unfolding marks
  marks_pends [] E m p = p
  marks_pends (r ∷ rs) E {u} m p =
      marks_pends rs E (marked_then m (moves_marked l ok a (ref_moves l r (still refl)) (omega (arith, m.long)))) (ref_pends r (rs ++ E) m p)

-- What painting a white slot keeps, black at once or gray and listed, is kept by marking any list of links.
module _ (l : Lay) (ok : Laid l) (a : Apart l) (Q : List ℕ → Type 0)
    (black : (r : Ref) (u : List ℕ) → l.words ≤ length u → is_white (colour_w l r u) ≡ true → Direct r.kind → Q u → Q (paint_w l r 4 u))
    (gray : (r : Ref) (u : List ℕ) → l.words ≤ length u → is_white (colour_w l r u) ≡ true → Listed r.kind → Q u → Q (push l.gray (item_for r) (paint_w l r 3 u))) where
  pub marks_keep : (rs : List Ref) (w : List ℕ) → l.words ≤ length w → Q w → Q (marks l rs w)
  marks_keep rs w long q =
      marks_pends l ok a w [] long (λ E u. Q u) (λ r E u m e p. p) (λ r E u m e d p. black r u (omega (arith, m.long)) e d p)
      (λ r E u m e d p. gray r u (omega (arith, m.long)) e d p) rs [] marked_none q
