-- The links of each kind as one list, `links`, and what marking does by kind: a string, an upvalue or a userdata that is
-- white becomes black and its links are marked at once; the other kinds become gray and their links are marked when they are
-- traversed. `w` are the words before any marking, `u` those that a definition is given. Assumes nothing.
--     links_string, links_table, links_closure, links_upvalue, links_userdata, links_thread     what `links` lists for a kind
--     string_direct, upvalue_direct, userdata_direct     the kinds that are followed at once
--     closure_later, thread_later      the traversals of closures and threads (a table has its listing in between: table_links_lem)
use Rattle.std.specs.Prelude.{◌≡◌, Bool, List, [], ℕ, ◌≤◌, length}
use Rattle.std.proofs.Math.Path.{refl, ap}
use Rattle.std.proofs.Common.{sym, ◌∙◌}
use Rattle.std.proofs.Math.Bool.{true, false, cond}
use Rattle.base.specs.Ways.{if_eq}
use Rattle.value.specs.declared.StrRef.{StrRef}
use Rattle.value.specs.declared.TableRef.{TableRef}
use Rattle.value.specs.declared.FuncRef.{FuncRef}
use Rattle.value.specs.declared.UpvalRef.{UpvalRef}
use Rattle.value.specs.declared.UdRef.{UdRef}
use Rattle.value.specs.declared.ThreadRef.{ThreadRef}
use Rattle.layout.specs.declared.Lay.{Lay}
use Rattle.lists.specs.declared.Item.TheVariants.{Thread}
use Rattle.lists.specs.Lists.{push}
use Rattle.record.specs.Fields.{body_at}
use Rattle.laid.specs.Laid.{Laid}
use Rattle.mark.specs.Ops.{str, tab, fun, upval, ud, thread, is_white}
use Rattle.mark.specs.Words.{colour_w, paint_w, ops}
use Rattle.mark.specs.Marking.{mark_string, mark_userdata, follow_upvalue, mark_upvalue}
use Rattle.run_walk.specs.Closures.{traverse_closure_at}
use Rattle.run_walk.specs.Threads.{traverse_thread_at}
use Rattle.links.specs.Links.{table_links, closure_links, upvalue_links, userdata_links, thread_links, links}
use Rattle.mark_laws.specs.Apart.{Apart}
use Rattle.mark_laws.specs.Colours.{white_true}
use Rattle.mark_laws.specs.Changes.{Marked}
use Rattle.mark_laws.specs.Marks.{marks}
use Rattle.mark_laws.specs.Follows.{userdata_links_lem, upvalue_links_lem}
use Rattle.mark_laws.specs.RunLinks.{closure_links_lem, thread_links_lem}

-- What `links` lists for each kind.
module _ (w : List ℕ) (l : Lay) (b : List ℕ) where
  -- a string has none
  pub links_string : (r : StrRef) → links w l b (str r) ≡ []
  unfolding links if_eq
  links_string r = refl

  -- a table
  pub links_table : (r : TableRef) → links w l b (tab r) ≡ table_links w l b (body_at l.tables r.0)
  unfolding links if_eq
  links_table r = refl

  -- a closure
  pub links_closure : (r : FuncRef) → links w l b (fun r) ≡ closure_links w l (body_at l.functions r.0)
  unfolding links if_eq
  links_closure r = refl

  -- an upvalue
  pub links_upvalue : (r : UpvalRef) → links w l b (upval r) ≡ upvalue_links w (body_at l.upvalues r.0)
  unfolding links if_eq
  links_upvalue r = refl

  -- a userdata
  pub links_userdata : (r : UdRef) → links w l b (ud r) ≡ userdata_links w (body_at l.userdata r.0)
  unfolding links if_eq
  links_userdata r = refl

  -- a thread
  pub links_thread : (r : ThreadRef) → links w l b (thread r) ≡ thread_links w (body_at l.threads r.0)
  unfolding links if_eq
  links_thread r = refl

module _ (l : Lay) (ok : Laid l) (a : Apart l) (w b : List ℕ) (long : l.words ≤ length w) (u : List ℕ) (m : Marked l w u) where
  -- A white string becomes black; it has no links.
  pub string_direct : (r : StrRef) → mark_string (ops l) r u ≡ cond (is_white (colour_w l (str r) u)) (marks l (links w l b (str r)) (paint_w l (str r) 4 u)) u
  unfolding mark_string marks
  string_direct r = ap (λ rs. cond (is_white (colour_w l (str r) u)) (marks l rs (paint_w l (str r) 4 u)) u) (sym (links_string w l b r))

  -- A white userdata becomes black, and its links are marked.
  pub userdata_direct : (r : UdRef) → mark_userdata (ops l) l r u ≡ cond (is_white (colour_w l (ud r) u)) (marks l (links w l b (ud r)) (paint_w l (ud r) 4 u)) u
  unfolding mark_userdata
  userdata_direct r =
      ap (λ x. cond (is_white (colour_w l (ud r) u)) x u)
      (userdata_links_lem l ok a w long r u m ∙ ap (λ rs. marks l rs (paint_w l (ud r) 4 u)) (sym (links_userdata w l b r)))

  -- A white upvalue becomes black, and its link is marked.
  pub upvalue_direct : (r : UpvalRef) → mark_upvalue (ops l) l r u ≡ cond (is_white (colour_w l (upval r) u)) (marks l (links w l b (upval r)) (paint_w l (upval r) 4 u)) u
  unfolding mark_upvalue
  upvalue_direct r = go (is_white (colour_w l (upval r) u)) refl
    where
      go : (c : Bool) → is_white (colour_w l (upval r) u) ≡ c → cond c (follow_upvalue (ops l) l r u) u ≡ cond c (marks l (links w l b (upval r)) (paint_w l (upval r) 4 u)) u
      go false e = refl
      go true e =
          upvalue_links_lem l ok a w long r u m (white_true (colour_w l (upval r) u) e).0
          ∙ ap (λ rs. marks l rs (paint_w l (upval r) 4 u)) (sym (links_upvalue w l b r))

  -- A closure that is named becomes black when it is traversed, and its links are marked.
  pub closure_later : (r : FuncRef) → 1 ≤ colour_w l (fun r) u → traverse_closure_at (ops l) l r u ≡ marks l (links w l b (fun r)) (paint_w l (fun r) 4 u)
  closure_later r h = closure_links_lem l ok a w long r u m h ∙ ap (λ rs. marks l rs (paint_w l (fun r) 4 u)) (sym (links_closure w l b r))

  -- So does a thread, which is listed in grayagain then.
  pub thread_later : (r : ThreadRef) → 1 ≤ colour_w l (thread r) u → traverse_thread_at (ops l) l r u ≡ push l.grayagain (Thread r) (marks l (links w l b (thread r)) (paint_w l (thread r) 4 u))
  thread_later r h = thread_links_lem l ok a w long r u m h ∙ ap (λ rs. push l.grayagain (Thread r) (marks l rs (paint_w l (thread r) 4 u))) (sym (links_thread w l b r))
