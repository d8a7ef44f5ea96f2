-- The strings of listed weak tables take the new white: what is painted then, and what changes. `w` are the words before it.
-- Assumes nothing.
--     whitens           a list of handles painted
--     Tinted            words that differ only in the colours of strings
--     held_by, held     what each listed item holds, and all of them
use Rattle.std.specs.Prelude.{◌≡◌}
use mathlib.Core.List.{List, [], ◌∷◌}
use Prim.Native.Nat.{ℕ}
use Rattle.std.proofs.Math.ListN.{length}
use Rattle.base.specs.Ways.{if_eq}
use Rattle.base.specs.Words.{at}
use Rattle.value.specs.Laws.{Outside}
use Rattle.layout.specs.declared.Lay.{Lay}
use Rattle.lists.specs.declared.Item.{Item}
use Rattle.lists.specs.declared.Item.TheVariants.{Table, Function, Userdata, Thread, Main, Unknown}
use Rattle.lists.specs.Lists.{length_of, item_at}
use Rattle.record.specs.Fields.{body_at}
use Rattle.mark.specs.Ops.{Ref, tab}
use Rattle.mark.specs.Words.{colour_w, paint_w}
use Rattle.links.specs.Links.{each}
use Rattle.atomic_laws.specs.Kept.{table_strings}

-- Each handle that names a slot paints it.
unfoldable pub whitens : Lay → ℕ → List Ref → List ℕ → List ℕ
whitens l c [] u = u
whitens l c (r ∷ rs) u = whitens l c rs (if_eq (colour_w l r u) 0 u (paint_w l r c u))

-- The words u are w but for the colours of strings.
pub record Tinted (l : Lay) (w u : List ℕ) : Type 0 where
  pub long : length u ≡ length w
  pub word : (q : ℕ) → Outside l.strings.base l.strings.slots q → at u q ≡ at w q

-- What each listed item holds: a table that is there its strings, any other nothing.
abbrev pub held_by : Lay → List ℕ → Item → List Ref
held_by l w (Table t) = if_eq (colour_w l (tab t) w) 0 [] (table_strings (body_at l.tables t.0) w)
held_by l w (Function r) = []
held_by l w (Userdata r) = []
held_by l w (Thread r) = []
held_by l w Main = []
held_by l w Unknown = []

-- all of them, joined
abbrev pub held : Lay → List ℕ → List Ref
held l w = each (λ k. held_by l w (item_at l.weak k w)) (length_of l.weak w) 0
