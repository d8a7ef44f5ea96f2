-- Document 01, 'Followed links', roots: global, registry, type metatables, both names; the main thread is listed, and its
-- links are followed when it is taken out. Marking the roots first empties gray, grayagain and weak. Assumes nothing.
use Rattle.std.specs.Prelude.{ℕ, Some, None, Option}
use Rattle.base.specs.Loop.{run}
use Rattle.value.specs.declared.StrRef.{StrRef}
use Rattle.lists.specs.declared.Item.TheVariants.{Main}
use Rattle.main_record.specs.Main.{global, registry, mode_name, gc_name, type_meta}
use Rattle.mark.specs.Ops.{gray, grayagain, weak, Ops}
use Rattle.mark.specs.Marking.{mark_string, mark_table_or}

module _ {S : Type 0} (O : Ops S) where
  unfoldable pub clear_lists : S → S
  clear_lists s = O.clear weak (O.clear grayagain (O.clear gray s))

  unfoldable pub mark_string_or : Option StrRef → S → S
  mark_string_or (Some r) s = mark_string O r s
  mark_string_or None s = s

  unfoldable pub mark_type : ℕ → S → S
  mark_type k s = mark_table_or O (type_meta k (O.body s)) s

  unfoldable pub mark_types : S → S
  mark_types s = run mark_type 0 9 s

  unfoldable pub mark_gc_roots : S → S
  mark_gc_roots s =
      let s₁ = mark_types s in
      let s₂ = mark_string_or (mode_name (O.body s₁)) s₁ in
      mark_string_or (gc_name (O.body s₂)) s₂

  unfoldable pub mark_roots : S → S
  mark_roots s =
      let s₁ = O.push gray Main s in
      let s₂ = mark_table_or O (global (O.body s₁)) s₁ in
      let s₃ = mark_table_or O (registry (O.body s₂)) s₂ in
      mark_gc_roots s₃
