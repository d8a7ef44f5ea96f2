-- Words that agree in what links are read from, in the main record, the colours and the finalized marks: so in all from which it
-- is read what is reached, due, kept and spared. Assumes nothing.
use Rattle.std.specs.Prelude.{◌≡◌, ℕ, ◌+◌, ◌<◌}
use mathlib.Core.List.{List}
use Rattle.base.specs.Words.{at}
use Rattle.layout.specs.declared.Lay.{Lay}
use Rattle.record.specs.Fields.{body_at}
use Rattle.mark.specs.Ops.{Ref}
use Rattle.mark.specs.Words.{colour_w}
use Rattle.link_laws.specs.Reads.{Reads}
use Rattle.link_laws.specs.Roots.{MainReads}

pub record Alike (l : Lay) (w u : List ℕ) : Type 0 where
  pub reads : Reads l w u
  pub mains : MainReads l w u
  pub shades : (x : Ref) → colour_w l x u ≡ colour_w l x w
  pub marks : (i : ℕ) → i < l.userdata.slots → at u (body_at l.userdata i + 6) ≡ at w (body_at l.userdata i + 6)
