-- Laws of the commands that make: a call that makes, and a table of made objects with no room. Assumes nothing.
use Rattle.std.specs.Prelude.{◌≡◌, true, false, List, ℕ, Result}
use Rattle.base.specs.Heap.{Heap}
use Rattle.base.specs.declared.Refusal.{Refusal}
use Rattle.making.specs.declared.Made.{Made}
use Rattle.script_made.specs.Objects.{is_full}
use Rattle.script_print.specs.declared.Outcome.{Outcome}
use Rattle.script_answers.specs.Answers.{Script, script, refused4}
use Rattle.script_makes.specs.Makes.{numbered, make}

pub full : (call : Heap → Result Made Refusal × Heap) (s : Script) → is_full s.made ≡ true → refused4 s ≡ make call s
unfolding make
full call s p = rw p

pub makes : (call : Heap → Result Made Refusal × Heap) (h : Heap) (m : List ℕ) (x : Result Made Refusal) (g : Heap) (o : Result Outcome Refusal) (n : List ℕ)
    → is_full m ≡ false → (x, g) ≡ call h → (o, n) ≡ numbered x m → (o, script g n) ≡ make call (script h m)
unfolding make
makes call h m x g o n f p q = rw (f, ← p, ← q)
