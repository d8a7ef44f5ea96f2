-- The operations of marking on the words of a heap: the instance that the contracts cite. Assumes nothing.
use Rattle.std.specs.Prelude.{cond, List as Words, ℕ, zero, suc}
use Rattle.base.specs.Ways.{if_le, if_eq}
use Rattle.arena.specs.declared.Arena.{Arena}
use Rattle.arena.specs.Slots.{used, gen, colour, set_colour}
use Rattle.layout.specs.declared.List.{List}
use Rattle.layout.specs.declared.Lay.{Lay}
use Rattle.lists.specs.declared.Item.{Item}
use Rattle.lists.specs.Lists.{push, pop, cleared}
use Rattle.mark.specs.Ops.{Ref, Work, gray, grayagain, weak, Ops, is_white}

-- The colour of the slot that a handle names, 0 where it names none.
unfoldable pub shade : Arena → ℕ → ℕ → Words ℕ → ℕ
shade a i g w = if_le (used a w) i 0 (if_eq (gen a i w) g (colour a i w) 0)

-- What is white becomes gray and is listed.
unfoldable pub grayed : Arena → List → ℕ → ℕ → Item → Words ℕ → Words ℕ
grayed a b i g x w = cond (is_white (shade a i g w)) (push b x (set_colour a i 3 w)) w

-- The arena of each kind. No other number has slots.
abbrev pub nowhere : Arena
nowhere = record { top = 0; base = 0; slots = 0; bodies = 0; stride = 0; width = 0 }

abbrev pub arena_of : Lay → ℕ → Arena
arena_of l zero = l.strings
arena_of l (suc zero) = l.tables
arena_of l (suc (suc zero)) = l.functions
arena_of l (suc (suc (suc zero))) = l.upvalues
arena_of l (suc (suc (suc (suc zero)))) = l.userdata
arena_of l (suc (suc (suc (suc (suc zero))))) = l.threads
arena_of l (suc (suc (suc (suc (suc (suc k)))))) = nowhere

abbrev pub list_of : Lay → Work → List
list_of l gray = l.gray
list_of l grayagain = l.grayagain
list_of l weak = l.weak

abbrev pub colour_w : Lay → Ref → Words ℕ → ℕ
colour_w l r w = shade (arena_of l r.kind) r.at r.gen w

abbrev pub paint_w : Lay → Ref → ℕ → Words ℕ → Words ℕ
paint_w l r c w = set_colour (arena_of l r.kind) r.at c w

abbrev pub ops : Lay → Ops (Words ℕ)
ops l = record {
  colour = colour_w l;
  paint = paint_w l;
  push = λ k x w. push (list_of l k) x w;
  pop = λ k w. pop (list_of l k) w;
  clear = λ k w. cleared (list_of l k) w;
  body = λ w. w;
}
