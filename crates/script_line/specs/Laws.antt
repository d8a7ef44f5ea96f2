-- The law of a line's command: a text starts within its line. Assumes nothing.
use Rattle.std.specs.Prelude.{ℕ}
use Rattle.base.specs.Ways.{eq_either}
use Rattle.script_fields.specs.declared.Word.{Word}
use Rattle.script_fields.specs.declared.Word.TheVariants as word
use Rattle.script_line.specs.declared.Numbers.{Numbers}
use Rattle.script_line.specs.declared.Command.{Command}
use Rattle.script_line.specs.Lines.{exactly, command_of, TextWithin}

pub command_within : (w : Word) (t : Command) (n : Numbers) (l : ℕ) → TextWithin t l → TextWithin (command_of w t n) l
unfolding command_of exactly
command_within word.Str t n l p = p
command_within word.Tab t n l p = eq_either (λ (c : Command). TextWithin c l) n.count 2 _ _ tt tt
command_within word.Ud t n l p = eq_either (λ (c : Command). TextWithin c l) n.count 0 _ _ tt tt
command_within word.Push t n l p = eq_either (λ (c : Command). TextWithin c l) n.count 1 _ _ tt tt
command_within word.Pop t n l p = eq_either (λ (c : Command). TextWithin c l) n.count 0 _ _ tt tt
command_within word.Seti t n l p = eq_either (λ (c : Command). TextWithin c l) n.count 3 _ _ tt tt
command_within word.Setn t n l p = eq_either (λ (c : Command). TextWithin c l) n.count 4 _ _ tt tt
command_within word.Meta t n l p = eq_either (λ (c : Command). TextWithin c l) n.count 2 _ _ tt tt
command_within word.Collect t n l p = eq_either (λ (c : Command). TextWithin c l) n.count 0 _ _ tt tt
command_within word.Unknown t n l p = tt
