-- The answers of calls that make something, by document 01's numbers: 0 and a handle's index and generation, or a prototype's
-- number and 0; else the refusal. Assumes nothing.
use Rattle.std.specs.Prelude.{ℕ, Ok, Err, Result}
use Rattle.base.specs.declared.Refusal.{Refusal}
use Rattle.base.specs.Refusals.{number}
use Rattle.making.specs.declared.Made.{Made}
use Rattle.making.specs.declared.Made.TheVariants.{Str, Table, Function, Upvalue, Userdata, Thread, Proto}

abbrev pub made_number : Result Made Refusal → ℕ
made_number (Ok (Str r)) = 0
made_number (Ok (Table r)) = 0
made_number (Ok (Function r)) = 0
made_number (Ok (Upvalue r)) = 0
made_number (Ok (Userdata r)) = 0
made_number (Ok (Thread r)) = 0
made_number (Ok (Proto n)) = 0
made_number (Err k) = number k

-- what is made, in two numbers
abbrev pub made_pair : Result Made Refusal → ℕ × ℕ
made_pair (Ok (Str r)) = (r.0, r.1)
made_pair (Ok (Table r)) = (r.0, r.1)
made_pair (Ok (Function r)) = (r.0, r.1)
made_pair (Ok (Upvalue r)) = (r.0, r.1)
made_pair (Ok (Userdata r)) = (r.0, r.1)
made_pair (Ok (Thread r)) = (r.0, r.1)
made_pair (Ok (Proto n)) = (n, 0)
made_pair (Err k) = (0, 0)
