-- Document 01: "The audit says yes exactly if the phase is Pause, each list is within its room, each chain holds every free slot
-- below its arena's fresh index once, and every handle in an occupied record names an occupied slot." As every call it gives 1 and
-- 8 first; it changes nothing. Assumes nothing.
use Rattle.std.specs.Prelude.{Bool, true, false, ◌&&◌, List as Words, ℕ, eqb, leb, Ok, Err, Result}
use Rattle.base.specs.Words.{at}
use Rattle.base.specs.Heap.{Heap}
use Rattle.base.specs.declared.Refusal.{Refusal}
use Rattle.base.specs.Refusals.{number}
use Rattle.layout.specs.declared.List.{List}
use Rattle.layout.specs.declared.Lay.{Lay}
use Rattle.layout.specs.Places.{PHASE}
use Rattle.test1.specs.Calls.{ask}
use Rattle.chains.specs.Chains.{chain_holds}
use Rattle.held.specs.Held.{all_name}

-- By document 01's numbers: 0 for served, with yes or no; else the refusal.
abbrev pub audit_number : Result Bool Refusal → ℕ
audit_number (Ok true) = 0
audit_number (Ok false) = 0
audit_number (Err n) = number n

-- The phase is Pause, 0.
abbrev pub is_pause : Words ℕ → Bool
is_pause w = eqb (at w PHASE) 0

-- Each list is within its room. (Row 1 asks it of every call, so that here it is always so.)
abbrev pub is_within : List → Words ℕ → Bool
is_within b w = leb (at w b.count) b.room

unfoldable pub lists_within : Lay → Words ℕ → Bool
lists_within l w = is_within l.gray w && is_within l.grayagain w && is_within l.weak w && is_within l.queue w

-- Each chain holds every free slot below its arena's fresh index once.
unfoldable pub chains_hold : Lay → Words ℕ → Bool
chains_hold l w =
    chain_holds l.strings w
    && chain_holds l.tables w
    && chain_holds l.functions w
    && chain_holds l.upvalues w
    && chain_holds l.userdata w
    && chain_holds l.threads w

-- All four, in the document's order.
unfoldable pub audit_of : Lay → Words ℕ → Bool
audit_of l w = is_pause w && lists_within l w && chains_hold l w && all_name l w

abbrev pub said : Bool → Result Bool Refusal
said true = Ok true
said false = Ok false

unfoldable pub audit : Heap → Result Bool Refusal
audit h = ask Err (λ l g. said (audit_of l g.words)) h
