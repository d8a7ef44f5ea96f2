-- Where the stacks and lists of the main record and of a thread lie, with their counts as they are read, and a thread's record
-- by its handle. Assumes nothing.
use Rattle.std.specs.Prelude.{List, ℕ, ◌+◌, ◌≤◌, Some, None, Option}
use Rattle.base.specs.declared.Refusal.{Refusal}
use Rattle.base.specs.declared.Refusal.TheVariants.{Stale}
use Rattle.arena.specs.declared.Arena.{Arena}
use Rattle.arena.specs.Slots as slots
use Rattle.value.specs.declared.ThreadRef.{ThreadRef}
use Rattle.layout.specs.declared.Lay.{Lay}
use Rattle.layout.specs.Places.{TOP, OPENS}
use Rattle.record.specs.Fields.{body_at}
use Rattle.run_record.specs.Threads.{thread_size, thread_top, thread_open_count, thread_suspended_count}
use Rattle.main_record.specs.Main.{main_top, main_open_count}
use Rattle.stacks.specs.declared.Counted.{Counted}

-- The main stack and the main open list.
unfoldable pub main_stack : Lay → List ℕ → Counted
main_stack l w = record { word = TOP; base = l.stack.base; room = l.stack.room; count = main_top l w }

unfoldable pub main_opens : Lay → List ℕ → Counted
main_opens l w = record { word = OPENS; base = l.opens.base; room = l.opens.room; count = main_open_count l w }

-- The stack of the thread whose record is at p, as large as it was made; its open and suspended lists of 16 places each.
unfoldable pub thread_stack : ℕ → List ℕ → Counted
thread_stack p w = record { word = p + 9; base = p + 76; room = thread_size p w; count = thread_top p w }

unfoldable pub thread_opens : ℕ → List ℕ → Counted
thread_opens p w = record { word = p + 10; base = p + 12; room = 16; count = thread_open_count p w }

unfoldable pub thread_suspended : ℕ → List ℕ → Counted
thread_suspended p w = record { word = p + 11; base = p + 44; room = 16; count = thread_suspended_count p w }

-- The place of the record of what a handle names.
abbrev pub body_in : Arena → Option ℕ → Option ℕ
body_in a (Some i) = Some (body_at a i)
body_in a None = None

unfoldable pub thread_body : Lay → ThreadRef → List ℕ → Option ℕ
thread_body l t w = body_in l.threads (slots.named l.threads t.0 t.1 w)

-- a thread's record lies within n words
abbrev pub Inside : Option ℕ → ℕ → Type 0
Inside (Some p) n = p + 268 ≤ n
Inside None n = Unit {0}

-- A handle that names no thread is 2: what rows 5 and 4 say of a thread's record holds only if the thread is named.
module _ {A : Type 0} (refuse : Refusal → A) (f : ℕ → List ℕ → A × List ℕ) where
  abbrev pub on_body : List ℕ → Option ℕ → A × List ℕ
  on_body w (Some p) = f p w
  on_body w None = (refuse Stale, w)

  unfoldable pub on_thread : Lay → ThreadRef → List ℕ → A × List ℕ
  on_thread l t w = on_body w (thread_body l t w)
