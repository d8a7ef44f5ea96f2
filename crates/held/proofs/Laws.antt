-- The arena of a kind within a planned layout: it has room in the words, and its records are as long as the kind says. Assumes nothing.
use mathlib.Core.Path.{◌≡◌}
use mathlib.Core.List.{List as Words}
use Prim.Native.Nat.{ℕ, ◌≤◌}
use lib.ListN.{length}
use Rattle.arena.specs.Slots.{Room}
use Rattle.layout.specs.declared.Lay.{Lay}
use Rattle.laid.specs.Laid.{Laid, strings_room, tables_room, functions_room, upvalues_room, userdata_room, threads_room, string_words, table_words, function_words, upvalue_words, userdata_words, thread_words}
use Rattle.reads.specs.Objects.{arena_of, words_of}
use Rattle.reads.specs.declared.Kind.{Kind}
use Rattle.reads.specs.declared.Kind.TheVariants.{Strings, Tables, Functions, Upvalues, Userdata, Threads}

pub kind_room : (l : Lay) (k : Kind) (w : Words ℕ) → Laid l → l.words ≤ length w → Room (arena_of l k) w
kind_room l Strings w ok long = strings_room l w ok long
kind_room l Tables w ok long = tables_room l w ok long
kind_room l Functions w ok long = functions_room l w ok long
kind_room l Upvalues w ok long = upvalues_room l w ok long
kind_room l Userdata w ok long = userdata_room l w ok long
kind_room l Threads w ok long = threads_room l w ok long

pub kind_words : (l : Lay) (k : Kind) → Laid l → (arena_of l k).stride ≡ words_of k
kind_words l Strings ok = string_words l ok
kind_words l Tables ok = table_words l ok
kind_words l Functions ok = function_words l ok
kind_words l Upvalues ok = upvalue_words l ok
kind_words l Userdata ok = userdata_words l ok
kind_words l Threads ok = thread_words l ok
