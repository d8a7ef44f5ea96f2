-- What is listed is paid for by what is coloured: the numbers of items beside the numbers of gray and black slots. On it
-- rests that no list passes its room. Assumes nothing.
--     Tally, tally      the numbers
--     Paid              each list's items, with what is kept free of it, against the slots that pay for them
--     Ample             the rooms of the lists, as document 01 gives them
use Rattle.std.specs.Prelude.{List, ℕ, ◌+◌, ◌*◌, ◌≤◌}
use Rattle.std.proofs.Common.{arith}
use Rattle.layout.specs.declared.Lay.{Lay}
use Rattle.lists.specs.Lists.{length_of}
use Rattle.mark.specs.Words.{arena_of}
use Rattle.mark_laws.specs.Items.{items_of}
use Rattle.room_laws.specs.Counts.{is_gray, is_dark, count_to}

-- The lengths of gray, weak and grayagain; the tables, threads and main threads on gray, the tables on grayagain; the dark
-- (gray or black) tables, closures and threads; the gray tables.
pub record Tally : Type 0 where
  pub gray : ℕ
  pub weak : ℕ
  pub again : ℕ
  pub tables : ℕ
  pub threads : ℕ
  pub mains : ℕ
  pub later : ℕ
  pub dark_tables : ℕ
  pub dark_closures : ℕ
  pub dark_threads : ℕ
  pub gray_tables : ℕ

-- the dark slots of kind k
abbrev pub dark_in : Lay → ℕ → List ℕ → ℕ
dark_in l k w = count_to is_dark (arena_of l k).base (arena_of l k).slots w

abbrev pub tally : Lay → List ℕ → Tally
tally l w = record {
  gray = length_of l.gray w;
  weak = length_of l.weak w;
  again = length_of l.grayagain w;
  tables = items_of l.gray 5 w;
  threads = items_of l.gray 8 w;
  mains = items_of l.gray 9 w;
  later = items_of l.grayagain 5 w;
  dark_tables = dark_in l 1 w;
  dark_closures = dark_in l 2 w;
  dark_threads = dark_in l 5 w;
  gray_tables = count_to is_gray l.tables.base l.tables.slots w;
}

-- Gray has one item for each dark table, closure and thread, and one for the main thread, at most. A table that is listed
-- weak, or will be when it is taken off gray, is dark, each once. A table on gray or grayagain is gray, each once. What is
-- on grayagain, or will be when it is taken off gray, is a gray table, a dark thread or the main thread, each once. Beside
-- them p places of weak, q of grayagain and t gray tables are paid for and not used.
pub record Paid (x : Tally) (p t q : ℕ) : Type 0 where
  pub gray : x.gray ≤ x.dark_tables + x.dark_closures + x.dark_threads + 1
  pub weak : x.weak + x.tables + p ≤ x.dark_tables
  pub tables : x.tables + x.later + t ≤ x.gray_tables
  pub again : x.again + x.tables + x.threads + x.mains + t + q ≤ x.gray_tables + x.dark_threads + 1

-- Room of the working lists: gray, every table, closure and thread plus one; grayagain, every table and twice the threads
-- plus one (every thread would do); weak, twice the tables; queue, every userdata.
pub record Ample (l : Lay) : Type 0 where
  pub gray : l.tables.slots + l.functions.slots + l.threads.slots + 1 ≤ l.gray.room
  pub weak : 2 * l.tables.slots ≤ l.weak.room
  pub again : l.tables.slots + l.threads.slots + 1 ≤ l.grayagain.room
  pub queue : l.userdata.slots ≤ l.queue.room

-- Fewer items and more slots that pay are paid for as well.
pub paid_less : (x y : Tally) {p t q : ℕ} → Paid x p t q → y.gray ≤ x.gray → y.weak ≤ x.weak → y.again ≤ x.again
    → y.tables ≤ x.tables → y.threads ≤ x.threads → y.mains ≤ x.mains → y.later ≤ x.later
    → x.dark_tables ≤ y.dark_tables → x.dark_closures ≤ y.dark_closures → x.dark_threads ≤ y.dark_threads → x.gray_tables ≤ y.gray_tables → Paid y p t q
paid_less x y {p} {t} {q} h a b c d e f g i j k m = record { gray = omega (arith, h.gray); weak = omega (arith, h.weak); tables = omega (arith, h.tables); again = omega (arith, h.again) }
