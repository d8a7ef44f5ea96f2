-- The fields of the heap and of objects, asked by number. Assumes nothing.
use Rattle.std.specs.Prelude.{ℕ, Some, None, Option, Result}
use Rattle.std.specs.Option.{option_zip}
use Rattle.base.specs.Heap.{Heap}
use Rattle.base.specs.declared.Refusal.{Refusal}
use Rattle.reads.specs.declared.Read.{Read}
use Rattle.reads.specs.Reads.{read_counter, read_size, read_root}
use Rattle.part_reads.specs.PartReads.{read_main, read_list, read_arena}
use Rattle.table_reads.specs.TableReads.{read_string, read_table, read_userdata}
use Rattle.run_reads.specs.RunReads.{read_closure, read_upvalue, read_thread}
use Rattle.proto_reads.specs.ProtoReads.{read_proto}
use Rattle.codes.specs.Numbers.{no_question}
use Rattle.asked.specs.Asked.{asked}
use Rattle.asked.specs.Header.{counter_of, ask_counter, size_of, ask_size, root_of, ask_root, main_of, ask_main, which_of, listed_of, ask_list, kind_of, slots_of, ask_arena}
use Rattle.asked.specs.Objects.{string_field_of, ask_string, table_field_of, ask_table, closure_field_of, ask_closure, upvalue_field_of, ask_upvalue, userdata_field_of, ask_userdata, thread_field_of, ask_thread, proto_field_of, ask_proto}
use Rattle.refusal_laws.specs.Known.{Answered}
use Rattle.refusal_laws.specs.Begins.{ask_known}
use Rattle.refusal_laws.specs.Reads.{read_counter_known, read_size_known, read_root_known, read_main_known, read_list_known, read_arena_known, read_string_known, read_table_known, read_userdata_known, read_closure_known, read_upvalue_known, read_thread_known, read_proto_known}

pub no_question_known : (h : Heap) → Answered (no_question h)
no_question_known h = ask_known _ _ (λ l. tt)

asked_known : {Q : Type 0} (read : Q → Heap → Result Read Refusal) (o : Option Q) (h : Heap) → ((q : Q) → Answered (read q h)) → Answered (asked read o h)
asked_known read (Some q) h p = p q
asked_known read None h p = no_question_known h

pub ask_counter_known : (n : ℕ) (h : Heap) → Answered (ask_counter n h)
unfolding ask_counter
ask_counter_known n h = asked_known read_counter (counter_of n) h (λ q. read_counter_known q h)

pub ask_size_known : (n : ℕ) (h : Heap) → Answered (ask_size n h)
unfolding ask_size
ask_size_known n h = asked_known read_size (size_of n) h (λ q. read_size_known q h)

pub ask_root_known : (n k : ℕ) (h : Heap) → Answered (ask_root n k h)
unfolding ask_root
ask_root_known n k h = asked_known read_root (root_of n k) h (λ q. read_root_known q h)

pub ask_main_known : (n i : ℕ) (h : Heap) → Answered (ask_main n i h)
unfolding ask_main
ask_main_known n i h = asked_known read_main (main_of n i) h (λ q. read_main_known q h)

pub ask_list_known : (l n i : ℕ) (h : Heap) → Answered (ask_list l n i h)
unfolding ask_list
ask_list_known l n i h = asked_known (λ p. read_list p.0 p.1) (option_zip (which_of l) (listed_of n i)) h (λ q. read_list_known q.0 q.1 h)

pub ask_arena_known : (a n i : ℕ) (h : Heap) → Answered (ask_arena a n i h)
unfolding ask_arena
ask_arena_known a n i h = asked_known (λ p. read_arena p.0 p.1) (option_zip (kind_of a) (slots_of n i)) h (λ q. read_arena_known q.0 q.1 h)

pub ask_string_known : (x g n i : ℕ) (h : Heap) → Answered (ask_string x g n i h)
unfolding ask_string
ask_string_known x g n i h = asked_known (read_string (record { 0 = x; 1 = g })) (string_field_of n i) h (λ q. read_string_known _ q h)

pub ask_table_known : (x g n i : ℕ) (h : Heap) → Answered (ask_table x g n i h)
unfolding ask_table
ask_table_known x g n i h = asked_known (read_table (record { 0 = x; 1 = g })) (table_field_of n i) h (λ q. read_table_known _ q h)

pub ask_closure_known : (x g n i : ℕ) (h : Heap) → Answered (ask_closure x g n i h)
unfolding ask_closure
ask_closure_known x g n i h = asked_known (read_closure (record { 0 = x; 1 = g })) (closure_field_of n i) h (λ q. read_closure_known _ q h)

pub ask_upvalue_known : (x g n : ℕ) (h : Heap) → Answered (ask_upvalue x g n h)
unfolding ask_upvalue
ask_upvalue_known x g n h = asked_known (read_upvalue (record { 0 = x; 1 = g })) (upvalue_field_of n) h (λ q. read_upvalue_known _ q h)

pub ask_userdata_known : (x g n : ℕ) (h : Heap) → Answered (ask_userdata x g n h)
unfolding ask_userdata
ask_userdata_known x g n h = asked_known (read_userdata (record { 0 = x; 1 = g })) (userdata_field_of n) h (λ q. read_userdata_known _ q h)

pub ask_thread_known : (x g n i : ℕ) (h : Heap) → Answered (ask_thread x g n i h)
unfolding ask_thread
ask_thread_known x g n i h = asked_known (read_thread (record { 0 = x; 1 = g })) (thread_field_of n i) h (λ q. read_thread_known _ q h)

pub ask_proto_known : (p n i : ℕ) (h : Heap) → Answered (ask_proto p n i h)
unfolding ask_proto
ask_proto_known p n i h = asked_known (read_proto p) (proto_field_of n i) h (λ q. read_proto_known p q h)
