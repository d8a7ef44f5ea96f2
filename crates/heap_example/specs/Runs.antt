-- The same by computation: twelve single steps from Pause come to Finalize. The white has flipped; two strings, two tables and no upvalue are
-- left; the chains begin at the table's slot 2 and at the upvalues' slot 80 (each stored as index + 1). Assumes nothing.
use Rattle.std.specs.Prelude.{◌≡◌, refl, List, [], ◌∷◌, ℕ}
use Rattle.base.specs.Words.{at}
use Rattle.base.specs.Heap.{Heap, heap}
use Rattle.arena.specs.Slots.{head, count}
use Rattle.layout.specs.Layout.{lay_of}
use Rattle.layout.specs.Places.{PHASE, WHITE}
use Rattle.mark.specs.Words.{arena_of}
use Rattle.base.specs.Loop as base-loop
use Rattle.base.specs.Ways as base-ways
use Rattle.base.specs.Words as base-words
use Rattle.arena.specs.Slots as arena-slots
use Rattle.value.specs.Handles as value-handles
use Rattle.value.specs.Values as value-values
use Rattle.layout.specs.Layout as layout-layout
use Rattle.lists.specs.Lists as lists-lists
use Rattle.record.specs.Tables as record-tables
use Rattle.mark.specs.Marking as mark-marking
use Rattle.mark.specs.Ops as mark-ops
use Rattle.mark.specs.Words as mark-words
use Rattle.modes.specs.Modes as modes-modes
use Rattle.table_walk.specs.Tables as table-walk-tables
use Rattle.run_walk.specs.MainThread as run-walk-mainthread
use Rattle.propagate.specs.Propagation as propagate-propagation
use Rattle.propagate.specs.Roots as propagate-roots
use Rattle.separate.specs.Separation as separate-separation
use Rattle.clearing.specs.Entries as clearing-entries
use Rattle.clearing.specs.Strings as clearing-strings
use Rattle.atomic.specs.Atomic as atomic-atomic
use Rattle.sweep_step.specs.Sweeping as sweep-step-sweeping
use Rattle.step.specs.Step as step-step
use Rattle.newheap.specs.New as new
use Rattle.cycle_laws.specs.Singles.{singles}
use Rattle.heap_example.specs.Small.{sizes, words, bytes, fill, made, one_table}

-- the occupied slots of an arena, and the head of its chain
abbrev counts : ℕ → Heap → ℕ
counts k h = count (arena_of (lay_of sizes) k) h.words

abbrev heads : ℕ → Heap → ℕ
heads k h = head (arena_of (lay_of sizes) k) h.words

abbrev seen : Heap → List ℕ
seen h = at h.words PHASE ∷ at h.words WHITE ∷ counts 0 h ∷ counts 1 h ∷ counts 3 h ∷ heads 0 h ∷ heads 1 h ∷ heads 3 h ∷ []

pub twelve : seen (singles (lay_of sizes) 12 (heap words bytes)) ≡ 4 ∷ 2 ∷ 2 ∷ 2 ∷ 0 ∷ 0 ∷ 3 ∷ 81 ∷ []
unfolding singles sizes words bytes fill made one_table new.arena_sizes new.main_sizes new.settings new.counters new.roots new.two_marks new.two_extents new.lengths new.table_sizes new.names new.tables new.fields new.mode_text new.gc_text base-loop.rounds base-loop.run base-loop.scans base-loop.scan base-ways.if_lt base-ways.if_le base-ways.if_eq base-words.clear arena-slots.named arena-slots.tallied arena-slots.occupied arena-slots.emptied arena-slots.chained arena-slots.free_slot arena-slots.visit arena-slots.sweep_partial value-handles.handle_of value-handles.put_handle value-values.value_of layout-layout.lay_of lists-lists.item_of lists-lists.item_at lists-lists.stored lists-lists.push lists-lists.taken lists-lists.pop lists-lists.cleared record-tables.node_number mark-marking.mark_string mark-marking.mark_table mark-marking.mark_table_or mark-marking.value_colour mark-marking.mark_value mark-marking.mark_value_at mark-marking.mark_values mark-marking.mark_upvalue_at mark-marking.mark_upvalues mark-ops.is_white mark-words.shade modes-modes.weak_mode table-walk-tables.list_weak table-walk-tables.mark_unless table-walk-tables.mark_pair table-walk-tables.mark_node table-walk-tables.mark_nodes table-walk-tables.mark_array table-walk-tables.mark_entries table-walk-tables.traverse_table_at table-walk-tables.traverse_table run-walk-mainthread.mark_frame run-walk-mainthread.mark_frames run-walk-mainthread.mark_main run-walk-mainthread.traverse_main_thread propagate-propagation.propagate_item propagate-propagation.propagate_one propagate-propagation.propagate_for propagate-propagation.propagate_all propagate-roots.clear_lists propagate-roots.mark_string_or propagate-roots.mark_type propagate-roots.mark_types propagate-roots.mark_gc_roots propagate-roots.mark_roots separate-separation.of_userdata separate-separation.separate_slot separate-separation.separated separate-separation.mark_tmudata clearing-entries.clear_listed clearing-entries.clear_all clearing-entries.clear_weak_tables clearing-strings.keep_listed clearing-strings.keep_all atomic-atomic.again_item atomic-atomic.again_listed atomic-atomic.again_all atomic-atomic.marked atomic-atomic.finished atomic-atomic.flipped atomic-atomic.begun atomic-atomic.atomic sweep-step-sweeping.arena_at sweep-step-sweeping.size_at sweep-step-sweeping.taken sweep-step-sweeping.sweep_arena sweep-step-sweeping.strings_moved sweep-step-sweeping.sweep_strings sweep-step-sweeping.others_moved sweep-step-sweeping.sweep_others step-step.start_cycle step-step.propagate_step step-step.single_step
twelve = refl
