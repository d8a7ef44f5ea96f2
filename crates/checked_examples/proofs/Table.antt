-- The whole table of document 01's checked examples, proved by computation. Assumes nothing.
use Rattle.std.specs.Prelude.{◌≡◌, refl, List, map, ℕ}
use Rattle.base.specs.Loop.{run, rounds, scan, scans}
use Rattle.base.specs.Ways.{if_lt, if_le, if_eq}
use Rattle.base.specs.Words.{clear}
use Rattle.arena.specs.Slots.{named, emptied, chained, free_slot, visit, sweep_partial}
use Rattle.value.specs.Values.{value_of, payload_equal, key_equal}
use Rattle.value.specs.Handles.{handle_of}
use Rattle.layout.specs.Layout.{lay_of}
use Rattle.lists.specs.Lists.{item_of, item_at, stored, push, taken, pop}
use Rattle.record.specs.Tables.{node_number}
use Rattle.mark.specs.Words.{shade}
use Rattle.modes.specs.Modes.{look_from, field_named, field, gc_method}
use Rattle.separate.specs.Separation.{is_due, of_userdata, creation_of, creation_at, shifts, shifted, placed, queued, enqueue, separate_slot, separated}
use Rattle.pacing.specs.Pacing.{automatic_budget}
use Rattle.step.specs.Step.{method_of, finalize, finalize_item, finalize_step}
use Rattle.checked_examples.specs.Slots.{small, heap_of, chain_from, told, said, eighty, first, second, five, wrapped}
use Rattle.checked_examples.specs.Queue.{sizes, lay, metatable, userdata, start, due, number, handed}
use Rattle.checked_examples.specs.Table.{table}

pub examples : map (λ (r : List ℕ × List ℕ). r.0) table ≡ map (λ (r : List ℕ × List ℕ). r.1) table
unfolding table small heap_of chain_from told said eighty first second five wrapped sizes lay metatable userdata start due number handed run rounds scan scans if_lt if_le if_eq clear named emptied chained free_slot visit sweep_partial value_of payload_equal key_equal handle_of lay_of item_of item_at stored push taken pop node_number shade look_from field_named field gc_method is_due of_userdata creation_of creation_at shifts shifted placed queued enqueue separate_slot separated automatic_budget method_of finalize finalize_item finalize_step
examples = refl
