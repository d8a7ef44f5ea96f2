-- Document 01, 'Steps and pacing': the single step in each of the five phases. Assumes nothing.
use Rattle.std.specs.Prelude.{cond, List, ℕ, ◌+◌, ◌≤◌, Some, None, Option}
use Rattle.base.specs.Ways.{if_eq}
use Rattle.base.specs.Words.{at, put, put64}
use Rattle.base.specs.Heap.{Heap, heap}
use Rattle.value.specs.declared.UdRef.{UdRef}
use Rattle.value.specs.declared.Value.{Value}
use Rattle.value.specs.declared.Value.TheVariants.{Nil}
use Rattle.value.specs.Values.{is_nil}
use Rattle.layout.specs.declared.Lay.{Lay}
use Rattle.layout.specs.Places.{PHASE, TOTAL, ESTIMATE, THRESHOLD, DEBT}
use Rattle.lists.specs.declared.Item.{Item}
use Rattle.lists.specs.declared.Item.TheVariants.{Table, Function, Userdata, Thread, Main, Unknown}
use Rattle.lists.specs.Lists.{pop}
use Rattle.record.specs.Fields.{body_at}
use Rattle.record.specs.Userdata.{ud_meta}
use Rattle.mark.specs.Words.{shade, ops}
use Rattle.modes.specs.Modes.{gc_method}
use Rattle.run_walk.specs.MainThread.{traverse_main_thread}
use Rattle.propagate.specs.declared.Propagated.{Propagated}
use Rattle.propagate.specs.declared.Propagated.TheVariants.{Done, NeedMainThread, Empty}
use Rattle.propagate.specs.Propagation.{propagate_one}
use Rattle.propagate.specs.Roots.{clear_lists, mark_roots}
use Rattle.atomic.specs.Atomic.{atomic}
use Rattle.pacing.specs.Pacing.{lowered}
use Rattle.sweep_step.specs.Sweeping.{sweep_strings, sweep_others}
use Rattle.step.specs.declared.Single.{Single}
use Rattle.step.specs.declared.Single.TheVariants.{Cost, Out}

-- no cost is larger
abbrev pub Small : Single → Type 0
Small (Cost c) = c ≤ 5632
Small (Out r v) = Unit {0}

-- Pause: marking the roots first empties gray, grayagain and weak.
unfoldable pub start_cycle : Lay → List ℕ → List ℕ
start_cycle l w = put PHASE 1 (mark_roots (ops l) (clear_lists (ops l) w))

-- Propagate: one gray object, or the main thread; where nothing is gray, the atomic step.
abbrev pub propagated : Lay → List ℕ → Propagated × List ℕ → ℕ × List ℕ
propagated l b (Done c, w) = (c, w)
propagated l b (NeedMainThread, w) = traverse_main_thread (ops l) l w
propagated l b (Empty, w) = (0, atomic l b w)

unfoldable pub propagate_step : Lay → List ℕ → List ℕ → ℕ × List ℕ
propagate_step l b w = propagated l b (propagate_one (ops l) l b w)

-- Finalize pops the queue from its end and then looks up the method.
unfoldable pub method_of : Lay → UdRef → List ℕ → Value
method_of l r w = if_eq (shade l.userdata r.0 r.1 w) 0 Nil (gc_method l (ud_meta (body_at l.userdata r.0) w) w)

-- With one, the threshold becomes total + 1024, and userdata and method are handed out.
abbrev pub handed_out : List ℕ → List ℕ
handed_out w = put64 THRESHOLD (at w TOTAL + 1024) w

-- An entry that does not fail lowers an estimate above 100 by 100.
abbrev pub lower_estimate : List ℕ → List ℕ
lower_estimate w = put ESTIMATE (lowered (at w ESTIMATE)) w

-- With none the entry still costs 100.
unfoldable pub finalize : Lay → UdRef → List ℕ → Single × List ℕ
finalize l r w =
    let v = method_of l r w in
    cond (is_nil v) (Cost 100, lower_estimate w) (Out r v, handed_out w)

-- An unknown list item is taken out at cost 0.
unfoldable pub finalize_item : Lay → Item → List ℕ → Single × List ℕ
finalize_item l (Userdata r) w = finalize l r w
finalize_item l (Table r) w = (Cost 0, w)
finalize_item l (Function r) w = (Cost 0, w)
finalize_item l (Thread r) w = (Cost 0, w)
finalize_item l Main w = (Cost 0, w)
finalize_item l Unknown w = (Cost 0, w)

-- The end costs 0: Pause, and no debt, which is stored plus 2^63.
abbrev pub end_cycle : List ℕ → List ℕ
end_cycle w = put64 DEBT 9223372036854775808 (put PHASE 0 w)

abbrev pub finalized : Lay → Option Item × List ℕ → Single × List ℕ
finalized l (Some x, w) = finalize_item l x w
finalized l (None, w) = (Cost 0, end_cycle w)

unfoldable pub finalize_step : Lay → List ℕ → Single × List ℕ
finalize_step l w = finalized l (pop l.queue w)

abbrev pub costs : ℕ × List ℕ → List ℕ → Single × Heap
costs x b = (Cost x.0, heap x.1 b)

abbrev pub in_bytes : Single × List ℕ → List ℕ → Single × Heap
in_bytes x b = (x.0, heap x.1 b)

unfoldable pub single_step : Lay → Heap → Single × Heap
single_step l h =
    let w = h.words in
    let b = h.bytes in
    if_eq (at w PHASE) 0 (Cost 0, heap (start_cycle l w) b)
    (if_eq (at w PHASE) 1 (costs (propagate_step l b w) b)
    (if_eq (at w PHASE) 2 (Cost 10, sweep_strings l h)
    (if_eq (at w PHASE) 3 (Cost 800, sweep_others l h)
    (in_bytes (finalize_step l w) b))))
