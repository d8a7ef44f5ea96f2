-- A script's commands, by the heap's calls. Assumes nothing.
use Rattle.std.specs.Prelude.{true, List, [], ℕ, zero, suc, drop, Some, None, Ok, Err, Option, Result}
use Rattle.base.specs.Heap.{Heap}
use Rattle.base.specs.declared.Refusal.{Refusal}
use Rattle.value.specs.declared.TableRef.{TableRef}
use Rattle.value.specs.declared.Value.{Value}
use Rattle.value.specs.declared.Value.TheVariants.{Nil, Boolean, Light, Number, Str, Table, Function, Userdata, Thread}
use Rattle.making.specs.declared.Made.{Made}
use Rattle.making.specs.declared.Made.TheVariants as made
use Rattle.make_strings.specs.Making.{make_string}
use Rattle.make_tables.specs.Making.{make_table, make_userdata}
use Rattle.stack_calls.specs.StackCalls.{push, pop}
use Rattle.table_calls.specs.TableCalls.{table_set, table_set_meta}
use Rattle.node_calls.specs.NodeCalls.{table_set_node}
use Rattle.object_calls.specs.ObjectCalls.{ud_set_meta}
use Rattle.script_made.specs.Objects.{object_of, is_full}
use Rattle.script_print.specs.declared.Outcome.{Outcome}
use Rattle.script_answers.specs.Answers.{Script, script, of_served, of_got, table_of, meta_of}
use Rattle.script_makes.specs.Makes.{numbered, make, str_command, tab_command, ud_command}
use Rattle.accounts.specs.declared.Answer.{Answer}
use Rattle.accounts.specs.declared.Answer.TheVariants.{Stepped, Unfinished, Ended, Passed, Handed, Busy, Failed}
use Rattle.steps.specs.Steps.{full_gc, finish}
use Rattle.script_calls.specs.Commands.{serve, on_object, on_table, on_meta, push_command, pop_command, set_item, seti_command, set_node, setn_command, set_meta, meta_command}
use Rattle.script_print.specs.declared.Counts.{Counts}
use Rattle.script_line.specs.declared.Command.{Command}
use Rattle.script_line.specs.declared.Command.TheVariants as command
use Rattle.script_collect.specs.Collects.{counts_in, finals, ended, handing, collecting}
use Rattle.script_run.specs.Runs.{collect_command, obey}
use Rattle.state_laws.specs.Plains.{cond_both}
use Rattle.refusal_laws.specs.Known.{Answered}
use Rattle.refusal_laws.specs.Begins.{Answers}
use Rattle.refusal_laws.specs.Makes.{make_string_known, make_table_known, make_userdata_known}
use Rattle.refusal_laws.specs.Steps.{full_gc_known, finish_known}
use Rattle.refusal_laws.specs.Changes.{push_known, pop_known, table_set_known, table_set_meta_known, table_set_node_known, ud_set_meta_known}

-- A call's answer handed on.
pub of_served_known : (a : Result Unit Refusal) → Answered a → Answered (of_served a)
of_served_known (Ok tt) h = tt
of_served_known (Err k) h = h

pub of_got_known : (a : Result Value Refusal) → Answered a → Answered (of_got a)
of_got_known (Ok v) h = tt
of_got_known (Err k) h = h

-- What makes an object.
numbered_known : (a : Result Made Refusal) (m : List ℕ) → Answered a → Answers (numbered a m)
unfolding numbered
numbered_known (Ok (made.Str r)) m h = tt
numbered_known (Ok (made.Table r)) m h = tt
numbered_known (Ok (made.Userdata r)) m h = tt
numbered_known (Ok (made.Function r)) m h = tt
numbered_known (Ok (made.Upvalue r)) m h = tt
numbered_known (Ok (made.Thread r)) m h = tt
numbered_known (Ok (made.Proto n)) m h = tt
numbered_known (Err k) m h = h

make_known : (call : Heap → Result Made Refusal × Heap) (s : Script) → Answers (call s.heap) → Answers (make call s)
unfolding make
make_known call s h = cond_both Answers (is_full s.made) _ _ (λ e. tt) (λ e. numbered_known (call s.heap).0 s.made h)

pub str_command_known : (text : List ℕ) (s : Script) → Answers (str_command text s)
str_command_known text s = make_known (make_string text) s (make_string_known text s.heap)

pub tab_command_known : (a n : ℕ) (s : Script) → Answers (tab_command a n s)
tab_command_known a n s = make_known (make_table a n) s (make_table_known a n s.heap)

pub ud_command_known : (s : Script) → Answers (ud_command s)
ud_command_known s = make_known make_userdata s (make_userdata_known s.heap)

-- What changes something.
serve_known : (call : Heap → Result Unit Refusal × Heap) (s : Script) → Answers (call s.heap) → Answers (serve call s)
unfolding serve
serve_known call s h = of_served_known (call s.heap).0 h

on_object_known : (f : Value → Result Outcome Refusal × Script) (s : Script) (o : Option Value) → ((v : Value) → Answers (f v)) → Answers (on_object f s o)
on_object_known f s (Some v) p = p v
on_object_known f s None p = tt

on_table_known : (f : TableRef → Result Outcome Refusal × Script) (s : Script) (o : Option TableRef) → ((r : TableRef) → Answers (f r)) → Answers (on_table f s o)
on_table_known f s (Some r) p = p r
on_table_known f s None p = tt

on_meta_known : (f : Option TableRef → Result Outcome Refusal × Script) (s : Script) (o : Option (Option TableRef)) → ((t : Option TableRef) → Answers (f t)) → Answers (on_meta f s o)
on_meta_known f s (Some t) p = p t
on_meta_known f s None p = tt

pub push_command_known : (k : ℕ) (s : Script) → Answers (push_command k s)
unfolding push_command
push_command_known k s = on_object_known (λ v. serve (push v) s) s (object_of s.made k) (λ v. serve_known (push v) s (push_known v s.heap))

pub pop_command_known : (s : Script) → Answers (pop_command s)
unfolding pop_command
pop_command_known s = of_got_known (pop s.heap).0 (pop_known s.heap)

pub seti_command_known : (t i k : ℕ) (s : Script) → Answers (seti_command t i k s)
unfolding seti_command set_item
seti_command_known t i k s =
    on_table_known (λ r. set_item r i k s) s (table_of (object_of s.made t))
    (λ r. on_object_known (λ v. serve (table_set r i v) s) s (object_of s.made k)
    (λ v. serve_known (table_set r i v) s (table_set_known r i v s.heap)))

pub setn_command_known : (t j k v : ℕ) (s : Script) → Answers (setn_command t j k v s)
unfolding setn_command set_node
setn_command_known t j k v s =
    on_table_known (λ r. set_node r j k v s) s (table_of (object_of s.made t))
    (λ r. on_object_known (λ x. on_object (λ y. serve (table_set_node r j x y) s) s (object_of s.made v)) s (object_of s.made k)
    (λ x. on_object_known (λ y. serve (table_set_node r j x y) s) s (object_of s.made v)
    (λ y. serve_known (table_set_node r j x y) s (table_set_node_known r j x y s.heap))))

set_meta_known : (v : Value) (t : Option TableRef) (s : Script) → Answers (set_meta v t s)
unfolding set_meta
set_meta_known (Table r) t s = serve_known (table_set_meta r t) s (table_set_meta_known r t s.heap)
set_meta_known (Userdata r) t s = serve_known (ud_set_meta r t) s (ud_set_meta_known r t s.heap)
set_meta_known Nil t s = tt
set_meta_known (Boolean b) t s = tt
set_meta_known (Light x) t s = tt
set_meta_known (Number x) t s = tt
set_meta_known (Str r) t s = tt
set_meta_known (Function r) t s = tt
set_meta_known (Thread r) t s = tt

pub meta_command_known : (k t : ℕ) (s : Script) → Answers (meta_command k t s)
unfolding meta_command
meta_command_known k t s =
    on_object_known (λ v. on_meta (λ m. set_meta v m s) s (meta_of (object_of s.made t))) s (object_of s.made k)
    (λ v. on_meta_known (λ m. set_meta v m s) s (meta_of (object_of s.made t)) (λ m. set_meta_known v m s))

-- `collect`: as the full collection, or the last finalizer's success, is answered.
finals_known : (n : ℕ) (a : Result Answer Refusal) (h : Heap) → Answered a → Answers (finals n a h).1
unfolding finals
finals_known zero a h p = p
finals_known (suc n) (Ok (Handed r v)) h p = finals_known n (finish true h).0 (finish true h).1 (finish_known true h)
finals_known (suc n) (Ok (Stepped c)) h p = tt
finals_known (suc n) (Ok Unfinished) h p = tt
finals_known (suc n) (Ok Ended) h p = tt
finals_known (suc n) (Ok Passed) h p = tt
finals_known (suc n) (Ok Busy) h p = tt
finals_known (suc n) (Ok Failed) h p = tt
finals_known (suc n) (Err k) h p = p

ended_known : (c : Counts) (h : Heap) (a : Result Answer Refusal) → Answered a → Answered (ended c h a)
unfolding ended
ended_known c h (Ok (Handed r v)) p = tt
ended_known c h (Ok (Stepped n)) p = tt
ended_known c h (Ok Unfinished) p = tt
ended_known c h (Ok Ended) p = tt
ended_known c h (Ok Passed) p = tt
ended_known c h (Ok Busy) p = tt
ended_known c h (Ok Failed) p = tt
ended_known c h (Err k) p = p

collect_known : (s : Script) → Answered (collect_command s).outcome
unfolding collect_command
collect_known s =
    let before = counts_in s.heap in
    let x = finals before.userdata (full_gc s.heap).0 (full_gc s.heap).1 in
    ended_known before x.1.1 x.1.0 (finals_known before.userdata (full_gc s.heap).0 (full_gc s.heap).1 (full_gc_known s.heap))

pub collecting_known : (h : Heap) (p : ℕ × List ℕ) → Answers (collecting h p).0
unfolding collecting handing collect_command
collecting_known h p = collect_known (script h [])

-- A line's command, whose refusal is what the line prints.
pub obey_known : (line : List ℕ) (c : Command) (s : Script) → Answered (obey line c s).outcome
unfolding obey
obey_known line (command.Str i) s = str_command_known (drop i line) s
obey_known line (command.Tab a n) s = tab_command_known a n s
obey_known line command.Ud s = ud_command_known s
obey_known line (command.Push k) s = push_command_known k s
obey_known line command.Pop s = pop_command_known s
obey_known line (command.Seti t i k) s = seti_command_known t i k s
obey_known line (command.Setn t j k v) s = setn_command_known t j k v s
obey_known line (command.Meta k t) s = meta_command_known k t s
obey_known line command.Collect s = collect_known s
obey_known line command.Bad s = tt
