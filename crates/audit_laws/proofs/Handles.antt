-- The audit's test of a record means what document 01 says: every handle in it names an occupied slot. Assumes nothing.
--     slot_means, slots_mean     the test of a slot says yes exactly if, being occupied, it holds such handles only; and that of all slots
use Rattle.std.specs.Prelude.{◌≡◌, refl, Bool, true, List, Some, None, Option}
use Rattle.std.proofs.Common.{sym, ap, ◌∙◌, true≢false, ⊎_elim}
use Prim.Native.Nat.{ℕ, ◌+◌, ◌*◌, ◌<◌}
use Rattle.std.proofs.Math.Decide.{ℕ_discrete}
use Rattle.base.specs.Ways.{if_eq, eq_yes, eq_no}
use Rattle.value.specs.declared.TableRef.{TableRef}
use Rattle.arena.specs.declared.Arena.{Arena}
use Rattle.arena.specs.Slots.{colour, used}
use Rattle.arena_laws.specs.Names.{Names, named_tells, named_at, named_either}
use Rattle.value.specs.declared.Value.{Value}
use Rattle.value.specs.declared.Value.TheVariants.{Nil, Boolean, Light, Number, Str, Table, Function, Userdata, Thread}
use Rattle.layout.specs.declared.Lay.{Lay}
use Rattle.record.specs.Fields.{body_at, upval_at}
use Rattle.record.specs.Tables.{table_meta, array_size, node_count, node_key, node_value}
use Rattle.record.specs.Userdata.{ud_meta, ud_env}
use Rattle.run_record.specs.Closures.{is_rust, closure_env, closure_count}
use Rattle.run_record.specs.Upvalues.{is_closed, upvalue_value}
use Rattle.run_record.specs.Threads.{thread_global, thread_hook, thread_error, thread_size, thread_open_count, thread_suspended_count}
use Rattle.value.specs.Values.{value_at}
use Rattle.given.specs.Given.{is_at, is_named, is_table_or, is_sound}
use Rattle.sound.specs.Sound.{are_sound, sound_at}
use Rattle.reads.specs.Objects.{arena_of}
use Rattle.reads.specs.declared.Kind.{Kind}
use Rattle.reads.specs.declared.Kind.TheVariants as kind
use Rattle.held.specs.Held.{upvalue_named, upvalues_name, node_names, nodes_name, table_names, closure_names, upvalue_names, userdata_names, fields_name, lists_name, thread_names, record_names, slot_names, slots_name}
use Rattle.audit_laws.specs.Tests.{Means, means_as, and_means, cond_means, each_means}
use Rattle.audit_laws.specs.Handles.{ValueNames, TableOrNames, UpvalueNames, TableHolds, ClosureHolds, UpvalueHolds, UserdataHolds, ThreadHolds, RecordHolds, SlotHolds}

-- one handle, the handle of a value, one that may be missing
named_means : (a : Arena) (i g : ℕ) (w : List ℕ) → Means (is_named a i g w) (Names a i g w)
unfolding is_named
named_means a i g w = (
  (λ e. ⊎_elim (λ p. named_tells a i g w p) (λ p. absurd (true≢false (sym e ∙ ap is_at p))) (named_either a i g w)),
  λ n. ap is_at (named_at a i g w n.below n.gen n.occupied),
)

always : Means true (Unit {0})
always = ((λ e. tt), λ x. refl)

module _ (l : Lay) (w : List ℕ) where
  value_means : (v : Value) → Means (is_sound l v w) (ValueNames l w v)
  unfolding is_sound
  value_means Nil = always
  value_means (Boolean b) = always
  value_means (Light x) = always
  value_means (Number x) = always
  value_means (Str r) = named_means l.strings r.0 r.1 w
  value_means (Table r) = named_means l.tables r.0 r.1 w
  value_means (Function r) = named_means l.functions r.0 r.1 w
  value_means (Userdata r) = named_means l.userdata r.0 r.1 w
  value_means (Thread r) = named_means l.threads r.0 r.1 w

  table_or_means : (t : Option TableRef) → Means (is_table_or l t w) (TableOrNames l w t)
  unfolding is_table_or
  table_or_means (Some r) = named_means l.tables r.0 r.1 w
  table_or_means None = always

  -- values and handles of upvalues in a row
  values_mean : (p n : ℕ) → Means (are_sound l w p n w) ((k : ℕ) → k < n → ValueNames l w (value_at w (p + 3 * k)))
  unfolding are_sound sound_at
  values_mean p n = each_means (sound_at l w p w) n (λ k. value_means (value_at w (p + 3 * k)))

  upvalues_mean : (q n : ℕ) → Means (upvalues_name l w q n) ((k : ℕ) → k < n → UpvalueNames l w (upval_at w (q + 2 * k)))
  unfolding upvalues_name upvalue_named
  upvalues_mean q n = each_means (upvalue_named l w q) n (λ k. named_means l.upvalues (upval_at w (q + 2 * k)).0 (upval_at w (q + 2 * k)).1 w)

  module _ (p : ℕ) where
    table_means : Means (table_names l w p) (TableHolds l w p)
    unfolding table_names nodes_name node_names
    table_means =
        means_as
        (λ x. record { meta = x.0.0; array = x.0.1; nodes = x.1 })
        (λ h. ((h.meta, h.array), h.nodes))
        (and_means _ _
        (and_means _ _ (table_or_means (table_meta p w)) (values_mean (p + 4) (array_size p w)))
        (each_means (node_names l w p) (node_count p w) (λ j. and_means _ _ (value_means (node_key p j w)) (value_means (node_value p j w)))))

    closure_means : Means (closure_names l w p) (ClosureHolds l w p)
    unfolding closure_names
    closure_means =
        means_as
        (λ x. record { env = x.0; rust = x.1.0; lua = x.1.1 })
        (λ h. (h.env, (h.rust, h.lua)))
        (and_means _ _
        (table_or_means (closure_env p w))
        (cond_means (is_rust p w) _ _ (values_mean (p + 5) (closure_count p w)) (upvalues_mean (p + 5) (closure_count p w))))

    upvalue_means : Means (upvalue_names l w p) (UpvalueHolds l w p)
    unfolding upvalue_names
    upvalue_means =
        means_as
        (λ x. record { closed = x.0 })
        (λ h. (h.closed, λ e. tt))
        (cond_means (is_closed p w) _ _ (value_means (upvalue_value p w)) always)

    userdata_means : Means (userdata_names l w p) (UserdataHolds l w p)
    unfolding userdata_names
    userdata_means =
        means_as
        (λ x. record { meta = x.0; env = x.1 })
        (λ h. (h.meta, h.env))
        (and_means _ _ (table_or_means (ud_meta p w)) (table_or_means (ud_env p w)))

    thread_means : Means (thread_names l w p) (ThreadHolds l w p)
    unfolding thread_names fields_name lists_name
    thread_means =
        means_as
        (λ x. record { global = x.0.0.0.0; hook = x.0.0.0.1; error = x.0.0.1; stack = x.0.1; opens = x.1.0; suspended = x.1.1 })
        (λ h. ((((h.global, h.hook), h.error), h.stack), (h.opens, h.suspended)))
        (and_means _ _
        (and_means _ _
        (and_means _ _ (and_means _ _ (table_or_means (thread_global p w)) (value_means (thread_hook p w))) (value_means (thread_error p w)))
        (values_mean (p + 76) (thread_size p w)))
        (and_means _ _ (upvalues_mean (p + 12) (thread_open_count p w)) (upvalues_mean (p + 44) (thread_suspended_count p w))))

  record_means : (k : Kind) (p : ℕ) → Means (record_names l w k p) (RecordHolds l w k p)
  unfolding record_names
  record_means kind.Strings p = always
  record_means kind.Tables p = table_means p
  record_means kind.Functions p = closure_means p
  record_means kind.Upvalues p = upvalue_means p
  record_means kind.Userdata p = userdata_means p
  record_means kind.Threads p = thread_means p

  pub slot_means : (k : Kind) (i : ℕ) → Means (slot_names l w k i) (SlotHolds l w k i)
  unfolding slot_names
  slot_means k i = go (ℕ_discrete c 0)
    where
      c : ℕ
      c = colour (arena_of l k) i w

      t : Bool
      t = record_names l w k (body_at (arena_of l k) i)

      go : Dec (c ≡ 0) → Means (if_eq c 0 true t) (SlotHolds l w k i)
      go (yes e) = ((λ x d. absurd (d e)), λ h. sym (eq_yes c 0 true t true e refl))
      go (no d) =
          let q : t ≡ if_eq c 0 true t = eq_no c 0 true t t d refl in
          ((λ x y. (record_means k (body_at (arena_of l k) i)).0 (q ∙ x)), λ h. sym q ∙ (record_means k (body_at (arena_of l k) i)).1 (h d))

  pub slots_mean : (k : Kind) → Means (slots_name l w k) ((i : ℕ) → i < used (arena_of l k) w → SlotHolds l w k i)
  unfolding slots_name
  slots_mean k = each_means (slot_names l w k) (used (arena_of l k) w) (slot_means k)
