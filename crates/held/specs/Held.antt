-- Document 01, the audit: "every handle in an occupied record names an occupied slot." Here one definition for each kind says
-- which handles its record holds, all of them; what names an occupied slot is said once, by `is_named` of the crate given.
-- Assumes nothing.
use Rattle.std.specs.Prelude.{Bool, true, cond, ◌&&◌, List, ℕ, ◌+◌, ◌*◌}
use Rattle.base.specs.Ways.{if_eq}
use Rattle.arena.specs.Slots.{colour, used}
use Rattle.layout.specs.declared.Lay.{Lay}
use Rattle.record.specs.Fields.{body_at, upval_at}
use Rattle.record.specs.Tables.{table_meta, array_size, node_count, node_key, node_value}
use Rattle.record.specs.Userdata.{ud_meta, ud_env}
use Rattle.run_record.specs.Closures.{is_rust, closure_env, closure_count}
use Rattle.run_record.specs.Upvalues.{is_closed, upvalue_value}
use Rattle.run_record.specs.Threads.{thread_global, thread_hook, thread_error, thread_size, thread_open_count, thread_suspended_count}
use Rattle.given.specs.Given.{is_table_or, is_upvalue, is_sound}
use Rattle.making.specs.Turns.{each}
use Rattle.sound.specs.Sound.{are_sound}
use Rattle.reads.specs.Objects.{arena_of}
use Rattle.reads.specs.declared.Kind.{Kind}
use Rattle.reads.specs.declared.Kind.TheVariants.{Strings, Tables, Functions, Upvalues, Userdata, Threads}

module _ (l : Lay) (w : List ℕ) where
  -- n handles of upvalues, two words each, from q on
  unfoldable pub upvalue_named : ℕ → ℕ → Bool
  upvalue_named q k = is_upvalue l (upval_at w (q + 2 * k)) w

  unfoldable pub upvalues_name : ℕ → ℕ → Bool
  upvalues_name q n = each (upvalue_named q) n

  -- A table holds its metatable, the values of its array, the keys and the values of its nodes.
  unfoldable pub node_names : ℕ → ℕ → Bool
  node_names p j = is_sound l (node_key p j w) w && is_sound l (node_value p j w) w

  unfoldable pub nodes_name : ℕ → Bool
  nodes_name p = each (node_names p) (node_count p w)

  unfoldable pub table_names : ℕ → Bool
  table_names p = is_table_or l (table_meta p w) w && are_sound l w (p + 4) (array_size p w) w && nodes_name p

  -- A closure holds its env; a Rust closure its values, a Lua closure its upvalues.
  unfoldable pub closure_names : ℕ → Bool
  closure_names p =
      is_table_or l (closure_env p w) w
      && cond (is_rust p w) (are_sound l w (p + 5) (closure_count p w) w) (upvalues_name (p + 5) (closure_count p w))

  -- An upvalue holds its value if it is closed.
  unfoldable pub upvalue_names : ℕ → Bool
  upvalue_names p = cond (is_closed p w) (is_sound l (upvalue_value p w) w) true

  -- A userdata holds its metatable and its env.
  unfoldable pub userdata_names : ℕ → Bool
  userdata_names p = is_table_or l (ud_meta p w) w && is_table_or l (ud_env p w) w

  -- A thread holds its global, its hook function, its error value, the values of its stack, also above top, and its open and
  -- suspended upvalues.
  unfoldable pub fields_name : ℕ → Bool
  fields_name p = is_table_or l (thread_global p w) w && is_sound l (thread_hook p w) w && is_sound l (thread_error p w) w

  unfoldable pub lists_name : ℕ → Bool
  lists_name p = upvalues_name (p + 12) (thread_open_count p w) && upvalues_name (p + 44) (thread_suspended_count p w)

  unfoldable pub thread_names : ℕ → Bool
  thread_names p = fields_name p && are_sound l w (p + 76) (thread_size p w) w && lists_name p

  -- A string holds none.
  unfoldable pub record_names : Kind → ℕ → Bool
  record_names Strings p = true
  record_names Tables p = table_names p
  record_names Functions p = closure_names p
  record_names Upvalues p = upvalue_names p
  record_names Userdata p = userdata_names p
  record_names Threads p = thread_names p

  -- Every handle in the record of slot i, if it is occupied.
  unfoldable pub slot_names : Kind → ℕ → Bool
  slot_names k i = if_eq (colour (arena_of l k) i w) 0 true (record_names k (body_at (arena_of l k) i))

  unfoldable pub slots_name : Kind → Bool
  slots_name k = each (slot_names k) (used (arena_of l k) w)

  -- Every handle in an occupied record names an occupied slot.
  unfoldable pub all_name : Bool
  all_name = slots_name Tables && slots_name Functions && slots_name Upvalues && slots_name Userdata && slots_name Threads
