-- `upvalue_calls::store_in` meets its contract: the callees' equations joined. Assumes nothing.
use Rattle.std.specs.Prelude.{true, false, Bool, List, ℕ}
use mathlib.Core.Path.{◌≡◌, refl}
use Rattle.value.specs.declared.UpvalRef.{UpvalRef}
use Rattle.value.specs.declared.Value.{Value}
use Rattle.layout.specs.declared.Lay.{Lay}
use Rattle.given.specs.Answers.{on_named}
use Rattle.entered.specs.Entered.{none_refused}
use Rattle.laid.specs.Laid.{upvalue_words, upvalues_room, laid_of}
use Rattle.upvalue_calls.specs.UpvalueCalls.{store_at, store_in, upvalue_close_in, upvalue_set_in}
use Rattle.upvalue_calls.proofs.store_in.Goals as goal

-- either call of the upvalue that is named
by_call : (k : Bool) (u : UpvalRef) (v : Value) (l : Lay) (w : List ℕ) → on_named l.upvalues u.0 u.1 (store_at k l u v) w ≡ store_in k u v l w
unfolding upvalue_close_in upvalue_set_in
by_call false u v l w = refl
by_call true u v l w = refl

pub name_of-requires : goal.name_of-requires
name_of-requires c = rw c.upvalues_of-upvalues.ensures (upvalues_room _ _ (laid_of _ c.args.l.fits) c.requires.l_in_bounds)

pub body_of-p-requires : goal.body_of-p-requires
body_of-p-requires c = record { room = rw c.upvalues_of-upvalues.ensures (upvalues_room _ _ (laid_of _ c.args.l.fits) c.requires.l_in_bounds); i_lt_slots = rw c.upvalues_of-upvalues.ensures (rw (rw c.in_ok-n.was at c.ok_or.ensures.ok_part) at (rw c.upvalues_of-upvalues.ensures at c.name_of.ensures).1) }

pub store_at-requires : goal.store_at-requires
store_at-requires c = record { l_in_bounds = c.requires.l_in_bounds; p_in_bounds = rw (upvalue_words _ (laid_of _ c.args.l.fits)) at (rw c.upvalues_of-upvalues.ensures at c.body_of-p.ensures).1 }

pub returns : goal.returns
returns c = rw (← by_call, ← (rw c.upvalues_of-upvalues.ensures at c.name_of.ensures).0, rw c.in_ok-n.was at c.ok_or.ensures.ok_part, ← (rw c.upvalues_of-upvalues.ensures at c.body_of-p.ensures).0) c.store_at.ensures

pub returns-in_err-n : goal.returns-in_err-n
returns-in_err-n c = let (a, b) = none_refused _ _ c.ok_or.ensures.value c.in_err-n.was c.from_residual.ensures.1 in rw (← by_call, ← (rw c.upvalues_of-upvalues.ensures at c.name_of.ensures).0, a, b)
