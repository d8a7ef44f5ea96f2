-- `reads::field_of` meets its contract: from what its callees promise. Assumes nothing.
use native.Mathlib.Omega.{arith}
use Rattle.reads.proofs.field_of.Goals as goal

pub returns-in-Prototypes : goal.returns-in-Prototypes
returns-in-Prototypes c = (rw c.in-Prototypes.is, omega arith)

pub returns-in-Limit : goal.returns-in-Limit
returns-in-Limit c = (rw c.in-Limit.is, omega arith)

pub returns-in-Pause : goal.returns-in-Pause
returns-in-Pause c = (rw c.in-Pause.is, omega arith)

pub returns-in-Stepmul : goal.returns-in-Stepmul
returns-in-Stepmul c = (rw c.in-Stepmul.is, omega arith)

pub returns-in-Creation : goal.returns-in-Creation
returns-in-Creation c = (rw c.in-Creation.is, omega arith)

pub returns-in-Phase : goal.returns-in-Phase
returns-in-Phase c = (rw c.in-Phase.is, omega arith)

pub returns-in-White : goal.returns-in-White
returns-in-White c = (rw c.in-White.is, omega arith)

pub returns-in-CursorArena : goal.returns-in-CursorArena
returns-in-CursorArena c = (rw c.in-CursorArena.is, omega arith)

pub returns-in-CursorSlot : goal.returns-in-CursorSlot
returns-in-CursorSlot c = (rw c.in-CursorSlot.is, omega arith)

pub returns-in-Total : goal.returns-in-Total
returns-in-Total c = (rw c.in-Total.is, omega arith)

pub returns-in-Peak : goal.returns-in-Peak
returns-in-Peak c = (rw c.in-Peak.is, omega arith)

pub returns-in-Estimate : goal.returns-in-Estimate
returns-in-Estimate c = (rw c.in-Estimate.is, omega arith)

pub returns-in-Threshold : goal.returns-in-Threshold
returns-in-Threshold c = (rw c.in-Threshold.is, omega arith)

pub returns-in-Debt : goal.returns-in-Debt
returns-in-Debt c = (rw c.in-Debt.is, omega arith)

pub returns-in-Interrupted : goal.returns-in-Interrupted
returns-in-Interrupted c = (rw c.in-Interrupted.is, omega arith)

pub returns-in-Remaining : goal.returns-in-Remaining
returns-in-Remaining c = (rw c.in-Remaining.is, omega arith)
