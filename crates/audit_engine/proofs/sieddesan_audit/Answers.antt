-- `audit_engine::sieddesan_audit` meets its contract: too short an answer is refused, else the call's answer is told. Assumes nothing.
use mathlib.Core.Path.{refl}
use Rattle.base.specs.Ways.{lt_no, lt_yes}
use Rattle.audit_engine.specs.Exports.{on_audit}
use Rattle.audit_engine.proofs.sieddesan_audit.Goals as goal

pub returns-then-out-lt1 : goal.returns-then-out-lt1
unfolding on_audit
returns-then-out-lt1 c = lt_yes _ _ _ _ _ c.if-out-lt1.true refl

pub returns : goal.returns
unfolding on_audit
returns c = lt_no _ _ _ _ _ c.if-out-lt1.false (rw (← c.audit-a.ensures) c.tell.ensures)
