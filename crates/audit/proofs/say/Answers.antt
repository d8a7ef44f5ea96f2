-- `audit::say` meets its contract: yes and no. Assumes nothing.
use Rattle.std.specs.Prelude.{◌≡◌, refl, Bool, true, false, Ok, Result}
use Rattle.base.specs.declared.Refusal.{Refusal}
use Rattle.audit.specs.Audit.{said}
use Rattle.audit.proofs.say.Goals as goal

is_said : (b : Bool) → ◌≡◌ {A = Result Bool Refusal} (Ok b) (said b)
is_said true = refl
is_said false = refl

pub returns : goal.returns
returns c = is_said c.args.b
