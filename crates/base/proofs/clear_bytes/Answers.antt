-- `base::clear_bytes` meets its contract: a part filled with 0 is cleared. Assumes nothing.
use Rattle.base.proofs.Writes.{part_clear}
use Rattle.base.proofs.clear_bytes.Goals as goal

pub returns : goal.returns
returns c = part_clear c.args.p c.args.n c.args.b.now _ (c.fill.ensures.after (λ y e. e)) c.requires
