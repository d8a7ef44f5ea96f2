-- `closures::put_head` meets its contract: the callees' equations joined. Assumes nothing.
use Rattle.closures.specs.Closures.{put_head}
use Rattle.closures.proofs.put_head.Goals as goal

pub returns : goal.returns
unfolding put_head
returns c = rw (← c.set_rust.ensures, ← c.set_closure_env.ensures, ← c.set_closure_proto.ensures) c.set_closure_count.ensures
