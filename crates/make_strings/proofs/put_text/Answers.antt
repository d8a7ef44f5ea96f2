-- `make_strings::put_text` meets its contract: the callees' equations joined. Assumes nothing.
use Rattle.make_strings.specs.Making.{put_text}
use Rattle.make_strings.proofs.put_text.Goals as goal

pub returns : goal.returns
unfolding put_text
returns c = rw (← c.clear_bytes.ensures) c.text_put.ensures
