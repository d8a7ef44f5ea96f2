-- `main_record::frame_function` meets its contract: the callees' equations joined. Assumes nothing.
use Rattle.main_record.proofs.frame_function.Goals as goal

pub returns : goal.returns
returns c = rw (← c.frames_at.ensures) c.number_at.ensures
