-- `main_record::set_frame_function` meets its contract: the callees' equations joined. Assumes nothing.
use Rattle.main_record.proofs.set_frame_function.Goals as goal

pub returns : goal.returns
returns c = rw (← c.frames_at.ensures) c.put_number.ensures
