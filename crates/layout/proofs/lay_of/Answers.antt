-- `layout::lay_of` meets its contract: from what its callees promise. Assumes nothing.
use Rattle.layout.specs.Layout.{lay_of}
use Rattle.layout.proofs.lay_of.Goals as goal

pub returns : goal.returns
unfolding lay_of
returns c = rw (c.strings_of.ensures, c.tables_of.ensures, c.functions_of.ensures, c.upvalues_of.ensures, c.userdata_of.ensures, c.threads_of.ensures, c.gray_of.ensures, c.grayagain_of.ensures, c.weak_of.ensures, c.queue_of.ensures, c.protos_at.ensures, c.stack_at.ensures, c.opens_at.ensures, c.frames_at.ensures, c.boundary_at.ensures, c.words_of.ensures, c.bytes_of.ensures)
