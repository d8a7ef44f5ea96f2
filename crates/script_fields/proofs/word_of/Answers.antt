-- `script_fields::word_of` meets its contract: by the cases of its tests. Assumes nothing.
use Rattle.script_fields.specs.Fields.{word_of}
use Rattle.script_fields.proofs.word_of.Goals as goal

pub returns-then-same_bytes : goal.returns-then-same_bytes
unfolding word_of
returns-then-same_bytes c = rw (← c.same_bytes.ensures, c.if-same_bytes.true)

pub returns-then-same_bytes-2 : goal.returns-then-same_bytes-2
unfolding word_of
returns-then-same_bytes-2 c = rw (← c.same_bytes.ensures, c.if-same_bytes.false, ← c.same_bytes-else-same_bytes.ensures, c.if-same_bytes-2.true)

pub returns-then-same_bytes-3 : goal.returns-then-same_bytes-3
unfolding word_of
returns-then-same_bytes-3 c = rw (← c.same_bytes.ensures, c.if-same_bytes.false, ← c.same_bytes-else-same_bytes.ensures, c.if-same_bytes-2.false, ← c.same_bytes-else-same_bytes-2.ensures, c.if-same_bytes-3.true)

pub returns-then-same_bytes-4 : goal.returns-then-same_bytes-4
unfolding word_of
returns-then-same_bytes-4 c = rw (← c.same_bytes.ensures, c.if-same_bytes.false, ← c.same_bytes-else-same_bytes.ensures, c.if-same_bytes-2.false, ← c.same_bytes-else-same_bytes-2.ensures, c.if-same_bytes-3.false, ← c.same_bytes-else-same_bytes-3.ensures, c.if-same_bytes-4.true)

pub returns-else-same_bytes-4 : goal.returns-else-same_bytes-4
unfolding word_of
returns-else-same_bytes-4 c = rw (← c.same_bytes.ensures, c.if-same_bytes.false, ← c.same_bytes-else-same_bytes.ensures, c.if-same_bytes-2.false, ← c.same_bytes-else-same_bytes-2.ensures, c.if-same_bytes-3.false, ← c.same_bytes-else-same_bytes-3.ensures, c.if-same_bytes-4.false) c.other_word.ensures
