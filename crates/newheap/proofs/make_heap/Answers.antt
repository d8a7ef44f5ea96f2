-- `newheap::make_heap` meets its contract: each way by its test. Assumes nothing.
use mathlib.Core.Path.{refl}
use native.Mathlib.Omega.{arith}
use Rattle.std.proofs.lemmas.Result.{err_from_is_err_and}
use Rattle.base.specs.Ways.{lt_yes, lt_no}
use Rattle.layout.specs.Layout.{lay_of}
use Rattle.layout.specs.Fits.{lay_ok}
use Rattle.newheap.specs.New.{make_heap}
use Rattle.newheap.proofs.make_heap.Goals as goal

pub returns-then-w-l : goal.returns-then-w-l
unfolding make_heap
returns-then-w-l c = rw (← c.plan.ensures, c.in_ok-z.was, ← c.lay_of-l.ensures) (lt_yes _ _ _ _ _ c.if-w-l.true refl)

pub returns-then-b-l : goal.returns-then-b-l
unfolding make_heap
returns-then-b-l c = rw (← c.plan.ensures, c.in_ok-z.was, ← c.lay_of-l.ensures) (lt_no _ _ _ _ _ c.if-w-l.false (lt_yes _ _ _ _ _ c.if-b-l.true refl))

pub put_words-requires : goal.put_words-requires
put_words-requires c = record { ok = rw c.lay_of-l.ensures (lay_ok _ _ _ c.in_ok-z.z.fits (omega arith) (omega arith)); words_in_bounds = c.if-w-l.false }

pub put_bytes-requires : goal.put_bytes-requires
unfolding lay_of
put_bytes-requires c = (rw c.lay_of-l.ensures (omega (arith, c.in_ok-z.z.fits.strings2)), c.if-b-l.false)

pub returns : goal.returns
unfolding make_heap
returns c = rw (← c.plan.ensures, c.in_ok-z.was, ← c.lay_of-l.ensures) (lt_no _ _ _ _ _ c.if-w-l.false (lt_no _ _ _ _ _ c.if-b-l.false (rw (← c.put_words.ensures, ← c.put_bytes.ensures))))

pub returns-in_err-z : goal.returns-in_err-z
unfolding make_heap
returns-in_err-z c = let p = err_from_is_err_and c.from_residual.result c.from_residual.ensures.1 in rw (← c.plan.ensures, c.in_err-z.was, p.1, p.2)
