-- `test1::enter` meets its contract: each way by its test. Assumes nothing.
use borrow.Author.Tests.{le-leb, lt-leb, eq-eqb, ne_eqb}
use mathlib.Core.Path.{sym, ◌∙◌}
use native.Mathlib.Omega.{arith}
use Rattle.layout.specs.Fits.{lay_ok}
use Rattle.layout.specs.Sizes.{sizes_fit_ok}
use Rattle.test1.specs.Test1.{accepted, opened}
use Rattle.test1.proofs.enter.Goals as goal

pub returns-then-w-lt-HEADER : goal.returns-then-w-lt-HEADER
unfolding opened accepted
returns-then-w-lt-HEADER c = (rw (lt-leb _ _ c.if-w-lt-HEADER.true), tt)

pub returns-then-not-sizes_fit : goal.returns-then-not-sizes_fit
unfolding opened accepted
returns-then-not-sizes_fit c = (rw (le-leb _ _ c.if-w-lt-HEADER.false, ← c.sizes_at-s.ensures, ← c.sizes_fit.ensures, c.if-not-sizes_fit.true), tt)

pub counts_fit-requires : goal.counts_fit-requires
counts_fit-requires c = c.if-w-lt-HEADER.false

pub invariant_of-l : goal.invariant_of-l
invariant_of-l c = record { fits = sizes_fit_ok _ (sym c.sizes_fit.ensures ∙ c.if-not-sizes_fit.false) }

pub returns-then-not-counts_fit : goal.returns-then-not-counts_fit
unfolding opened accepted
returns-then-not-counts_fit c = (rw (le-leb _ _ c.if-w-lt-HEADER.false, ← c.sizes_at-s.ensures, ← c.sizes_fit.ensures, c.if-not-sizes_fit.false, ← c.counts_fit.ensures, c.if-not-counts_fit.true), tt)

pub returns-then-w-words_of : goal.returns-then-w-words_of
unfolding opened accepted
returns-then-w-words_of c = (rw (le-leb _ _ c.if-w-lt-HEADER.false, ← c.sizes_at-s.ensures, ← c.sizes_fit.ensures, c.if-not-sizes_fit.false, ← c.counts_fit.ensures, c.if-not-counts_fit.false, ← c.words_of.ensures, lt-leb _ _ c.if-w-words_of.true), tt)

pub returns-then-b-bytes_of : goal.returns-then-b-bytes_of
unfolding opened accepted
returns-then-b-bytes_of c = (rw (le-leb _ _ c.if-w-lt-HEADER.false, ← c.sizes_at-s.ensures, ← c.sizes_fit.ensures, c.if-not-sizes_fit.false, ← c.counts_fit.ensures, c.if-not-counts_fit.false, ← c.words_of.ensures, le-leb _ _ c.if-w-words_of.false, ← c.bytes_of.ensures, lt-leb _ _ c.if-b-bytes_of.true), tt)

pub get-requires : goal.get-requires
get-requires c = omega (arith, c.if-w-lt-HEADER.false)

pub returns-then-get-ne0 : goal.returns-then-get-ne0
unfolding opened accepted
returns-then-get-ne0 c = (rw (le-leb _ _ c.if-w-lt-HEADER.false, ← c.sizes_at-s.ensures, ← c.sizes_fit.ensures, c.if-not-sizes_fit.false, ← c.counts_fit.ensures, c.if-not-counts_fit.false, ← c.words_of.ensures, le-leb _ _ c.if-w-words_of.false, ← c.bytes_of.ensures, le-leb _ _ c.if-b-bytes_of.false, ← c.get.ensures, ne_eqb _ _ c.if-get-ne0.true), tt)

pub returns : goal.returns
unfolding opened accepted
returns c = (rw (le-leb _ _ c.if-w-lt-HEADER.false, ← c.sizes_at-s.ensures, ← c.sizes_fit.ensures, c.if-not-sizes_fit.false, ← c.counts_fit.ensures, c.if-not-counts_fit.false, ← c.words_of.ensures, le-leb _ _ c.if-w-words_of.false, ← c.bytes_of.ensures, le-leb _ _ c.if-b-bytes_of.false, ← c.get.ensures, eq-eqb _ _ c.if-get-ne0.false), lay_ok _ _ _ (sizes_fit_ok _ (sym c.sizes_fit.ensures ∙ c.if-not-sizes_fit.false)) (rw c.words_of.ensures at c.if-w-words_of.false) (rw c.bytes_of.ensures at c.if-b-bytes_of.false))
