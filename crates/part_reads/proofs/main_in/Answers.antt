use native.Mathlib.Omega.{arith}
-- `part_reads::main_in` meets its contract: from what its callees promise. Assumes nothing.
use Rattle.layout.specs.Layout.{lay_of}
use Rattle.part_reads.proofs.main_in.Goals as goal

pub stack_in-requires : goal.stack_in-requires
unfolding lay_of
stack_in-requires c = (c.requires.stack, omega (arith, c.stack_at.ensures, c.requires.stack_fits))

pub open_in-requires : goal.open_in-requires
unfolding lay_of
open_in-requires c = record { room_bound = (c.requires.opens, omega (arith, c.opens_at.ensures, c.requires.opens_fit)); in_bounds = c.requires.header }

pub frame_in-requires : goal.frame_in-requires
unfolding lay_of
frame_in-requires c = (c.requires.frames, omega (arith, c.frames_at.ensures, c.requires.frames_fit))

pub returns-in-Top : goal.returns-in-Top
unfolding lay_of
returns-in-Top c = rw c.in-Top.is c.number_read.ensures

pub returns-in-Opens : goal.returns-in-Opens
unfolding lay_of
returns-in-Opens c = rw c.in-Opens.is c.number_read-in-Opens.ensures

pub returns-in-Ci : goal.returns-in-Ci
unfolding lay_of
returns-in-Ci c = rw c.in-Ci.is c.number_read-in-Ci.ensures

pub returns-in-Error : goal.returns-in-Error
unfolding lay_of
returns-in-Error c = rw c.in-Error.is c.value_read.ensures

pub returns-in-Hook : goal.returns-in-Hook
unfolding lay_of
returns-in-Hook c = rw c.in-Hook.is c.value_read-in-Hook.ensures

pub returns-in-Stack : goal.returns-in-Stack
unfolding lay_of
returns-in-Stack c = rw c.in-Stack.is (rw c.stack_at.ensures at c.stack_in.ensures)

pub returns-in-Open : goal.returns-in-Open
unfolding lay_of
returns-in-Open c = rw c.in-Open.is (rw c.opens_at.ensures at c.open_in.ensures)

pub returns-in-Frame : goal.returns-in-Frame
unfolding lay_of
returns-in-Frame c = rw c.in-Frame.is (rw c.frames_at.ensures at c.frame_in.ensures)
