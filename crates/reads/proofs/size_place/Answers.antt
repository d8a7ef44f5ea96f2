-- `reads::size_place` meets its contract: each size by its row. Assumes nothing.
use native.Mathlib.Omega.{arith}
use Rattle.reads.proofs.size_place.Goals as goal

pub returns-in-Strings : goal.returns-in-Strings
returns-in-Strings c = (rw c.in-Strings.is, omega arith)

pub returns-in-Tables : goal.returns-in-Tables
returns-in-Tables c = (rw c.in-Tables.is, omega arith)

pub returns-in-Functions : goal.returns-in-Functions
returns-in-Functions c = (rw c.in-Functions.is, omega arith)

pub returns-in-Upvalues : goal.returns-in-Upvalues
returns-in-Upvalues c = (rw c.in-Upvalues.is, omega arith)

pub returns-in-Userdata : goal.returns-in-Userdata
returns-in-Userdata c = (rw c.in-Userdata.is, omega arith)

pub returns-in-Threads : goal.returns-in-Threads
returns-in-Threads c = (rw c.in-Threads.is, omega arith)

pub returns-in-Prototypes : goal.returns-in-Prototypes
returns-in-Prototypes c = (rw c.in-Prototypes.is, omega arith)

pub returns-in-Stack : goal.returns-in-Stack
returns-in-Stack c = (rw c.in-Stack.is, omega arith)

pub returns-in-Opens : goal.returns-in-Opens
returns-in-Opens c = (rw c.in-Opens.is, omega arith)

pub returns-in-Frames : goal.returns-in-Frames
returns-in-Frames c = (rw c.in-Frames.is, omega arith)
