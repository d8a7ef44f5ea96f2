-- `script_line::command_of` meets its contract: by the cases of its tests. Assumes nothing.
use Rattle.script_line.specs.Lines.{command_of}
use Rattle.script_line.proofs.command_of.Goals as goal

pub returns-in-Str : goal.returns-in-Str
unfolding command_of
returns-in-Str c = rw c.in-Str.is

pub returns-in-Tab : goal.returns-in-Tab
unfolding command_of
returns-in-Tab c = rw c.in-Tab.is c.exactly.ensures

pub returns-in-Ud : goal.returns-in-Ud
unfolding command_of
returns-in-Ud c = rw c.in-Ud.is c.exactly-in-Ud.ensures

pub returns-in-Push : goal.returns-in-Push
unfolding command_of
returns-in-Push c = rw c.in-Push.is c.exactly-in-Push.ensures

pub returns-in-Pop : goal.returns-in-Pop
unfolding command_of
returns-in-Pop c = rw c.in-Pop.is c.exactly-in-Pop.ensures

pub returns-in-Seti : goal.returns-in-Seti
unfolding command_of
returns-in-Seti c = rw c.in-Seti.is c.exactly-in-Seti.ensures

pub returns-in-Setn : goal.returns-in-Setn
unfolding command_of
returns-in-Setn c = rw c.in-Setn.is c.exactly-in-Setn.ensures

pub returns-in-Meta : goal.returns-in-Meta
unfolding command_of
returns-in-Meta c = rw c.in-Meta.is c.exactly-in-Meta.ensures

pub returns-in-Collect : goal.returns-in-Collect
unfolding command_of
returns-in-Collect c = rw c.in-Collect.is c.exactly-in-Collect.ensures

pub returns-in-Unknown : goal.returns-in-Unknown
unfolding command_of
returns-in-Unknown c = rw c.in-Unknown.is
