-- `script_run::obey` meets its contract: by cases of the command. Assumes nothing.
use native.Mathlib.Omega.{arith}
use mathlib.Core.Path.{refl}
use borrow.Author.Rules.{part_to_end}
use Rattle.script_run.specs.Runs.{obey}
use Rattle.script_run.specs.Laws.{plain_obeys, collect_obeys}
use Rattle.script_run.proofs.obey.Goals as goal

pub slice_bounds-str_command-count : goal.slice_bounds-str_command-count
slice_bounds-str_command-count c = omega (arith, rw c.in-Str.is at c.requires)

pub slice_bounds-str_command-start : goal.slice_bounds-str_command-start
slice_bounds-str_command-start c = rw c.in-Str.is at c.requires

pub returns-in-Str : goal.returns-in-Str
unfolding obey
returns-in-Str c = rw (c.plain.ensures.0, c.plain.ensures.1, c.in-Str.is) (plain_obeys _ _ _ _ _ refl (rw part_to_end at c.str_command.ensures))

pub returns-in-Tab : goal.returns-in-Tab
unfolding obey
returns-in-Tab c = rw (c.plain-in-Tab.ensures.0, c.plain-in-Tab.ensures.1, c.in-Tab.is) (plain_obeys _ _ _ _ _ refl c.tab_command.ensures)

pub returns-in-Ud : goal.returns-in-Ud
unfolding obey
returns-in-Ud c = rw (c.plain-in-Ud.ensures.0, c.plain-in-Ud.ensures.1, c.in-Ud.is) (plain_obeys _ _ _ _ _ refl c.ud_command.ensures)

pub returns-in-Push : goal.returns-in-Push
unfolding obey
returns-in-Push c = rw (c.plain-in-Push.ensures.0, c.plain-in-Push.ensures.1, c.in-Push.is) (plain_obeys _ _ _ _ _ refl c.push_command.ensures)

pub returns-in-Pop : goal.returns-in-Pop
unfolding obey
returns-in-Pop c = rw (c.plain-in-Pop.ensures.0, c.plain-in-Pop.ensures.1, c.in-Pop.is) (plain_obeys _ _ _ _ _ refl c.pop_command.ensures)

pub returns-in-Seti : goal.returns-in-Seti
unfolding obey
returns-in-Seti c = rw (c.plain-in-Seti.ensures.0, c.plain-in-Seti.ensures.1, c.in-Seti.is) (plain_obeys _ _ _ _ _ refl c.seti_command.ensures)

pub returns-in-Setn : goal.returns-in-Setn
unfolding obey
returns-in-Setn c = rw (c.plain-in-Setn.ensures.0, c.plain-in-Setn.ensures.1, c.in-Setn.is) (plain_obeys _ _ _ _ _ refl c.setn_command.ensures)

pub returns-in-Meta : goal.returns-in-Meta
unfolding obey
returns-in-Meta c = rw (c.plain-in-Meta.ensures.0, c.plain-in-Meta.ensures.1, c.in-Meta.is) (plain_obeys _ _ _ _ _ refl c.meta_command.ensures)

pub returns-in-Collect : goal.returns-in-Collect
returns-in-Collect c = rw c.in-Collect.is (collect_obeys _ _ _ _ c.collect_command.ensures)

pub returns-in-Bad : goal.returns-in-Bad
unfolding obey
returns-in-Bad c = rw (c.plain-in-Bad.ensures.0, c.plain-in-Bad.ensures.1, c.in-Bad.is) (plain_obeys _ _ _ _ _ refl refl)
