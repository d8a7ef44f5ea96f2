-- `chains::chain_holds` meets its contract: what is left of the walk answers what the whole does. Assumes nothing.
use mathlib.Core.Path.{◌∙◌, sym}
use native.Mathlib.Omega.{arith}
use Rattle.chains.specs.Chains.{chain_holds, names_free_lem}
use Rattle.chains.proofs.Laws.{leads_again, leads_end, leads_start, leads_stop}
use Rattle.chains.proofs.chain_holds.Goals as goal

pub loop-k-init : goal.loop-k-init
loop-k-init c = leads_start _ _ _ _ _ _ c.free_count-n.ensures c.head_of-x.ensures

pub returns-then-not-names_free : goal.returns-then-not-names_free
unfolding chain_holds
returns-then-not-names_free c = leads_stop _ _ _ _ _ c.loop-k.invariant c.loop-k-test.true (sym c.names_free.ensures ∙ c.if-not-names_free.true)

pub overflow_sub-wide : goal.overflow_sub-wide
overflow_sub-wide c = omega (arith, c.wide.ensures.0, (names_free_lem _ _ _ (sym c.names_free.ensures ∙ c.if-not-names_free.false)).0)

pub link_of-x-requires : goal.link_of-x-requires
link_of-x-requires c = record { room = c.requires; i_lt_slots = omega (arith, c.wide.ensures.0, names_free_lem _ _ _ (sym c.names_free.ensures ∙ c.if-not-names_free.false)) }

pub loop-k-preserved : goal.loop-k-preserved
loop-k-preserved c = rw (c.link_of-x.ensures, c.wide.ensures.0) (leads_again _ _ _ _ _ c.loop-k.invariant c.loop-k-test.true (sym c.names_free.ensures ∙ c.if-not-names_free.false))

pub returns : goal.returns
unfolding chain_holds
returns c = leads_end _ _ _ _ _ c.loop-k.invariant c.loop-k-test.false
