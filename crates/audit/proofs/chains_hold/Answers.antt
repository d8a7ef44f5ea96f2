-- `audit::chains_hold` meets its contract: the callees' equations joined. Assumes nothing.
use Rattle.laid.specs.Laid.{functions_room, strings_room, tables_room, threads_room, upvalues_room, userdata_room, laid_of}
use Rattle.audit.specs.Audit.{chains_hold}
use Rattle.audit.proofs.chains_hold.Goals as goal

pub chain_holds-requires : goal.chain_holds-requires
chain_holds-requires c = rw c.strings_of.ensures (strings_room _ _ (laid_of _ c.args.l.fits) c.requires.l_in_bounds)

pub chain_holds-requires-2 : goal.chain_holds-requires-2
chain_holds-requires-2 c = rw c.tables_of.ensures (tables_room _ _ (laid_of _ c.args.l.fits) c.requires.l_in_bounds)

pub chain_holds-requires-3 : goal.chain_holds-requires-3
chain_holds-requires-3 c = rw c.functions_of.ensures (functions_room _ _ (laid_of _ c.args.l.fits) c.requires.l_in_bounds)

pub chain_holds-requires-4 : goal.chain_holds-requires-4
chain_holds-requires-4 c = rw c.upvalues_of.ensures (upvalues_room _ _ (laid_of _ c.args.l.fits) c.requires.l_in_bounds)

pub chain_holds-requires-5 : goal.chain_holds-requires-5
chain_holds-requires-5 c = rw c.userdata_of.ensures (userdata_room _ _ (laid_of _ c.args.l.fits) c.requires.l_in_bounds)

pub chain_holds-requires-6 : goal.chain_holds-requires-6
chain_holds-requires-6 c = rw c.threads_of.ensures (threads_room _ _ (laid_of _ c.args.l.fits) c.requires.l_in_bounds)

pub returns : goal.returns
unfolding chains_hold
returns c = rw (← (rw c.strings_of.ensures at c.chain_holds.ensures), ← (rw c.tables_of.ensures at c.chain_holds-2.ensures), ← (rw c.functions_of.ensures at c.chain_holds-3.ensures), ← (rw c.upvalues_of.ensures at c.chain_holds-4.ensures), ← (rw c.userdata_of.ensures at c.chain_holds-5.ensures), ← (rw c.threads_of.ensures at c.chain_holds-6.ensures))
