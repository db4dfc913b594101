use Rattle.std.proofs.Common.{sym}
use Rattle.com_stub.proofs.StubLemmas.{connected_none, connected_at}
use Rattle.com_stub.proofs.is_live.Goals as goal

pub returns-in-None : goal.returns-in-None
returns-in-None c =
    sym (connected_none c.args.stubs.now c.args.chains.now.keys c.args.object c.requires.keyed c.requires.first c.last.result c.last.ensures c.in-None.is)

pub returns-in-Some : goal.returns-in-Some
returns-in-Some c =
    sym (connected_at c.args.stubs.now c.args.chains.now.keys c.args.object c.requires.keyed c.requires.first c.last.result c.in-Some.index c.last.ensures c.in-Some.is)
