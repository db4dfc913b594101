use Rattle.com_stub.proofs.StubLemmas.{ended_none, ended_found}
use Rattle.com_stub.proofs.end.Goals as goal

pub returns-in-Some : goal.returns-in-Some
returns-in-Some c =
    ended_found c.args.stubs.now c.args.chains.now.keys c.args.object c.requires.keyed c.requires.first c.last.result c.in-Some.index c.last.ensures c.in-Some.is

pub returns-in_default : goal.returns-in_default
returns-in_default c =
    ended_none c.args.stubs.now c.args.chains.now.keys c.args.object c.requires.keyed c.requires.first c.last.result c.last.ensures c.in_default.is
