use Rattle.std.proofs.Common.{arith, length, take, drop, ◌++◌, ◌≡◌}
use Rattle.std.proofs.lemmas.Grind.{common_steps}
use Rattle.com_stub.specs.StubRows.{ended_rows}
use Rattle.com_stub.proofs.StubLemmas.{table_ended, ended_not_connected}
use Rattle.com_stub.proofs.Stubs.disconnect.Goals as goal

pub invariant_of-self : goal.invariant_of-self
invariant_of-self c =
    let stubs = c.self.inside.stubs in
    let is : take stubs.len (c.end.new.stubs ++ drop (length c.end.new.stubs) stubs.items) ≡ ended_rows c.args.object stubs.items = grind (arith, common_steps) in
    rw is (table_ended stubs.items c.self.inside.chains c.args.object c.self.invariant)

pub returns-clause-ended : goal.returns-clause-ended
returns-clause-ended c =
    let stubs = c.self.inside.stubs in
    let is : take stubs.len (c.end.new.stubs ++ drop (length c.end.new.stubs) stubs.items) ≡ ended_rows c.args.object stubs.items = grind (arith, common_steps) in
    rw is (ended_not_connected stubs.items c.args.object)
