use Rattle.std.proofs.Common.{◌∙◌, ◌+◌}
use Rattle.com_refs_holders.proofs.Cuts.{ended_has}
use Rattle.com_refs_holders.proofs.Owners.{owners_go_on, others_stay, owners_end}
use Rattle.com_refs_holders.proofs.lives.end_all.Goals as goal

pub loop-at-preserved : goal.loop-at-preserved
loop-at-preserved c =
    let i = c.loop-at.invariant in
    rw c.disconnect.ensures.stubs (record {
      walks = owners_go_on c.args.owners.now.keys c.args.apartment c.loop-at.stubs.stubs c.loop-at.at c.earlier-at.result c.in-Some.place i.walks c.in-Some.is c.earlier-at.ensures;
      others = λ x h. others_stay c.args.owners.now.keys c.args.apartment c.loop-at.stubs.stubs c.loop-at.at c.in-Some.place x i.walks c.in-Some.is h ∙ i.others x h;
      room = c.disconnect.ensures.spare ∙ i.room;
      known = λ x. ended_has c.loop-at.stubs.stubs (c.in-Some.place + 1) x ∙ i.known x;
      counters = c.disconnect.ensures.counters ∙ i.counters;
    })

pub returns-clause-stubs : goal.returns-clause-stubs
returns-clause-stubs c =
    let i = c.loop-at.invariant in
    owners_end c.args.owners.now.keys c.args.apartment c.args.stubs.now.stubs c.loop-at.stubs.stubs c.loop-at.at i.walks c.in_default.is i.others

pub returns-clause-stub_room : goal.returns-clause-stub_room
returns-clause-stub_room c = c.loop-at.invariant.room

pub returns-clause-known : goal.returns-clause-known
returns-clause-known c = c.loop-at.invariant.known
