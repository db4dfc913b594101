use Rattle.std.proofs.Common.{◌∙◌, sym}
use Rattle.com_refs_holders.proofs.Giving.{only_less, gone, same_public}
use Rattle.com_refs_holders.proofs.balance.let_go.Goals as goal

pub returns-then-not-free-clause-released : goal.returns-then-not-free-clause-released
returns-then-not-free-clause-released c = rw c.release-free.ensures.rows (only_less c.args.apartment c.args.held.object c.args.proxies.now.rows c.args.stubs.now.counters c.args.held.iface c.requires.held)

pub returns-then-not-is_connected-clause-released : goal.returns-then-not-is_connected-clause-released
returns-then-not-is_connected-clause-released c = rw c.release-free.ensures.rows (only_less c.args.apartment c.args.held.object c.args.proxies.now.rows c.args.stubs.now.counters c.args.held.iface c.requires.held)

pub give_back-requires-clause-within : goal.give_back-requires-clause-within
give_back-requires-clause-within c = λ j. rw (c.release-free.ensures.rows, same_public c.args.proxies.now.rows c.args.apartment c.args.held.object c.args.held.iface c.args.apartment c.args.held.object j) (c.requires.within (sym c.is_connected.ensures ∙ c.if-not-is_connected.false) j)

pub returns-clause-released : goal.returns-clause-released
returns-clause-released c =
    let gave = rw c.release-free.ensures.rows at c.give_back.ensures.gave in
    gone c.args.apartment c.args.held.object c.args.proxies.now.rows c.args.stubs.now.counters _ c.args.held.iface _ _ c.requires.held gave
