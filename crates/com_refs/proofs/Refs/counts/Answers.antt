use Rattle.std.proofs.Common.{◌∙◌, sym}
use Rattle.com_refs.proofs.Reported.{dead_proxies, dead_stub, dead_normal, dead_tables}
use Rattle.com_refs.proofs.Refs.counts.Goals as goal

pub returns-then-not-is_connected-clause-proxies : goal.returns-then-not-is_connected-clause-proxies
returns-then-not-is_connected-clause-proxies c = rw (← c.self.view_is) (λ n m w. sym (dead_proxies c.self.inside.holders c.args.object (sym c.is_connected.ensures ∙ c.if-not-is_connected.true) n m))

pub returns-then-not-is_connected-clause-packets : goal.returns-then-not-is_connected-clause-packets
returns-then-not-is_connected-clause-packets c = rw (← c.self.view_is) (sym (dead_normal c.self.inside.holders c.args.object (sym c.is_connected.ensures ∙ c.if-not-is_connected.true)))

pub returns-then-not-is_connected-clause-tables : goal.returns-then-not-is_connected-clause-tables
returns-then-not-is_connected-clause-tables c = rw (← c.self.view_is) (λ n m w. sym (dead_tables c.self.inside.holders c.args.object (sym c.is_connected.ensures ∙ c.if-not-is_connected.true)))

pub returns-then-not-is_connected-clause-stub : goal.returns-then-not-is_connected-clause-stub
returns-then-not-is_connected-clause-stub c = rw (← c.self.view_is) (λ n m w. sym (dead_stub c.self.inside.holders c.args.object (sym c.is_connected.ensures ∙ c.if-not-is_connected.true) m))
