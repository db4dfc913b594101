use Rattle.com_refs_holders.proofs.Rowed.{free_places}
use Rattle.com_refs_holders.proofs.Holders.stands.Goals as goal

pub returns-clause-known : goal.returns-clause-known
returns-clause-known c = rw (← c.self.view_is) c.self.invariant.stands.known

pub returns-clause-bounded : goal.returns-clause-bounded
returns-clause-bounded c = rw (← c.self.view_is) c.self.invariant.stands.bounded

pub returns-clause-owned : goal.returns-clause-owned
returns-clause-owned c = rw (← c.self.view_is) (λ a o h. free_places _ a o c.self.invariant.stands.apart (record { none_held = λ i. c.self.invariant.stands.owned a o i h }))

pub returns-clause-apart : goal.returns-clause-apart
returns-clause-apart c = rw (← c.self.view_is) c.self.invariant.stands.apart

pub returns-clause-even : goal.returns-clause-even
returns-clause-even c = rw (← c.self.view_is) c.self.invariant.stands.even

pub returns-clause-placed : goal.returns-clause-placed
returns-clause-placed c = rw (← c.self.view_is) c.self.invariant.stands.placed
