use Rattle.com_laws_amounts.proofs.Bites.{stub-bites, proxy-bites, packet-bites, cookie-bites, row-bites, returns-bite, legal-two, entry-bites, lost-below, negative-bites, balance-bites}
use Rattle.com_laws_amounts.proofs.clauses_bite.Goals as goal

pub returns-clause-stub : goal.returns-clause-stub
returns-clause-stub c = stub-bites

pub returns-clause-proxy : goal.returns-clause-proxy
returns-clause-proxy c = proxy-bites

pub returns-clause-packet : goal.returns-clause-packet
returns-clause-packet c = packet-bites

pub returns-clause-cookie : goal.returns-clause-cookie
returns-clause-cookie c = cookie-bites

pub returns-clause-row : goal.returns-clause-row
returns-clause-row c = row-bites

pub returns-clause-returns : goal.returns-clause-returns
returns-clause-returns c = returns-bite

pub returns-clause-entry : goal.returns-clause-entry
returns-clause-entry c = (legal-two, entry-bites)

pub returns-clause-below : goal.returns-clause-below
returns-clause-below c = lost-below

pub returns-clause-negative : goal.returns-clause-negative
returns-clause-negative c = negative-bites

pub returns-clause-balance : goal.returns-clause-balance
returns-clause-balance c = balance-bites
