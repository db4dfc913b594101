use Rattle.std.proofs.Common.{arith, refl}
use Rattle.com_formed.proofs.Walks.{each_below}
use Rattle.com_formed.proofs.scenarios.are_picks.Goals as goal

pub returns : goal.returns
returns c = (λ t. each_below c.args.picks.now 4294967296 (λ i. omega (arith, c.type_inv.picks i)), λ all. refl)
