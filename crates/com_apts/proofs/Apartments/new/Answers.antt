use Rattle.std.proofs.Common.{arith}
use Rattle.std.proofs.lemmas.Grind.{common_steps}
use Rattle.com_apts.proofs.LawLemmas.{balanced}
use Rattle.com_apts.proofs.Apartments.new.Goals as goal

pub returns-clause-balanced : goal.returns-clause-balanced
returns-clause-balanced c = balanced _ c.args.threads (grind (arith, common_steps))
