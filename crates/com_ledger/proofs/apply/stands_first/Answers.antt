use Rattle.std.proofs.Common.{arith}
use Rattle.std.proofs.lemmas.Grind.{common_steps}
use Rattle.com_refs_rows.specs.Moving.{no_move}
use Rattle.com_ledger.proofs.Exchanging.{first_same}
use Rattle.com_ledger.proofs.apply.stands_first.Goals as goal

pub returns-then-ne-clause-exact : goal.returns-then-ne-clause-exact
returns-then-ne-clause-exact c = λ _ first.
    let same = first_same c.args.brought.now c.args.gained.now c.loop-place.place no_move (omega arith) first in
    grind (arith, common_steps, same, c.ne.ensures, c.if-ne.true)
