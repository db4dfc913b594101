use Rattle.std.proofs.Common.{subst}
use Rattle.com_refs_holders.specs.Tables.{Tables}
use Rattle.com_refs.specs.Makes.{IsMade}
use Rattle.com_refs.proofs.Makings.{made_spare}
use Rattle.com_refs.proofs.Refs.make_object.Goals as goal

pub returns-clause-made : goal.returns-clause-made
returns-clause-made c =
    let u = c.hold_made.new.self in
    made_spare c.args.self.now u c.reserve.new.self.spare c.args.making c.args.set.now
    (subst (λ (t : Tables). IsMade t u c.args.making c.args.set.now) c.reserve.ensures.same c.hold_made.ensures.made)
