use Rattle.std.proofs.Common.{◌≡◌, ◌∙◌, sym, true, Bool, subst}
use Rattle.com_refs_holders.specs.Places.{OneMore}
use Rattle.com_refs_holders.specs.Tables.{owns_of}
use Rattle.com_refs_holders.proofs.Holders.query.Goals as goal

pub returns-then-is_owned-2-clause-places : goal.returns-then-is_owned-2-clause-places
returns-then-is_owned-2-clause-places c =
    let own : owns_of c.args.self.now.objects c.args.object c.args.apartment ≡ true = sym c.owns-is_owned.ensures ∙ c.if-is_owned-2.true in
    subst (λ (w : Bool). OneMore c.args.self.now c.keep_direct.new.self c.args.apartment c.args.object w) (sym own) (c.keep_direct.ensures.places c.args.apartment)
