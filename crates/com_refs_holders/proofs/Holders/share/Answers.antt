use Rattle.std.proofs.Common.{◌≡◌, ◌∙◌, sym, Bool, true, subst}
use Rattle.com_refs_holders.specs.Places.{OneMore}
use Rattle.com_refs_holders.specs.Tables.{owns_of}
use Rattle.com_refs_holders.proofs.Holders.share.Goals as goal

pub returns-then-owns-clause-places : goal.returns-then-owns-clause-places
returns-then-owns-clause-places c =
    let own : owns_of c.args.self.now.objects c.args.held.object c.args.apartment ≡ true = sym c.owns.ensures ∙ c.if-owns.true in
    subst (λ (w : Bool). OneMore c.args.self.now c.keep_direct.new.self c.args.apartment c.args.held.object w) (sym own) (c.keep_direct.ensures.places c.args.apartment)
