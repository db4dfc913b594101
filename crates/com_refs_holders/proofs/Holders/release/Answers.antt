use Rattle.std.proofs.Common.{◌≡◌, ◌∙◌, sym, Bool, true, false, subst}
use Rattle.com_refs_holders.specs.Places.{OneLess}
use Rattle.com_refs_holders.specs.Tables.{owns_of}
use Rattle.com_refs_holders.proofs.Holders.release.Goals as goal

pub returns-then-owns-clause-places : goal.returns-then-owns-clause-places
returns-then-owns-clause-places c =
    let own : owns_of c.args.self.now.objects c.args.held.object c.args.apartment ≡ true = sym c.owns.ensures ∙ c.if-owns.true in
    subst (λ (w : Bool). OneLess c.args.self.now c.leave_direct.new.self c.args.apartment c.args.held.object w) (sym own) (c.leave_direct.ensures.places c.args.apartment)

pub returns-then-owns-clause-given : goal.returns-then-owns-clause-given
returns-then-owns-clause-given c = λ n places h tells. c.leave_direct.ensures.given n c.args.apartment places h (sym c.owns.ensures ∙ c.if-owns.true) tells

pub returns-clause-places : goal.returns-clause-places
returns-clause-places c =
    let own : owns_of c.args.self.now.objects c.args.held.object c.args.apartment ≡ false = sym c.owns.ensures ∙ c.if-owns.false in
    subst (λ (w : Bool). OneLess c.args.self.now c.leave_elsewhere.new.self c.args.apartment c.args.held.object w) (sym own) c.leave_elsewhere.ensures.places
