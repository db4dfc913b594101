use Rattle.std.proofs.Common.{◌≡◌, ◌∙◌, sym, true, false}
use Rattle.std.proofs.Common.{Bool, subst}
use Rattle.com_refs_holders.specs.Places.{OneMore}
use Rattle.com_stub.specs.StubRows.{is_connected}
use Rattle.com_refs_holders.specs.Tables.{owns_of, books_of}
use Rattle.com_refs_holders.proofs.Choices.{takes_new, books_live}
use Rattle.com_refs_holders.proofs.Holders.get.Goals as goal

pub keep_direct-requires-clause-made : goal.keep_direct-requires-clause-made
keep_direct-requires-clause-made c =
    let some = sym c.cookie.ensures ∙ c.in-Some.is in
    c.stands.ensures.known.counters c.in-Some.held.object c.in-Some.held.iface (c.stands.ensures.known.cookies c.args.cookie c.in-Some.held some)

pub returns-in-Ok-clause-row : goal.returns-in-Ok-clause-row
returns-in-Ok-clause-row c =
    let live : is_connected c.args.self.now.stubs c.in-Some.held.object ≡ true = sym c.is_connected.ensures ∙ c.if-not-is_connected.false in
    let own : owns_of c.args.self.now.objects c.in-Some.held.object c.args.apartment ≡ false = sym c.owns.ensures ∙ c.if-owns.false in
    c.in-Ok.ensures.books ∙ sym (takes_new (owns_of c.args.self.now.objects) (books_of c.args.self.now) c.args.apartment c.in-Some.held.object c.in-Some.held.iface (books_live c.args.self.now c.in-Some.held.object live) own)

pub returns-then-owns-clause-places : goal.returns-then-owns-clause-places
returns-then-owns-clause-places c =
    let own : owns_of c.args.self.now.objects c.in-Some.held.object c.args.apartment ≡ true = sym c.owns.ensures ∙ c.if-owns.true in
    subst (λ (w : Bool). OneMore c.args.self.now c.keep_direct.new.self c.args.apartment c.in-Some.held.object w) (sym own) (c.keep_direct.ensures.places c.args.apartment)
