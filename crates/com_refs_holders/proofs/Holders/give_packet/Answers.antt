use Rattle.std.proofs.Common.{◌≡◌, subst}
use Rattle.std.proofs.Common.{List}
use Rattle.com_refs_holders.specs.declared.ObjectRow.{ObjectRow}
use Rattle.com_refs_books.specs.Changes.{Books, changed, change, Marshals}
use Rattle.com_refs_holders.specs.Tables.{books_of, owns_of}
use Rattle.com_refs_holders.proofs.Moves.{same_from}
use Rattle.com_refs_holders.proofs.Holders.give_packet.Goals as goal

pub returns-clause-row : goal.returns-clause-row
returns-clause-row c =
    let one = subst (λ (os : List ObjectRow). books_of c.issue_packet.new.self ≡ changed (books_of c.make_room.new.self) (change (owns_of os) (books_of c.make_room.new.self) (Marshals c.args.apartment c.args.mode c.args.held.object c.args.held.iface))) c.make_room.ensures.objects c.issue_packet.ensures.row in
    subst (λ (b : Books). books_of c.issue_packet.new.self ≡ changed b (change (owns_of c.args.self.now.objects) b (Marshals c.args.apartment c.args.mode c.args.held.object c.args.held.iface))) c.make_room.ensures.books one

pub returns-clause-places : goal.returns-clause-places
returns-clause-places c = same_from _ _ _ c.make_room.ensures.objects c.make_room.ensures.proxies c.issue_packet.ensures.places
