use Rattle.std.proofs.Common.{◌≡◌, subst}
use Rattle.com_refs_books.specs.Changes.{Books, changed, ToProxy}
use Rattle.com_refs_holders.specs.Tables.{books_of}
use Rattle.com_refs_holders.proofs.Moves.{more_from}
use Rattle.com_refs_holders.proofs.Holders.take_new.Goals as goal

pub returns-clause-books : goal.returns-clause-books
returns-clause-books c = subst (λ (b : Books). books_of c.issue_elsewhere.new.self ≡ changed b (ToProxy c.args.apartment c.args.held.object c.args.held.iface 5)) c.make_room.ensures.books c.issue_elsewhere.ensures.books

pub returns-clause-places : goal.returns-clause-places
returns-clause-places c = more_from _ _ _ _ _ _ c.make_room.ensures.objects c.make_room.ensures.proxies c.issue_elsewhere.ensures.places
