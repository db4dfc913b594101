use Rattle.std.proofs.Common.{◌≡◌, subst}
use Rattle.com_refs_books.specs.Changes.{Books, changed, ToCookie}
use Rattle.com_refs_holders.specs.Tables.{books_of}
use Rattle.com_refs_holders.proofs.Moves.{same_from}
use Rattle.com_refs_holders.proofs.Holders.give_cookie.Goals as goal

pub returns-clause-books : goal.returns-clause-books
returns-clause-books c = subst (λ (b : Books). books_of c.issue_cookie.new.self ≡ changed b (ToCookie c.args.held.object c.args.held.iface 1)) c.make_room.ensures.books c.issue_cookie.ensures.books

pub returns-clause-places : goal.returns-clause-places
returns-clause-places c = same_from _ _ _ c.make_room.ensures.objects c.make_room.ensures.proxies c.issue_cookie.ensures.places
