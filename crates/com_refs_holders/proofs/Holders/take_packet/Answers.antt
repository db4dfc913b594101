use Rattle.std.proofs.Common.{◌≡◌, subst}
use Rattle.com_refs_books.specs.Changes.{Books, changed, Join}
use Rattle.com_refs_holders.specs.Tables.{books_of}
use Rattle.com_refs_holders.proofs.Moves.{more_from}
use Rattle.com_refs_holders.proofs.Holders.take_packet.Goals as goal

pub returns-clause-books : goal.returns-clause-books
returns-clause-books c = subst (λ (b : Books). books_of c.join_packet.new.self ≡ changed b (Join c.args.apartment c.args.number)) c.make_room.ensures.books c.join_packet.ensures.books

pub returns-clause-places : goal.returns-clause-places
returns-clause-places c = more_from _ _ _ _ _ _ c.make_room.ensures.objects c.make_room.ensures.proxies c.join_packet.ensures.places
