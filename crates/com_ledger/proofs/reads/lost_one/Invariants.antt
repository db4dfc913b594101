use Rattle.std.proofs.Common.{◌≡◌, ◌+◌, ◌-◌, not}
use Rattle.com_refs_books.specs.Changes.{packet}
use Rattle.com_refs_books.specs.Counting.{numbers_from}
use Rattle.com_refs_holders.specs.Tables.{books_of}
use Rattle.com_model.specs.Lists.{any_of}
use Rattle.com_ledger.proofs.reads.lost_one.Given as goal

abbrev pub invariant-loop-place : goal.invariant-loop-place
invariant-loop-place l =
    any_of (λ p. not (packet (books_of l.refs) p).outstanding) (numbers_from l.packets.first l.packets.count)
    ≡ any_of (λ p. not (packet (books_of l.refs) p).outstanding) (numbers_from (l.packets.first + l.place) (l.packets.count - l.place))
