use Rattle.std.proofs.Common.{◌≡◌, ◌+◌, ◌-◌, not}
use Rattle.com_refs_books.specs.Changes.{packet}
use Rattle.com_refs_books.specs.Counting.{numbers_from}
use Rattle.com_refs_holders.specs.Tables.{books_of}
use Rattle.com_model.specs.Lists.{first_that}
use Rattle.com_ledger.proofs.reads.left_one.Given as goal

abbrev pub invariant-loop-place : goal.invariant-loop-place
invariant-loop-place l =
    first_that (λ p. not (not (packet (books_of l.refs) p).outstanding)) (numbers_from l.packets.first l.packets.count)
    ≡ first_that (λ p. not (not (packet (books_of l.refs) p).outstanding)) (numbers_from (l.packets.first + l.place) (l.packets.count - l.place))
