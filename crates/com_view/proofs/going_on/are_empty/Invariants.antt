use Rattle.std.proofs.Common.{◌≡◌, true}
use Rattle.com_refs_books.specs.Counting.{numbers_from}
use Rattle.com_model.specs.Lists.{each_of}
use Rattle.com_view.specs.Standings.{is_unasked}
use Rattle.com_view.proofs.going_on.are_empty.Given as goal

abbrev pub invariant-loop-apartment : goal.invariant-loop-apartment
invariant-loop-apartment l = each_of (is_unasked l.view.calls) (numbers_from 0 l.apartment) ≡ true
