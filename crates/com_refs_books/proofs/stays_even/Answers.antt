use Rattle.com_refs_books.proofs.Evens.{stays-even}
use Rattle.com_refs_books.proofs.stays_even.Goals as goal

pub returns : goal.returns
returns c = stays-even
