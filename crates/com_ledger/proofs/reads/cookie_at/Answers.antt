use Rattle.std.proofs.Common.{subst, ◌<◌, ℕ, ℤ, w64, ap, ◌∙◌}
use Rattle.std.proofs.lemmas.Int.{to_z-of_z}
use Rattle.com_refs_books.specs.Changes.{cookie}
use Rattle.com_refs_holders.specs.Tables.{books_of}
use Rattle.com_model.specs.Deeds.{cookie_number}
use Rattle.com_ledger.proofs.Reading.{cookie_found}
use Rattle.com_ledger.proofs.reads.cookie_at.Goals as goal

pub returns : goal.returns
returns c =
    let few = subst (λ (n : ℕ). n < 4294967296) c.cookies-count.ensures.books c.cookies-count.type_inv in
    let same = to_z-of_z w64 c.args.number c.ranges.number in
    c.cookie_row.ensures
    ∙ cookie_found (books_of c.args.refs.now) 4294967296 _ c.cookie_number-place.result few c.cookie_number-place.ensures.within c.cookie_number-place.ensures.past
    ∙ ap (λ (z : ℤ). cookie (books_of c.args.refs.now) (cookie_number z)) same
