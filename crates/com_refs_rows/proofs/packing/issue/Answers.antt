use Rattle.std.proofs.Common.{◌+◌, length, refl, ap, ◌∙◌}
use Rattle.com_refs_books.specs.Counting.{numbers_from}
use Rattle.com_refs_books.specs.Changes.{marshal_all}
use Rattle.com_refs_holders.specs.Tables.{books_of}
use Rattle.com_refs_rows.specs.Books.{books_with}
use Rattle.com_refs_rows.proofs.Packed.{issued_books, pushed_length}
use Rattle.com_refs_rows.proofs.packing.issue.Goals as goal

pub returns-clause-books : goal.returns-clause-books
returns-clause-books c = λ call number.
    let first = c.pack-first.result.0 in
    let count = c.pack-first.result.1 in
    ap (λ calls. books_with c.pack-first.new.refs calls) (c.set_last.ensures c.args.calls.now c.in_ok-push.ensures.ok)
    ∙ issued_books c.args.refs.now c.pack-first.new.refs c.args.calls.now (record { first = first; count = count; result = 0 }) (marshal_all c.args.apartment c.args.carried.now) call c.pack-first.ensures.rows number refl
    (ap (λ n. numbers_from n count) c.pack-first.ensures.first ∙ ap (λ n. numbers_from (length (books_of c.args.refs.now).packets + 1) n) c.pack-first.ensures.count)

pub returns-clause-calls : goal.returns-clause-calls
returns-clause-calls c =
    ap (λ calls. length calls) (c.set_last.ensures c.args.calls.now c.in_ok-push.ensures.ok) ∙ pushed_length c.args.calls.now (record { first = c.pack-first.result.0; count = c.pack-first.result.1; result = 0 })
