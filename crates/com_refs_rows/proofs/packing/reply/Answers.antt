use Rattle.std.proofs.Common.{◌≡◌, ◌<◌, length, ap, ◌∙◌, arith}
use Rattle.com_refs_books.specs.Changes.{marshal_all}
use Rattle.com_refs_holders.specs.Tables.{books_of}
use Rattle.com_refs_rows.specs.Books.{books_with}
use Rattle.com_refs_rows.proofs.Packed.{answered_books, answered_length, number_kept}
use Rattle.com_refs_rows.proofs.packing.reply.Goals as goal
use Rattle.com_refs_rows.proofs.packing.reply.Goals.{then-count-gt0, else-count-gt0}

pub returns-clause-books : goal.returns-clause-books
returns-clause-books c =
    let p = c.if-count-gt0.set_result in
    let some : 0 < c.pack-first.result.1 → p ≡ c.pack-first.result.0 = elim c.if-count-gt0.branch [ then-count-gt0 w ↦ λ h. w.set_result-is | else-count-gt0 w ↦ λ h. absurd (omega arith) ] in
    let none : c.pack-first.result.1 ≡ 0 → p ≡ 0 = elim c.if-count-gt0.branch [ then-count-gt0 w ↦ λ h. absurd (omega arith) | else-count-gt0 w ↦ λ h. w.set_result-is ] in
    ap (λ calls. books_with c.pack-first.new.refs calls) c.set_result.ensures
    ∙ answered_books c.args.refs.now c.pack-first.new.refs c.args.calls.now p (marshal_all c.args.apartment c.args.carried.now) c.args.call c.pack-first.ensures.rows c.requires.some c.requires.issued
    (number_kept (books_of c.args.refs.now) (books_of c.pack-first.new.refs) c.pack-first.result.0 c.pack-first.result.1 p c.pack-first.ensures.first c.pack-first.ensures.count some none)

pub returns-clause-calls : goal.returns-clause-calls
returns-clause-calls c = ap (λ calls. length calls) c.set_result.ensures ∙ answered_length c.args.calls.now c.args.call c.if-count-gt0.set_result
