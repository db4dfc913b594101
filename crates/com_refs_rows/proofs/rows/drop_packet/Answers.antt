use Rattle.std.proofs.Common.{◌∙◌}
use Rattle.com_refs_books.specs.Changes.{Drops}
use Rattle.com_refs_rows.proofs.Losing.{taken_nothing, hidden_drop}
use Rattle.com_refs_rows.proofs.Unholding.{drop-touched, touches-same}
use Rattle.com_refs_rows.proofs.rows.drop_packet.Goals as goal

pub returns-in-Ok-clause-row : goal.returns-in-Ok-clause-row
returns-in-Ok-clause-row c = record { books = c.in-Ok.ensures.books; places = c.in-Ok.ensures.places }

pub returns-in-Err-clause-row : goal.returns-in-Err-clause-row
returns-in-Err-clause-row c =
    taken_nothing (Drops c.args.number) c.args.refs.now c.drop_packet.new.self c.in-Err.ensures.err c.rests.ensures
    (hidden_drop c.args.refs.now c.args.number (c.drop_packet.ensures.unknown.0 (c.in-Err.is ∙ c.in-Err.ensures.only)))

pub returns-in-Ok-clause-touched : goal.returns-in-Ok-clause-touched
returns-in-Ok-clause-touched c =
    drop-touched c.args.refs.now c.drop_packet.new.self c.args.number c.in-Ok.lost c.args.touched.now.items c.touch_if.new.touched.items
    c.tells.ensures.tells c.tells.ensures.totals c.rests.ensures c.tells-in-Ok.ensures.tells c.tells-in-Ok.ensures.totals c.in-Ok.ensures.places c.in-Ok.ensures.lost c.in-Ok.ensures.books c.touch_if.ensures.members

pub returns-in-Err-clause-touched : goal.returns-in-Err-clause-touched
returns-in-Err-clause-touched c = λ n places counts. touches-same c.args.refs.now c.drop_packet.new.self c.args.touched.now.items c.in-Err.ensures.err
