use Rattle.com_refs_books.specs.Changes.{Asks}
use Rattle.com_refs_rows.proofs.Gaining.{gained_one}
use Rattle.com_refs_rows.proofs.Touched.{asked-more}
use Rattle.com_refs_rows.proofs.rows.query.Goals as goal

pub returns-clause-gained : goal.returns-clause-gained
returns-clause-gained c =
    gained_one c.args.apartment (Asks c.args.apartment c.args.held.object c.args.held.iface) c.args.refs.now c.query.new.self c.args.held _ _ c.in-Ok.ensures.places c.in-Ok.ensures.row c.bring.ensures.items

pub returns-clause-more : goal.returns-clause-more
returns-clause-more c = λ x. asked-more c.args.refs.now c.query.new.self c.args.apartment c.args.held.object c.args.held.iface _ c.in-Ok.ensures.row c.in-Ok.ensures.places x
