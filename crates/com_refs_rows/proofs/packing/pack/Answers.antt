use Rattle.std.proofs.Common.{◌-◌, ◌≤◌, length, arith}
use Rattle.com_refs_holders.specs.Tables.{books_of}
use Rattle.com_refs_rows.proofs.Few.{few_packets}
use Rattle.com_refs_rows.proofs.packing.pack.Goals as goal

pub returns-clause-few : goal.returns-clause-few
returns-clause-few c =
    let few : length (books_of c.marshal_all.new.refs).packets - length (books_of c.args.refs.now).packets ≤ length c.args.carried.now = few_packets c.args.apartment c.args.carried.now c.args.refs.now c.marshal_all.new.refs c.marshal_all.ensures.rows in
    omega (arith, few, c.saturating_sub.ensures, c.packets-after.ensures.books, c.packets-before.ensures.books)
