use Rattle.std.proofs.Common.{ℕ, sym, subst}
use Rattle.std.specs.Prelude.{Option}
use Rattle.com_model.specs.declared.deeds.Deed.TheVariants as deed
use Rattle.com_refs_rows.specs.Books.{books_with}
use Rattle.com_refs_rows.specs.Entries.{Closed, entered, tally}
use Rattle.com_ledger.proofs.Closing.{closed_drop}
use Rattle.com_ledger.proofs.ends.end_packet.Goals as goal

pub returns-clause-row : goal.returns-clause-row
returns-clause-row c = λ objects hr s x g owned calls same.
    let t = c.args.refs.now in
    let u = c.drop_packet.new.refs in
    subst (λ (p : Option ℕ). Closed (entered s x g owned (deed.DropPacket p hr) (books_with t calls)) (tally t calls) (tally u calls)) (sym c.in-Some.is)
    (closed_drop s x g owned calls t u c.tells.ensures.tells c.tells.ensures.totals c.in-Some.packet hr c.drop_packet.ensures.row)
