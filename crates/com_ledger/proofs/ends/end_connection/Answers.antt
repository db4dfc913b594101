use Rattle.std.proofs.Common.{ℕ, sym, subst}
use Rattle.std.specs.Prelude.{Option}
use Rattle.com_model.specs.declared.deeds.Deed.TheVariants as deed
use Rattle.com_refs_rows.specs.Books.{books_with}
use Rattle.com_refs_rows.specs.Entries.{Closed, entered, tally}
use Rattle.com_ledger.proofs.Closing.{closed_disconnect}
use Rattle.com_ledger.proofs.ends.end_connection.Goals as goal

pub returns-clause-row : goal.returns-clause-row
returns-clause-row c = λ objects s x g owned calls same.
    subst (λ (o : Option ℕ). Closed (entered s x g owned (deed.Disconnect o c.args.hr) (books_with c.args.refs.now calls)) (tally c.args.refs.now calls) (tally c.disconnect.new.refs calls)) (sym c.in-Some.is)
    (closed_disconnect s x g owned calls c.args.refs.now c.disconnect.new.refs c.in-Some.object c.args.hr c.if-hr-ne0.false c.disconnect.ensures.cut)
