-- The books after an entry that moves no reference and has no row in them.
use Rattle.std.proofs.Common.{[], subst}
use Rattle.com_ledger.specs.Quiet.{LeavesBooks}
use Rattle.com_refs_rows.specs.Books.{Held}
use Rattle.com_refs_rows.specs.Entries.{Applies, Around, tally}
use Rattle.com_ledger.proofs.Quiet.{passed_applies}
use Rattle.com_ledger.proofs.ledger.Ledger.pass.Goals as goal

pub returns-clause-applies : goal.returns-clause-applies
returns-clause-applies c =
    let b = c.self.inside.books in
    let d = c.args.deed.now in
    let later = c.pass_call.new.calls in
    subst (λ (h : Held). (g : Around) → LeavesBooks g d h.tables h.calls later → Applies g d [] [] (tally h.tables h.calls) (tally b.refs later)) c.self.view_is
    (λ g leaves. passed_applies g d b.refs b.calls later leaves c.tells.ensures.tells c.tells.ensures.totals c.rests.ensures)
