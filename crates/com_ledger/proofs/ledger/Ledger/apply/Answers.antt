use Rattle.std.proofs.Common.{◌≡◌, List, sym, subst}
use Rattle.std.specs.Prelude.{OnOk}
use Rattle.com_model.specs.Lists.{number_or_zero}
use Rattle.com_reference_moves.specs.declared.moves.Move.{Move}
use Rattle.com_reference_moves.specs.Steps.{movings_of}
use Rattle.com_refs_rows.specs.Books.{Held}
use Rattle.com_refs_rows.specs.Entries.{AllGiven, around, tally}
use Rattle.com_ledger.specs.Ties.{NotesLost}
use Rattle.com_refs_rows.specs.Fits.{FitsBooks}
use Rattle.com_ledger.proofs.ledger.Ledger.apply.Goals as goal

pub change-requires-clause-fits : goal.change-requires-clause-fits
change-requires-clause-fits c =
    subst (λ (h : Held). FitsBooks c.args.context.classes.now c.args.context.carried.now (number_or_zero c.args.context.running) (tally h.tables h.calls) c.args.entry.now.deed) (sym c.self.view_is) c.requires.fits

pub change-requires-clause-known : goal.change-requires-clause-known
change-requires-clause-known c =
    subst (λ (h : Held). (gained : List Move) → movings_of gained ≡ c.args.moves.now.gained → AllGiven c.args.context.classes.now h.tables c.args.entry.now.deed gained) (sym c.self.view_is) c.requires.known

pub returns-clause-offers : goal.returns-clause-offers
returns-clause-offers c = rw (← c.self.view_is) c.change.ensures.offers

pub returns-clause-issued : goal.returns-clause-issued
returns-clause-issued c = rw (← c.self.view_is) c.change.ensures.issued

pub returns-clause-applies : goal.returns-clause-applies
returns-clause-applies c = rw (← c.self.view_is) c.change.ensures.applies

pub returns-clause-touched : goal.returns-clause-touched
returns-clause-touched c =
    subst (λ (h : Held). OnOk c.change.result ((gained lost : List Move) → movings_of gained ≡ c.args.moves.now.gained → movings_of lost ≡ c.args.moves.now.lost → NotesLost (around c.args.context.calls.now.tables c.args.context.objects.now.tables c.args.context.classes.now c.args.context.carried.now (number_or_zero c.args.context.running)) c.args.entry.now.deed gained lost (tally h.tables h.calls) (tally c.change.new.self.refs c.change.new.self.calls) c.change.new.self.touched.items))
    c.self.view_is c.change.ensures.touched

pub returns-clause-few : goal.returns-clause-few
returns-clause-few c = rw (← c.self.view_is) c.change.ensures.few

pub returns-clause-err_tables : goal.returns-clause-err_tables
returns-clause-err_tables c = rw (← c.self.view_is) c.change.ensures.err_refs

pub returns-clause-err_calls : goal.returns-clause-err_calls
returns-clause-err_calls c = rw (← c.self.view_is) c.change.ensures.err_calls

pub returns-clause-err_touched : goal.returns-clause-err_touched
returns-clause-err_touched c = rw (← c.self.view_is) c.change.ensures.err_touched
