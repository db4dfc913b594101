use Rattle.std.proofs.Common.{◌≡◌, ℕ, true, ◌||◌, List, length, sym, ap, subst, ◌∙◌, arith}
use Rattle.com_refs_holders.specs.Tables.{Tables, offers}
use Rattle.com_model.specs.Lists.{number_or_zero}
use Rattle.com_model.specs.Objects.{makes}
use Rattle.com_refs_rows.specs.Owners.{offers_made}
use Rattle.com_ledger.proofs.Offered.{fits_prepared, given_prepared}
use Rattle.com_refs_rows.specs.declared.calls.CallPackets.{CallPackets}
use Rattle.com_refs_rows.specs.Entries.{asked_packets}
use Rattle.com_reference_moves.specs.Steps.{moving_of}
use Rattle.std.proofs.lemmas.List.{length-map}
use Rattle.com_objects.specs.Settled.{Rise}
use Rattle.com_refs_rows.specs.Entries.{Applies, around, tally}
use Rattle.com_ledger.specs.Ties.{NotesLost}
use Rattle.com_refs_rows.specs.Moving.{Climbs}
use Rattle.com_refs_rows.proofs.Changing.{applies_whole}
use Rattle.com_ledger.proofs.Kept.{held_made, loses_kept}
use Rattle.com_refs_rows.proofs.Unholding.{loses_whole}
use Rattle.com_ledger.proofs.books.Books.change.Goals as goal

pub prepare-requires-clause-gained : goal.prepare-requires-clause-gained
prepare-requires-clause-gained c =
    let many : length c.gains-gained.result.now ≡ length c.args.moves.now.gained = sym (length-map c.gains-gained.result.now moving_of) ∙ ap (λ l. length l) c.gains-gained.ensures in
    omega (arith, many, c.requires.gained)

pub returns-clause-issued : goal.returns-clause-issued
returns-clause-issued c =
    let same : c.prepare.new.self.refs.issued ≡ c.args.self.now.refs.issued = ap (λ (t : Tables). t.issued) c.in_ok-prepare.ensures.refs in
    omega (arith, same, c.in_ok-prepare.ensures.steps, c.enter_reference.ensures.issued, c.take.ensures.issued, c.enter_end.ensures.issued, c.lose_all.ensures.issued)

pub enter_reference-requires-clause-fits : goal.enter_reference-requires-clause-fits
enter_reference-requires-clause-fits c =
    fits_prepared c.args.context.classes.now c.args.context.carried.now (number_or_zero c.args.context.running) c.number_or_zero-apartment.result c.prepare.new.self.refs.spare c.args.self.now.refs c.prepare.new.self.refs c.args.self.now.calls c.prepare.new.self.calls c.args.entry.now.deed
    c.in_ok-prepare.ensures.refs c.in_ok-prepare.ensures.calls c.number_or_zero-apartment.ensures c.requires.fits.row

pub take-requires-clause-known : goal.take-requires-clause-known
take-requires-clause-known c = λ k h. c.in_ok-enter_reference.ensures.offers _ _
    (given_prepared c.args.context.classes.now c.prepare.new.self.refs.spare c.args.self.now.refs c.prepare.new.self.refs c.args.entry.now.deed c.gains-gained.result.now c.in_ok-prepare.ensures.refs (c.requires.known c.gains-gained.result.now c.gains-gained.ensures) k h)

pub returns-clause-offers : goal.returns-clause-offers
returns-clause-offers c = λ o i e.
    c.lose_all.ensures.offers o i ∙ c.enter_end.ensures.offers o i ∙ c.take.ensures.offers o i
    ∙ c.in_ok-enter_reference.ensures.offers o i (subst (λ (v : Tables). (offers v o i || offers_made c.args.context.classes.now (makes c.args.entry.now.deed) o i) ≡ true) (sym c.in_ok-prepare.ensures.refs) e)

pub keep_made-requires : goal.keep_made-requires
keep_made-requires c =
    c.lose_all.ensures.climbs (c.enter_end.ensures.climbs (c.take.ensures.climbs (subst (λ (l : List ℕ). Climbs 0 l) (sym c.clear-2.ensures.items) tt)))

pub returns-clause-applies : goal.returns-clause-applies
returns-clause-applies c = λ gained lost eg el.
    subst (λ (k : ℕ). Applies (around c.args.context.calls.now.tables c.args.context.objects.now.tables c.args.context.classes.now c.args.context.carried.now k) c.args.entry.now.deed gained lost (tally c.args.self.now.refs c.args.self.now.calls) (tally c.lose_all.new.refs c.enter_end.new.self.calls)) c.number_or_zero-apartment.ensures
    (applies_whole (around c.args.context.calls.now.tables c.args.context.objects.now.tables c.args.context.classes.now c.args.context.carried.now c.number_or_zero-apartment.result) c.args.entry.now.deed
    c.args.self.now.refs c.prepare.new.self.refs c.enter_reference.new.self.refs c.take.new.refs c.enter_end.new.self.refs c.lose_all.new.refs
    c.args.self.now.calls c.prepare.new.self.calls c.enter_reference.new.self.calls c.enter_end.new.self.calls
    c.clear.new.self.items c.enter_reference.new.self.brought.items c.as_slice.result.now c.gains-gained.result.now c.losses-lost.result.now gained lost
    c.in_ok-prepare.ensures.places c.in_ok-prepare.ensures.books c.in_ok-prepare.ensures.calls c.clear.ensures.items
    c.in_ok-enter_reference.ensures.gives c.as_slice.ensures.value c.take.ensures.exchanged
    c.enter_end.ensures.closes c.enter_end.ensures.calls
    c.lose_all.ensures.objects c.lose_all.ensures.ended (eg ∙ sym c.gains-gained.ensures) (el ∙ sym c.losses-lost.ensures))

pub returns-clause-touched : goal.returns-clause-touched
returns-clause-touched c = λ gained lost eg el.
    subst (λ (k : ℕ). NotesLost (around c.args.context.calls.now.tables c.args.context.objects.now.tables c.args.context.classes.now c.args.context.carried.now k) c.args.entry.now.deed gained lost (tally c.args.self.now.refs c.args.self.now.calls) (tally c.lose_all.new.refs c.enter_end.new.self.calls) c.keep_made.new.touched.items) c.number_or_zero-apartment.ensures
    (loses_kept (around c.args.context.calls.now.tables c.args.context.objects.now.tables c.args.context.classes.now c.args.context.carried.now c.number_or_zero-apartment.result) c.args.entry.now.deed gained lost (tally c.args.self.now.refs c.args.self.now.calls) (tally c.lose_all.new.refs c.enter_end.new.self.calls)
    c.lose_all.new.touched.items c.keep_made.new.touched.items
    (applies_whole (around c.args.context.calls.now.tables c.args.context.objects.now.tables c.args.context.classes.now c.args.context.carried.now c.number_or_zero-apartment.result) c.args.entry.now.deed
    c.args.self.now.refs c.prepare.new.self.refs c.enter_reference.new.self.refs c.take.new.refs c.enter_end.new.self.refs c.lose_all.new.refs
    c.args.self.now.calls c.prepare.new.self.calls c.enter_reference.new.self.calls c.enter_end.new.self.calls
    c.clear.new.self.items c.enter_reference.new.self.brought.items c.as_slice.result.now c.gains-gained.result.now c.losses-lost.result.now gained lost
    c.in_ok-prepare.ensures.places c.in_ok-prepare.ensures.books c.in_ok-prepare.ensures.calls c.clear.ensures.items
    c.in_ok-enter_reference.ensures.gives c.as_slice.ensures.value c.take.ensures.exchanged
    c.enter_end.ensures.closes c.enter_end.ensures.calls
    c.lose_all.ensures.objects c.lose_all.ensures.ended (eg ∙ sym c.gains-gained.ensures) (el ∙ sym c.losses-lost.ensures))
    (held_made c.args.self.now.refs c.prepare.new.self.refs c.prepare.new.self.refs.spare c.in_ok-prepare.ensures.refs c.bounds.ensures.held)
    (λ o some most m. c.keep_made.ensures.kept o some (omega (arith, most, c.objects.ensures)) m)
    (loses_whole (around c.args.context.calls.now.tables c.args.context.objects.now.tables c.args.context.classes.now c.args.context.carried.now c.number_or_zero-apartment.result) c.args.entry.now.deed
    c.args.self.now.refs c.prepare.new.self.refs c.enter_reference.new.self.refs c.take.new.refs c.enter_end.new.self.refs c.lose_all.new.refs
    c.args.self.now.calls c.prepare.new.self.calls c.enter_reference.new.self.calls c.enter_end.new.self.calls
    c.clear.new.self.items c.enter_reference.new.self.brought.items c.as_slice.result.now c.gains-gained.result.now c.losses-lost.result.now gained lost
    c.clear-2.new.self.items c.take.new.touched.items c.enter_end.new.self.touched.items c.lose_all.new.touched.items
    c.in_ok-prepare.ensures.places c.in_ok-prepare.ensures.books c.in_ok-prepare.ensures.calls c.clear.ensures.items
    c.clear-2.ensures.items
    c.in_ok-enter_reference.ensures.gives c.as_slice.ensures.value c.in_ok-enter_reference.ensures.more
    c.take.ensures.exchanged c.take.ensures.touched
    c.enter_end.ensures.closes c.enter_end.ensures.touched
    c.lose_all.ensures.touched (eg ∙ sym c.gains-gained.ensures) (el ∙ sym c.losses-lost.ensures)))

pub returns-clause-rise : goal.returns-clause-rise
returns-clause-rise c = subst (λ (n : ℕ). Rise 0 c.keep_made.new.touched.items n) c.objects.ensures c.keep_made.ensures.rise

pub returns-clause-few : goal.returns-clause-few
returns-clause-few c =
    let many : length c.losses-lost.result.now ≡ length c.args.moves.now.lost = sym (length-map c.losses-lost.result.now moving_of) ∙ ap (λ l. length l) c.losses-lost.ensures in
    let asked : asked_packets c.prepare.new.self.calls c.args.entry.now.deed ≡ asked_packets c.args.self.now.calls c.args.entry.now.deed = ap (λ (l : List CallPackets). asked_packets l c.args.entry.now.deed) c.in_ok-prepare.ensures.calls in
    omega (arith, many, asked, c.as_slice.ensures.len, c.keep_made.ensures.len, c.lose_all.ensures.len, c.enter_end.ensures.len, c.take.ensures.len, c.in_ok-enter_reference.ensures.brought, c.clear.ensures.len, c.clear-2.ensures.len)
