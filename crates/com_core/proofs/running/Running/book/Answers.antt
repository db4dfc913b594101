-- What an entry makes of a ledger, beside the parts of the core.
use Rattle.std.proofs.Common.{◌≡◌, subst}
use Rattle.com_model.specs.Lists.{number_or_zero}
use Rattle.com_refs_rows.specs.Entries.{Around, around}
use Rattle.com_core.specs.Making.{Booked}
use Rattle.com_core.proofs.running.Running.book.Goals as goal

pub returns-clause-booked : goal.returns-clause-booked
returns-clause-booked c =
    let a = c.args in
    let p = a.self.now.parts in
    let d = a.entry.now.deed in
    let m = a.self.now.moves in
    let w = a.self.now.ledger in
    let u = c.apply.new.self in
    let whole : Booked (around c.calls.result.now.tables c.objects.result.now.tables a.scenario.now.classes a.carried.now (number_or_zero a.seat.running)) d m w u = record {
      applies = c.in_ok-apply.ensures.applies;
      loses = c.in_ok-apply.ensures.touched;
      offers = c.in_ok-apply.ensures.offers;
      issued = c.apply.ensures.issued;
      rise = c.in_ok-apply.ensures.rise;
      totals = c.tells.ensures;
    } in
    let beside : around c.calls.result.now.tables c.objects.result.now.tables a.scenario.now.classes a.carried.now (number_or_zero a.seat.running)
    ≡ around p.calls.tables p.objects a.scenario.now.classes a.carried.now (number_or_zero a.seat.running) =
    λ j. around (c.calls.ensures.value j).tables (c.objects.ensures j) a.scenario.now.classes a.carried.now (number_or_zero a.seat.running) in
    subst (λ (g : Around). Booked g d m w u) beside whole
