use Rattle.com_deliveries.proofs.Listing.{delivered_by}
use Rattle.com_deliveries.proofs.deliveries_by.Goals as goal

pub returns : goal.returns
returns c = λ s src f q n.
    delivered_by s c.args.table.now c.args.history.now c.in_ok-tally.tally c.in_ok-events.events.items c.in_ok-tally.ensures c.in_ok-events.ensures src f q n
