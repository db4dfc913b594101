use Rattle.com_model.specs.Lists.{number_or_zero}
use Rattle.com_view.specs.Seen.{sight_by, running_seen}
use Rattle.com_rules.proofs.Packing.{RowsSoFar}
use Rattle.com_rules.proofs.making.all_outgoing.Given as goal

abbrev pub invariant-loop-held : goal.invariant-loop-held
invariant-loop-held g l =
    RowsSoFar (sight_by l.view (g.B.References.books l.books)).owns (g.B.References.books l.books) (number_or_zero (running_seen l.view l.lane))
    l.carried l.held-index l.rows.items
