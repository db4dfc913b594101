use Rattle.std.proofs.Common.{sym, ap, ◌∙◌}
use Rattle.com_model.specs.Deeds.{queried}
use Rattle.com_view.specs.Seen.{Seen, sight_by}
use Rattle.com_rules.proofs.deeds.references.query_deed.Goals as goal

pub returns : goal.returns
returns c = λ b to says.
    let v = sight_by c.args.view.now b in
    c.query_deed.ensures v c.args.lane (sym c.home-home.ensures) (c.target_of-target.ensures b says)
    ∙ ap (λ (w : Seen). queried w.scenario v c.args.lane c.args.held c.args.iface) c.view.view_is
