use Rattle.std.proofs.Common.{Option, ℕ, ap, ◌∙◌}
use Rattle.com_model.specs.Deeds.{disconnect_answer, object_in}
use Rattle.com_model.specs.declared.deeds.Deed.TheVariants as deed
use Rattle.com_view.specs.Seen.{sight_by}
use Rattle.com_rules.proofs.deeds.references.disconnect_deed.Goals as goal

pub returns : goal.returns
returns c = λ b says.
    let v = sight_by c.args.view.now b in
    c.disconnect_deed.ensures v c.args.lane (c.target_of-target.ensures b says)
    ∙ ap (λ (h : Option ℕ). deed.Disconnect (object_in c.args.held) (disconnect_answer v c.args.lane h c.args.held)) c.home-home.ensures
