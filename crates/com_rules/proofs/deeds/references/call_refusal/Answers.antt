use Rattle.std.proofs.Common.{Option, ℕ, ap, ◌∙◌}
use Rattle.com_model.specs.Issue.{call_refusal}
use Rattle.com_view.specs.Seen.{Seen, sight_by}
use Rattle.com_rules.proofs.deeds.references.call_refusal.Goals as goal

pub returns : goal.returns
returns c = λ b says.
    let v = sight_by c.args.view.now b in
    c.call_refusal.ensures v c.args.lane (c.target_of-target.ensures b says)
    ∙ ap (λ (w : Seen). call_refusal w.scenario c.home-home.result (v.running c.args.lane) v.owns b.live c.args.held c.args.iface c.args.method) c.view.view_is
    ∙ ap (λ (h : Option ℕ). call_refusal c.args.view.now.scenario h (v.running c.args.lane) v.owns b.live c.args.held c.args.iface c.args.method) c.home-home.ensures
