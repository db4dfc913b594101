use Rattle.std.proofs.Common.{Option, ℕ, sym, ap, ◌∙◌}
use Rattle.com_model.specs.Deeds.{created}
use Rattle.com_view.specs.Seen.{Seen, sight_by}
use Rattle.com_rules.proofs.deeds.references.create_deed.Goals as goal

pub returns : goal.returns
returns c = λ b slot.
    let v = sight_by c.args.view.now b in
    c.create_deed.ensures v c.args.lane (sym c.running-running.ensures)
    (sym (c.main_sta-main_sta.ensures ∙ ap (λ (w : Seen). (sight_by w b).main_sta) c.view.view_is))
    (sym (c.len-objects.ensures ∙ ap (λ (w : Seen). (sight_by w b).objects) c.view.view_is))
    ∙ ap (λ (w : Seen). created w.scenario v c.args.lane c.args.class c.args.iface c.home-home.result) c.view.view_is
    ∙ ap (λ (h : Option ℕ). created c.args.view.now.scenario v c.args.lane c.args.class c.args.iface h) c.home-home.ensures
