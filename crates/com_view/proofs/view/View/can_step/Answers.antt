use Rattle.std.proofs.Common.{Bool, ◌||◌, is_some, sym, ap, ◌∙◌}
use Rattle.com_model.specs.Rules.{ruled}
use Rattle.com_view.specs.Seen.{sight_by}
use Rattle.com_view.proofs.Stepping.{can_step_by}
use Rattle.com_view.proofs.view.View.can_step.Goals as goal

pub returns-then-is_in_body : goal.returns-then-is_in_body
returns-then-is_in_body c = λ b.
    let w = c.args.self.now in
    sym (can_step_by w b c.args.lane
    ∙ ap (λ (t : Bool). t || is_some (ruled w.scenario (sight_by w b) c.args.lane)) (sym c.is_in_body.ensures ∙ c.if-is_in_body.true))

pub returns : goal.returns
returns c = λ b.
    let w = c.args.self.now in
    c.has_entry.ensures b
    ∙ sym (can_step_by w b c.args.lane
    ∙ ap (λ (t : Bool). t || is_some (ruled w.scenario (sight_by w b) c.args.lane)) (sym c.is_in_body.ensures ∙ c.if-is_in_body.false))
