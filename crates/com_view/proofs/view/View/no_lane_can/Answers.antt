use Rattle.std.proofs.Common.{◌≡◌, ℕ, ◌+◌, ◌-◌, not, sym, ap, ◌∙◌, arith}
use Rattle.com_model.specs.Lists.{any_of, one_to}
use Rattle.com_model.specs.Rules.{can_step}
use Rattle.com_model.specs.Tables.{lanes}
use Rattle.com_view.specs.Seen.{sight_by}
use Rattle.com_view.proofs.Any.{any_here, any_more}
use Rattle.com_view.proofs.view.View.no_lane_can.Goals as goal

pub returns-then-can_step : goal.returns-then-can_step
returns-then-can_step c = λ b.
    let s = c.args.self.now.scenario in
    let left : c.loop-before.before + 1 + (c.args.count - c.loop-before.before - 1) ≡ c.args.count = omega arith in
    sym (ap not (any_here (can_step s (sight_by c.args.self.now b)) c.loop-before.before (lanes s) (c.args.count - c.loop-before.before - 1)
    (left ∙ c.requires) (sym (c.can_step.ensures b) ∙ c.if-can_step.true)))

pub loop-before-preserved : goal.loop-before-preserved
loop-before-preserved c = λ b.
    any_more (can_step c.args.self.now.scenario (sight_by c.args.self.now b)) c.loop-before.before (c.loop-before.invariant b)
    (sym (c.can_step.ensures b) ∙ c.if-can_step.false)

pub returns : goal.returns
returns c = λ b.
    let s = c.args.self.now.scenario in
    let all : c.loop-before.before ≡ c.args.count = omega arith in
    sym (ap not (ap (λ (n : ℕ). any_of (can_step s (sight_by c.args.self.now b)) (one_to n)) (sym (all ∙ c.requires)) ∙ c.loop-before.invariant b))
