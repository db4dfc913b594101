use Rattle.std.proofs.Common.{◌≡◌, ◌-◌, length}
use Rattle.com_body.specs.Actions.{leave_ok}
use Rattle.com_body.specs.BodySteps.{body_step}
use Rattle.com_body.proofs.steps.walk.Given as goal

abbrev pub invariant-loop-statement : goal.invariant-loop-statement
invariant-loop-statement l =
    (l.outcome.action ≡ leave_ok) ×
    (body_step l.statements l.outcome.frame l.outcome.cells ≡ body_step l.statements l.initial.outcome.frame l.initial.outcome.cells)

abbrev pub decreases-loop-statement : goal.decreases-loop-statement
decreases-loop-statement l = length l.statements - l.outcome.frame.place
