-- What holds for any scenario with these numbers of lanes holds for this one.
use Rattle.std.proofs.Common.{◌≡◌, Some}
use Rattle.std.proofs.lemmas.Result.{IfOk-weaker}
use Rattle.com_model.specs.Ends.{ended_as}
use Rattle.com_model.specs.Rules.{legal}
use Rattle.com_waits.specs.Chains.{explanation_of}
use Rattle.com_waits.specs.Walks.{told}
use Rattle.com_waits.proofs.explains.waits_at.Goals as goal

pub returns : goal.returns
returns c =
    IfOk-weaker c.explain_by.result _
    (λ w. legal c.args.scenario.now (told c.args.history.now) → ended_as c.args.scenario.now (told c.args.history.now) ≡ Some c.args.ended → w ≡ explanation_of c.args.scenario.now (told c.args.history.now))
    (λ w f. f c.args.scenario.now c.lane_numbers-numbers.ensures.lanes c.lane_numbers-numbers.ensures.pool c.requires) c.explain_by.ensures
