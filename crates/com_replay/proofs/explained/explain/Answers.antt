use Rattle.std.proofs.Common.{◌≡◌, ◌↔◌, true, false, None, Some}
use Rattle.std.proofs.lemmas.Result.{IfOk-weaker}
use Rattle.std.specs.Arc.{arc_value}
use Rattle.com_model.specs.Ends.{stuck}
use Rattle.com_waits.specs.Chains.{explanation}
use Rattle.com_waits.specs.Walks.{told}
use Rattle.com_replay.proofs.Whether.{is_lawful, none_from, waits_from}
use Rattle.com_replay.proofs.explained.explain.Goals as goal

pub explain_shared-requires-clause-lawful : goal.explain_shared-requires-clause-lawful
explain_shared-requires-clause-lawful c = is_lawful _ _ c.requires.formed c.requires.lawful c.requires.few

pub returns-clause-waits : goal.returns-clause-waits
returns-clause-waits c =
    IfOk-weaker c.explain_shared.result _
    (λ w. stuck (arc_value c.args.scenario) (told c.args.history.now) ≡ true → w ≡ Some (explanation (arc_value c.args.scenario) (told c.args.history.now)))
    (λ w is. waits_from (arc_value c.args.scenario) c.args.history.now w is) c.explain_shared.ensures

pub returns-clause-none : goal.returns-clause-none
returns-clause-none c =
    IfOk-weaker c.explain_shared.result _ (λ w. w ≡ None ↔ stuck (arc_value c.args.scenario) (told c.args.history.now) ≡ false)
    (λ w is. none_from (arc_value c.args.scenario) c.args.history.now w is) c.explain_shared.ensures
