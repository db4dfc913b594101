use Rattle.std.proofs.Common.{◌≡◌, ◌↔◌, true, false, None, Some}
use Rattle.std.proofs.lemmas.Result.{IfOk-weaker}
use Rattle.com_model.specs.Ends.{stuck}
use Rattle.com_waits.specs.Chains.{explanation}
use Rattle.com_waits.specs.Walks.{told}
use Rattle.com_replay.proofs.Whether.{is_lawful, none_from, waits_from}
use Rattle.com_replay.proofs.explained.explaining.explain_on.Goals as goal

pub explained_on-requires-clause-lawful : goal.explained_on-requires-clause-lawful
explained_on-requires-clause-lawful g c = is_lawful _ _ c.requires.formed c.requires.lawful c.requires.few

pub returns-clause-waits : goal.returns-clause-waits
returns-clause-waits g c =
    IfOk-weaker c.explained_on.result _
    (λ w. stuck c.args.scenario.now (told c.args.history.now) ≡ true → w ≡ Some (explanation c.args.scenario.now (told c.args.history.now)))
    (λ w is. waits_from c.args.scenario.now c.args.history.now w is) c.explained_on.ensures

pub returns-clause-none : goal.returns-clause-none
returns-clause-none g c =
    IfOk-weaker c.explained_on.result _ (λ w. w ≡ None ↔ stuck c.args.scenario.now (told c.args.history.now) ≡ false)
    (λ w is. none_from c.args.scenario.now c.args.history.now w is) c.explained_on.ensures
