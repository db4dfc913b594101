use Rattle.com_top.proofs.Loaded.{loaded_is}
use Rattle.com_top.proofs.load.load_number.Goals as goal

pub returns-clause-loaded : goal.returns-clause-loaded
returns-clause-loaded g c =
    loaded_is c.args.number c.in_ok-scenario.scenario c.in_ok-replayed.replayed c.status_at.result c.in_ok-text.text
    c.in_ok-scenario.ensures.value c.in_ok-replayed.ensures.answer c.in_ok-text.ensures c.status_at.ensures
