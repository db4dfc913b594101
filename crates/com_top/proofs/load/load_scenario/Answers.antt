use Rattle.std.proofs.Common.{sym, ◌∙◌}
use Rattle.com_top.proofs.Loaded.{load_scenario_is, no_fault}
use Rattle.com_top.proofs.load.load_scenario.Goals as goal

pub unreachable-requires : goal.unreachable-requires
unreachable-requires c =
    no_fault c.args.number c.in_ok-text.text c.as_slice.result.now c.in-Err.field-0 c.in_ok-text.ensures c.as_slice.ensures
    (sym c.in-Err.is ∙ c.in_ok-scenario.ensures.value)

pub returns-clause-value : goal.returns-clause-value
returns-clause-value c =
    load_scenario_is c.args.number c.in_ok-text.text c.as_slice.result.now c.in-Ok.scenario c.in_ok-text.ensures c.as_slice.ensures
    (sym c.in-Ok.is ∙ c.in_ok-scenario.ensures.value)
