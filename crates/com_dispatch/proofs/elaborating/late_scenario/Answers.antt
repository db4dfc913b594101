use Rattle.com_dispatch.proofs.LateForms.{outline_formed}
use Rattle.com_dispatch.proofs.elaborating.late_scenario.Goals as goal

pub scenario-requires : goal.scenario-requires
scenario-requires c =
    outline_formed c.args.text.now c.in_ok-built_in_interfaces.field-0 c.in_ok-outline.outline c.in_ok-outline.bindings.items c.in_ok-built_in_interfaces.ensures
    c.in_ok-outline.ensures
