use Rattle.std.proofs.Common.{refl}
use Rattle.com_scenario.proofs.Forms.{outline_formed}
use Rattle.com_scenario.proofs.reading.parse.Goals as goal

pub scenario-requires : goal.scenario-requires
scenario-requires c = outline_formed c.args.text.now _ _ _ c.in_ok-built_in_interfaces.ensures c.in_ok-outline.ensures refl

pub returns-clause-formed : goal.returns-clause-formed
returns-clause-formed c = outline_formed c.args.text.now _ _ _ c.in_ok-built_in_interfaces.ensures c.in_ok-outline.ensures c.in_ok-scenario.ensures
