-- The text of a formed scenario is read as the same scenario.
use Rattle.std.proofs.Common.{◌≡◌, ℕ, List, Result, Ok, sym, ap, ◌∙◌}
use Rattle.com_classes.specs.declared.interfaces.Interface.{Interface}
use Rattle.com_model.specs.declared.scenario.Scenario.{Scenario}
use Rattle.com_model.specs.Formed.{Formed}
use Rattle.com_text.specs.Scanning.{lines_of}
use Rattle.com_read_operands.specs.declared.faults.Fault.{Fault}
use Rattle.com_read_operands.specs.Reading.{◌>>=◌}
use Rattle.com_read_sections.specs.declared.outline.Outline.{Outline}
use Rattle.com_print.proofs.Scanned.{lines_again}
use Rattle.com_print_scenario.specs.Printed.{scenario_lines, printed}
use Rattle.com_print_scenario.specs.Ranges.{FitsTypes}
use Rattle.com_print_scenario.proofs.Goods.{scenario_good}
use Rattle.com_print_scenario.proofs.Whole.{scenario_read, built_first}
use Rattle.com_scenario.specs.Scenarios.{scenario_of, reading}

pub law : (s : Scenario) → Formed s → FitsTypes s → reading (printed s) ≡ Ok s
unfolding reading
law s f t =
    ap (λ (r : Result Outline Fault). r >>= λ o. Ok (scenario_of o)) (scenario_read s f t (lines_of (printed s)) (lines_again (scenario_lines s) (scenario_good s f t)))
    ∙ ap (λ (x : List Interface). Ok (record s { classes = record (s.classes) { interfaces = x } })) (sym (built_first s f))

pub again : (s : Scenario) (text : List ℕ) → Formed s → text ≡ printed s → FitsTypes s → reading text ≡ Ok s
again s text f e t = ap reading e ∙ law s f t
