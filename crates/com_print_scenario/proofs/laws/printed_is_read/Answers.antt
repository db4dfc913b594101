use Rattle.com_print.proofs.Scanned.{lines_again}
use Rattle.com_text.specs.Scanning.{lines_of}
use Rattle.com_print_scenario.specs.Printed.{scenario_lines, printed}
use Rattle.com_print_scenario.proofs.Goods.{scenario_good}
use Rattle.com_print_scenario.proofs.Whole.{scenario_read}
use Rattle.com_print_scenario.proofs.laws.printed_is_read.Goals as goal

pub returns-clause-words : goal.returns-clause-words
returns-clause-words c = scenario_good

pub returns-clause-again : goal.returns-clause-again
returns-clause-again c = λ s f t. scenario_read s f t (lines_of (printed s)) (lines_again (scenario_lines s) (scenario_good s f t))
