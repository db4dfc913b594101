use Rattle.std.proofs.Common.{◌≡◌, ◌++◌, length}
use Rattle.com_print.specs.Spelled.{text_of}
use Rattle.com_print_scenario.specs.Printed.{program_lines}
use Rattle.com_print_scenario.specs.Ranges.{FitsProgram}
use Rattle.com_print_scenario.proofs.classes.push_program.Given as goal

abbrev pub invariant-program : goal.invariant-program
invariant-program l = record {
  text : l.out ++ text_of (program_lines l.names l.rest) ≡ l.initial.out ++ text_of (program_lines l.names l.statements);
  fits : FitsProgram l.rest → FitsProgram l.statements;
}

abbrev pub decreases-program : goal.decreases-program
decreases-program l = length l.rest
