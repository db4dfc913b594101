use Rattle.std.proofs.Common.{◌≡◌, ◌++◌, length, All}
use Rattle.com_print.specs.Spelled.{text_of}
use Rattle.com_print_scenario.specs.Printed.{threads_lines}
use Rattle.com_print_scenario.specs.Ranges.{FitsProgram}
use Rattle.com_print_scenario.proofs.filters.push_threads.Given as goal

abbrev pub invariant-threads : goal.invariant-threads
invariant-threads l = record {
  text : l.out ++ text_of (threads_lines l.names l.rest) ≡ l.initial.out ++ text_of (threads_lines l.names l.threads);
  fits : All FitsProgram l.rest → All FitsProgram l.threads;
}

abbrev pub decreases-threads : goal.decreases-threads
decreases-threads l = length l.rest
