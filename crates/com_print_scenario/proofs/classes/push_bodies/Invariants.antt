use Rattle.std.proofs.Common.{◌≡◌, ◌++◌, length}
use Rattle.com_print.specs.Spelled.{text_of}
use Rattle.com_print_scenario.specs.Printed.{bodies_lines}
use Rattle.com_print_scenario.specs.Ranges.{FitsBodies}
use Rattle.com_print_scenario.proofs.classes.push_bodies.Given as goal

abbrev pub invariant-bodies : goal.invariant-bodies
invariant-bodies l = record {
  text : l.out ++ text_of (bodies_lines l.names l.rest) ≡ l.initial.out ++ text_of (bodies_lines l.names l.bodies);
  fits : FitsBodies l.rest → FitsBodies l.bodies;
}

abbrev pub decreases-bodies : goal.decreases-bodies
decreases-bodies l = length l.rest
