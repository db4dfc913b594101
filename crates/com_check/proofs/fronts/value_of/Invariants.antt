use Rattle.std.proofs.Common.{◌≡◌, ◌<◌, ◌^◌, drop}
use Rattle.com_check.specs.Fronts.{value_behind}
use Rattle.com_check.proofs.fronts.value_of.Given as goal

abbrev pub invariant-loop-digit : goal.invariant-loop-digit
invariant-loop-digit l = record {
  small : l.value < 2 ^ 32;
  value : value_behind l.value (drop l.digit-index l.digits) ≡ value_behind 0 l.digits;
}
