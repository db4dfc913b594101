use Rattle.std.proofs.Common.{◌≡◌, ◌++◌, ◌+◌, ◌≤◌, length, drop}
use Rattle.std.specs.List.{flat_map}
use Rattle.com_model.specs.Text.{later_value_text}
use Rattle.com_report.specs.Width.{values_width}
use Rattle.com_report.proofs.values.later_values.Given as goal

abbrev pub invariant-values : goal.invariant-values
invariant-values l = record {
  room : values_width l.rest ≤ l.at;
  before : l.at ≤ l.end;
  taken : l.end + values_width l.rest ≤ l.at + values_width l.values;
  text : flat_map later_value_text l.rest ++ drop l.at l.room ≡ flat_map later_value_text l.values ++ drop l.end l.initial.room;
}

abbrev pub decreases-values : goal.decreases-values
decreases-values l = length l.rest
