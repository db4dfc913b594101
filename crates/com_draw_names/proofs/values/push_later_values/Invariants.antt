use Rattle.std.proofs.Common.{◌≡◌, ◌++◌, length}
use Rattle.std.specs.List.{flat_map}
use Rattle.com_model.specs.Text.{later_value_text}
use Rattle.com_draw_names.proofs.values.push_later_values.Given as goal

abbrev pub invariant-values : goal.invariant-values
invariant-values l = l.out ++ flat_map later_value_text l.rest ≡ l.initial.out ++ flat_map later_value_text l.values

abbrev pub decreases-values : goal.decreases-values
decreases-values l = length l.rest
