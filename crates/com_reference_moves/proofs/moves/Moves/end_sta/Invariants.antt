use Rattle.std.proofs.Common.{◌≡◌, ◌++◌}
use Rattle.com_model.specs.Lists.{one_to}
use Rattle.com_state.specs.Parts.{named_at}
use Rattle.com_reference_moves.specs.Steps.{links_of_step}
use Rattle.com_reference_moves.proofs.moves.Moves.end_sta.Given as goal

abbrev pub invariant-loop-object : goal.invariant-loop-object
invariant-loop-object l = l.self ≡ record l.fn.self { lost = l.fn.self.lost ++ links_of_step (named_at l.setting.objects) l.setting.scene l.setting.acting l.setting.outcome l.deed l.apartment (one_to l.object) }
