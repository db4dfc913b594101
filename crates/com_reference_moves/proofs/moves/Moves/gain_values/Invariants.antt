use Rattle.std.proofs.Common.{◌≡◌, ◌++◌, take}
use Rattle.com_body.specs.Frames.{references}
use Rattle.com_laws_places.specs.Moves.{all_moved}
use Rattle.com_reference_moves.proofs.moves.Moves.gain_values.Given as goal

abbrev pub invariant-loop-value : goal.invariant-loop-value
invariant-loop-value l = l.self ≡ record l.fn.self { gained = l.fn.self.gained ++ all_moved l.apartment (references (take l.value-index l.values)) }
