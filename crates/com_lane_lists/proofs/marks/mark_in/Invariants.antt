use Rattle.std.proofs.Common.{◌≡◌, drop}
use Rattle.com_model.specs.Waiting.{mark_of}
use Rattle.com_lane_lists.proofs.marks.mark_in.Given as goal

abbrev pub invariant-loop-i : goal.invariant-loop-i
invariant-loop-i l = mark_of l.marks.items l.call ≡ mark_of (drop l.i l.marks.items) l.call
