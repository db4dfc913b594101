use Rattle.std.proofs.Common.{◌≡◌, ◌++◌, None, replicate, drop}
use Rattle.com_scene.proofs.tables.clear_slots.Given as goal

abbrev pub invariant-loop-number : goal.invariant-loop-number
invariant-loop-number l = l.frame ≡ record l.fn.frame { slots = replicate l.number None ++ drop l.number l.fn.frame.slots }
