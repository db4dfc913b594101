use Rattle.std.proofs.Common.{◌≡◌, ◌-◌, ◌++◌, None, length, take, replicate}
use Rattle.com_base.specs.declared.limits.TheConstants.{SLOT_COUNT}
use Rattle.com_body.specs.Frames.{references}
use Rattle.com_body.proofs.frame.entered_slots.Given as goal

abbrev pub invariant-loop-value : goal.invariant-loop-value
invariant-loop-value l =
    let held = references (take l.value-index l.values) in
    (l.taken ≡ length held) × (l.slots ≡ held ++ replicate (SLOT_COUNT - length held) None)
