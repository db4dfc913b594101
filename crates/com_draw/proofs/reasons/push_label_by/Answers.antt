use Rattle.com_draw.specs.Reasons.{reason_label}
use Rattle.com_draw.proofs.reasons.push_label_by.Goals as goal

pub returns : goal.returns
unfolding reason_label
returns c = rw (← c.requires, ← c.is_in_cycle-is_bad.ensures, ← c.depth-level.ensures.value) c.push_label.ensures
