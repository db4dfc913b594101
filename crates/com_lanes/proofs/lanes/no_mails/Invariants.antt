use Rattle.std.proofs.Common.{◌≡◌}
use Rattle.com_lane_lists.specs.Rooms.{mail_in}
use Rattle.com_model.specs.Lists.{tabulated}
use Rattle.com_model.specs.Waiting.{no_mail}
use Rattle.com_lanes.proofs.lanes.no_mails.Given as goal

abbrev pub invariant-loop-i : goal.invariant-loop-i
invariant-loop-i l = mail_in l.table.items ≡ tabulated l.i (λ k. no_mail)
