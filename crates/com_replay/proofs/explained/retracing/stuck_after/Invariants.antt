use Rattle.std.proofs.Common.{◌≡◌, length, map}
use Rattle.com_servant.specs.Rows.{row}
use Rattle.com_replay.proofs.Retraced.{Retraced}
use Rattle.com_replay.proofs.explained.retracing.stuck_after.Given as goal

abbrev pub invariant-entries : goal.invariant-entries
invariant-entries g l = record {
  retraced : Retraced l.scenario l.history (g.C.Runtime.state l.runtime) l.rest;
  same : g.C.Runtime.scenario l.runtime ≡ l.scenario;
  kinds : map (λ b. (goal.Servant-dyn g (b.vtable, b.value)).kind_of b.value) l.servants.items ≡ row;
}

abbrev pub decreases-entries : goal.decreases-entries
decreases-entries g l = length l.rest
