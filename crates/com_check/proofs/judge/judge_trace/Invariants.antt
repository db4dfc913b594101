use Rattle.std.proofs.Common.{◌≡◌, length, map}
use Rattle.com_servant.specs.Rows.{row}
use Rattle.com_check.proofs.Judging.{Sofar}
use Rattle.com_check.proofs.judge.judge_trace.Given as goal

abbrev pub invariant-lines : goal.invariant-lines
invariant-lines g l = record {
  sofar : Sofar l.scenario l.trace (g.C.Runtime.state l.runtime) l.judge.last l.rest;
  same : g.C.Runtime.scenario l.runtime ≡ l.scenario;
  kinds : map (λ b. (goal.Servant-dyn g (b.vtable, b.value)).kind_of b.value) l.servants.items ≡ row;
}

abbrev pub decreases-lines : goal.decreases-lines
decreases-lines g l = length l.rest
