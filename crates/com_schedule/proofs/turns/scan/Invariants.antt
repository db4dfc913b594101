use Rattle.std.proofs.Common.{◌≡◌, ◌-◌}
use Rattle.com_runtime.proofs.Limits.{mapped}
use Rattle.com_schedule.proofs.Trying.{Rounding}
use Rattle.com_servant.specs.Rows.{row}
use Rattle.com_schedule.proofs.turns.scan.Given as goal

abbrev pub invariant-lanes : goal.invariant-lanes
invariant-lanes g l = record {
  rounding : Rounding (g.C.Runtime.scenario l.initial.runtime) (g.C.Runtime.state l.initial.runtime) (g.C.Runtime.state l.runtime)
      (mapped l.initial.servants.items (λ b. (goal.Servant-dyn g (b.vtable, b.value)).stepped b.value)) (mapped l.servants.items (λ b. (goal.Servant-dyn g (b.vtable, b.value)).stepped b.value)) l.last l.count l.step;
  same : g.C.Runtime.scenario l.runtime ≡ g.C.Runtime.scenario l.initial.runtime;
  kinds : mapped l.servants.items (λ b. (goal.Servant-dyn g (b.vtable, b.value)).kind_of b.value) ≡ row;
}

abbrev pub decreases-lanes : goal.decreases-lanes
decreases-lanes g l = l.count - l.step
