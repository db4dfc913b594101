use Rattle.std.proofs.Common.{◌≡◌, ◌-◌, length}
use Rattle.com_runtime.proofs.Limits.{mapped}
use Rattle.com_schedule.proofs.Trying.{Picking}
use Rattle.com_servant.specs.Rows.{row}
use Rattle.com_schedule.proofs.turns.pick.Given as goal

abbrev pub invariant-picks : goal.invariant-picks
invariant-picks g l = record {
  picking : Picking (g.C.Runtime.scenario l.initial.runtime) (g.C.Runtime.state l.initial.runtime) (g.C.Runtime.state l.runtime)
      (mapped l.initial.servants.items (λ b. (goal.Servant-dyn g (b.vtable, b.value)).stepped b.value)) (mapped l.servants.items (λ b. (goal.Servant-dyn g (b.vtable, b.value)).stepped b.value)) l.picks l.from l.next;
  same : g.C.Runtime.scenario l.runtime ≡ g.C.Runtime.scenario l.initial.runtime;
  kinds : mapped l.servants.items (λ b. (goal.Servant-dyn g (b.vtable, b.value)).kind_of b.value) ≡ row;
}

abbrev pub decreases-picks : goal.decreases-picks
decreases-picks g l = length l.picks - l.next
