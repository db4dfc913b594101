use Rattle.std.proofs.Common.{◌≡◌, ◌≤◌}
use Rattle.com_runtime.proofs.Limits.{mapped}
use Rattle.com_model.specs.Tables.{lanes}
use Rattle.com_servant.specs.Rows.{row}
use Rattle.com_threads.specs.Turns.{IsWork}
use Rattle.com_turnstile.specs.Passes.{IsPassOf, lane_of}
use Rattle.com_threads.proofs.worker.work.Given as goal

abbrev pub invariant-loop : goal.invariant-loop
invariant-loop g l = record {
  pass : IsPassOf l.lock l.pass × (lane_of l.pass ≡ l.lane);
  lane : (1 ≤ l.lane) × (l.lane ≤ lanes l.shared.scenario.now);
  work : IsWork l.shared.scenario.now l.shift.work;
  servants : mapped l.shift.servants.items (λ b. (goal.Servant-dyn g (b.vtable, b.value)).kind_of b.value) ≡ row;
}
