use Rattle.std.proofs.Common.{◌≡◌, ◌≤◌, ◌+◌, ℕ, All, Some, length, vec_len}
use Rattle.std.specs.Prelude.{slice_get}
use Rattle.com_runtime.proofs.Limits.{mapped}
use Rattle.com_model.specs.Tables.{lanes}
use Rattle.com_servant.specs.Rows.{row}
use Rattle.com_turnstile.specs.Passes.{IsPassOf, lane_of}
use Rattle.com_threads.proofs.worker.deal.Given as goal

abbrev pub invariant-loop-pass : goal.invariant-loop-pass
invariant-loop-pass g l = record {
  passes : length l.passes.items ≡ l.lane;
  crew : length l.crew.items ≡ l.lane;
  within : l.lane ≤ lanes l.scenario;
  dealt : length l.workers.items + l.lane ≡ l.count;
  new : (i : ℕ) (p : _) → slice_get l.passes.items i ≡ Some p → IsPassOf l.lock p × (lane_of p ≡ i + 1);
  rows : All (λ r. mapped r.items (λ b. (goal.Servant-dyn g (b.vtable, b.value)).kind_of b.value) ≡ row) l.crew.items;
  own : All (λ w. IsPassOf l.lock w.pass × (lane_of w.pass ≡ w.lane)) l.workers.items;
  lane_is : All (λ w. (1 ≤ w.lane) × (w.lane ≤ lanes l.scenario)) l.workers.items;
  servants : All (λ w. mapped w.servants.items (λ b. (goal.Servant-dyn g (b.vtable, b.value)).kind_of b.value) ≡ row) l.workers.items;
}

abbrev pub decreases-loop-pass : goal.decreases-loop-pass
decreases-loop-pass g l = vec_len l.passes
