use Rattle.std.proofs.Common.{◌≡◌, ◌≤◌, ◌-◌, All, length, vec_len}
use Rattle.com_runtime.proofs.Limits.{mapped}
use Rattle.com_model.specs.Ends.{limit}
use Rattle.com_model.specs.Tables.{lanes}
use Rattle.com_servant.specs.Rows.{row}
use Rattle.com_threads.specs.Histories.{UpToDate}
use Rattle.com_threads.proofs.desk.Desk.drive.Given as goal

abbrev pub invariant-turns : goal.invariant-turns
invariant-turns g l = record {
  at : UpToDate l.scenario (g.C.Runtime.scenario l.self.core) (g.C.Runtime.state l.self.core) l.self.pages;
  last : l.last ≤ lanes l.scenario;
  rows : All (λ r. mapped r.items (λ b. (goal.Servant-dyn g (b.vtable, b.value)).kind_of b.value) ≡ row) l.rows.items;
  each : vec_len l.rows ≡ lanes l.scenario;
}

abbrev pub decreases-turns : goal.decreases-turns
decreases-turns g l = limit l.scenario - length l.self.pages.entries
