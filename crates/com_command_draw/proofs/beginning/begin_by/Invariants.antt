use Rattle.std.proofs.Common.{◌≡◌, ◌-◌, ◌≤◌, drop}
use Rattle.com_model.specs.Tables.{lanes}
use Rattle.com_model.specs.Ends.{limit}
use Rattle.com_servant.specs.Rows.{row}
use Rattle.com_replay.proofs.Driving.{Driving}
use Rattle.com_runtime.proofs.Limits.{mapped}
use Rattle.com_command_draw.proofs.Passing.{Passing}
use Rattle.com_command_draw.proofs.beginning.begin_by.Given as goal

abbrev pub invariant-turns : goal.invariant-turns
invariant-turns g l = record {
  driving : Driving l.scenario (g.K.Sink.held l.initial.sink) (mapped l.initial.servants.items (λ b. (goal.Servant-dyn g (b.vtable, b.value)).stepped b.value)) (record {
    state = g.C.Runtime.state l.runtime;
    picks = drop l.course.tried l.scenario.picks;
    last = l.course.last;
    lines = l.course.lines;
    held = g.K.Sink.held l.sink;
    steps = mapped l.servants.items (λ b. (goal.Servant-dyn g (b.vtable, b.value)).stepped b.value);
  });
  passing : Passing l.scenario (g.C.Runtime.state l.runtime) (drop l.course.tried l.scenario.picks) l.course.last l.drawing l.text l.is_kept l.entries.items;
  same : g.C.Runtime.scenario l.runtime ≡ l.scenario;
  last : l.course.last ≤ lanes l.scenario;
  kinds : mapped l.servants.items (λ b. (goal.Servant-dyn g (b.vtable, b.value)).kind_of b.value) ≡ row;
}

abbrev pub decreases-turns : goal.decreases-turns
decreases-turns g l = limit l.scenario - (g.C.Runtime.state l.runtime).entries
