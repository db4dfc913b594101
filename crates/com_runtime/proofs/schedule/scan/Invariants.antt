use Rattle.com_runtime.specs.Standings.{can_step_in}
use Rattle.com_runtime.proofs.Choices.{Scanning}
use Rattle.com_runtime.proofs.schedule.scan.Given as goal

abbrev pub invariant-loop-step : goal.invariant-loop-step
invariant-loop-step g l = Scanning (can_step_in (g.C.Runtime.scenario l.runtime) (g.C.Runtime.state l.runtime)) l.last l.count l.step
