use Rattle.com_threads.specs.Histories.{Adds, UpToDate}
use Rattle.com_threads.proofs.desk.Desk.go_on.Given as goal

abbrev pub invariant-loop : goal.invariant-loop
invariant-loop g l = record {
  at : UpToDate l.scenario (g.C.Runtime.scenario l.self.core) (g.C.Runtime.state l.self.core) l.self.pages;
  adds : Adds l.lane l.initial.self.pages.entries l.self.pages.entries;
}
