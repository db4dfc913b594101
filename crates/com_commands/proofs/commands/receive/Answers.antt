use Rattle.std.proofs.Common.{subst, sym, ◌∙◌}
use Rattle.com_commands.specs.Unread.{Refuses}
use Rattle.com_commands.proofs.Asking.{fault_causes}
use Rattle.com_commands.proofs.commands.receive.Goals as goal

pub returns-in-Ok-Faulty-clause-refused : goal.returns-in-Ok-Faulty-clause-refused
returns-in-Ok-Faulty-clause-refused g c =
    fault_causes g.R.InputReader.too_long g.R.InputReader.reading c.in-Ok.text c.in-Ok-Faulty.fault c.refuse.result _ c.in-Ok.ensures.told
    (sym c.in-Ok-Faulty.field-0-is ∙ c.in-Ok-Faulty.ensures.value)
    (subst
    (λ k. Refuses c.in-Ok-Faulty.fault c.refuse.result (g.K.Sink.held k) (g.K.Sink.held c.refuse.new.sink)
    (g.K.Sink.faults_of k) (g.K.Sink.faults_of c.refuse.new.sink))
    c.in-Ok.ensures.kept c.refuse.ensures)
