-- A row that changes keeps its frame.
use Rattle.std.proofs.Common.{subst, IsSome}
use Rattle.com_scene.specs.declared.tables.CallRow.{CallRow}
use Rattle.com_scene.proofs.SeatLemmas.{seated_kept}
use Rattle.com_scene.proofs.tables.Tables.want.Goals as goal

pub returns-then-call-len-clause-seats : goal.returns-then-call-len-clause-seats
returns-then-call-len-clause-seats c =
    λ k s. seated_kept c.args.self.now.calls.items c.in-Some.field-0.call k c.want.new.self c.index_mut-row.result.now (subst (λ (row : CallRow). IsSome row.frame → IsSome c.want.new.self.frame) c.index_mut-row.ensures.value c.want.ensures.seated) s
