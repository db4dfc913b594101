use Rattle.std.proofs.Common.{◌≡◌, ◌-◌}
use Rattle.std.proofs.lemmas.List.Elements.{All-set}
use Rattle.std.proofs.lemmas.Result.{on_ok_weaker}
use Rattle.com_runtime.proofs.Limits.{mapped}
use Rattle.com_servant.specs.Rows.{row}
use Rattle.com_threads.proofs.Added.{one_later}
use Rattle.com_threads.proofs.desk.Desk.step.Goals as goal

pub returns-clause-at : goal.returns-clause-at
returns-clause-at g c =
    on_ok_weaker c.write.result (λ is. one_later _ _ _ _ _ _ _ _ _ c.requires.at c.in_ok-entry.ensures.scenario c.requires.room c.in_ok-entry.ensures.entry is) c.write.ensures.ok

pub returns-clause-rows : goal.returns-clause-rows
returns-clause-rows g c =
    All-set (λ r. mapped r.items (λ b. (goal.Servant-dyn g (b.vtable, b.value)).kind_of b.value) ≡ row) c.args.rows.now.items (c.len.result - c.args.lane) c.step.new.servants c.step.ensures.row c.requires.rows
