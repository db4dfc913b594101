use Rattle.std.proofs.Common.{arith, ap}
use Rattle.com_threads.proofs.Counting.{one_written}
use Rattle.com_threads.proofs.pages.Pages.write.Goals as goal

pub invariant_of-self-2 : goal.invariant_of-self-2
invariant_of-self-2 c =
    let rows = ap (λ w. w.rows) c.self.view_is in
    let row = c.requires.row in
    one_written _ _ _ c.args.entry _ c.self.invariant (omega (arith, rows, row)) c.in_ok-push.ensures.items c.index_mut.ensures.value
