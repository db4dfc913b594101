use Rattle.std.proofs.Common.{◌≡◌, fold, take, None}
use Rattle.com_calls.specs.Rows.{row_at}
use Rattle.com_calls.specs.Inside.{row_wait}
use Rattle.com_calls.specs.Waits.{sooner_of}
use Rattle.com_calls.proofs.waits.least_wait.Given as goal

abbrev pub invariant-loop-call : goal.invariant-loop-call
invariant-loop-call l = l.least ≡ fold (λ a c. sooner_of a (row_wait l.now (row_at l.rows c))) None (take l.call-index l.delayed)
