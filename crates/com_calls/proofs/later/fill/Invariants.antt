use Rattle.std.proofs.Common.{◌≡◌, ◌≤◌, ◌-◌, ◌++◌, None, replicate, vec_len, vec_capacity}
use Rattle.com_calls.proofs.later.fill.Given as goal

abbrev pub invariant-loop-index : goal.invariant-loop-index
invariant-loop-index l = record {
  items : l.later.items ≡ l.fn.later.items ++ replicate (l.index - vec_len l.fn.later) None;
  len : vec_len l.later ≡ l.index;
  room : l.count ≤ vec_capacity l.later;
  capacity : vec_capacity l.fn.later ≤ vec_capacity l.later;
}
