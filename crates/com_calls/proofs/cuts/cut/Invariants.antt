use Rattle.std.proofs.Common.{◌≡◌, fold, take}
use Rattle.com_calls.specs.Reached.{cutting, cut_call}
use Rattle.com_calls.proofs.cuts.cut.Given as goal

abbrev pub invariant-loop-call : goal.invariant-loop-call
invariant-loop-call l = cutting l.rows l.waiting ≡ fold (cut_call l.cut) (cutting l.fn.rows l.fn.waiting) (take l.call-index l.listed)
