use Rattle.std.proofs.Common.{◌≡◌, false, take}
use Rattle.com_model.specs.Lists.{is_member}
use Rattle.com_ledger.proofs.dying.is_among.Given as goal

abbrev pub invariant-loop-other : goal.invariant-loop-other
invariant-loop-other l = is_member l.object (take l.other-index l.objects) ≡ false
