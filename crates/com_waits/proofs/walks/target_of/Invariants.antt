use Rattle.std.proofs.Common.{◌≡◌, length}
use Rattle.com_model.specs.Calls.{issue}
use Rattle.com_waits.specs.Walks.{object_in, told}
use Rattle.com_waits.proofs.walks.target_of.Given as goal

abbrev pub invariant-entries : goal.invariant-entries
invariant-entries l = object_in (issue (told l.rest) l.call) ≡ object_in (issue (told l.history) l.call)

abbrev pub decreases-entries : goal.decreases-entries
decreases-entries l = length l.rest
