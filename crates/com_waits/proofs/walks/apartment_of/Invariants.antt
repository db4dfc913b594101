use Rattle.std.proofs.Common.{◌≡◌, length}
use Rattle.com_model.specs.Objects.{making}
use Rattle.com_waits.specs.Walks.{apartment_in, told}
use Rattle.com_waits.proofs.walks.apartment_of.Given as goal

abbrev pub invariant-entries : goal.invariant-entries
invariant-entries l = apartment_in (making (told l.rest) l.object) ≡ apartment_in (making (told l.history) l.object)

abbrev pub decreases-entries : goal.decreases-entries
decreases-entries l = length l.rest
