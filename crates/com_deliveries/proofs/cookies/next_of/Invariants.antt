use Rattle.std.proofs.Common.{◌≡◌, drop}
use Rattle.com_deliveries.specs.Rows.{next_in}
use Rattle.com_deliveries.proofs.cookies.next_of.Given as goal

abbrev pub invariant-loop-cookie : goal.invariant-loop-cookie
invariant-loop-cookie l = next_in l.reached l.last (drop l.cookie-index l.cookies) ≡ next_in l.reached l.last l.cookies
