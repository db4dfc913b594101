use Rattle.std.proofs.Common.{◌≡◌, ◌+◌, drop}
use Rattle.com_deliveries.specs.Indices.{index_in}
use Rattle.com_deliveries.proofs.cookies.index_of.Given as goal

abbrev pub invariant-loop-cookie : goal.invariant-loop-cookie
invariant-loop-cookie l = (l.index ≡ l.cookie-index) × (l.index + index_in l.number (drop l.cookie-index l.cookies) ≡ index_in l.number l.cookies)
