use Rattle.std.proofs.Common.{◌≡◌}
use Rattle.com_keyed.specs.Indices.{reach}
use Rattle.com_keyed.proofs.Walking.{Walks}
use Rattle.com_proxy.specs.Rows.{row_at, proxy_key_of}
use Rattle.com_proxy.proofs.any_held.Given as goal

abbrev pub invariant-loop-at : goal.invariant-loop-at
invariant-loop-at l = Walks l.proxies.keys (proxy_key_of l.apartment l.object) (λ p. (row_at l.rows p).object ≡ l.object → (row_at l.rows p).apartment ≡ l.apartment → (row_at l.rows p).local ≡ 0) l.at

abbrev pub decreases-loop-at : goal.decreases-loop-at
decreases-loop-at l = reach l.at
