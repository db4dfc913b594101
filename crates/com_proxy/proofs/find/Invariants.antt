use Rattle.std.proofs.Common.{◌≡◌, false}
use Rattle.com_keyed.specs.Indices.{reach}
use Rattle.com_keyed.proofs.Walking.{Walks}
use Rattle.com_proxy.specs.Rows.{is_for, row_at, proxy_key_of}
use Rattle.com_proxy.proofs.find.Given as goal

abbrev pub invariant-loop-at : goal.invariant-loop-at
invariant-loop-at l = Walks l.proxies.keys (proxy_key_of l.apartment l.object) (λ p. is_for l.apartment l.object l.iface (row_at l.rows p) ≡ false) l.at

abbrev pub decreases-loop-at : goal.decreases-loop-at
decreases-loop-at l = reach l.at
