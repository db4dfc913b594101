use Rattle.std.specs.Prelude.{IfSome}
use Rattle.com_keyed.specs.Indices.{reach}
use Rattle.com_keyed.proofs.Walking.{Walks}
use Rattle.com_proxy.proofs.Candidates.{IsCandidate, Bounds}
use Rattle.com_proxy.specs.Rows.{proxy_key_of}
use Rattle.com_proxy.proofs.lowest.Given as goal

abbrev pub invariant-loop-at : goal.invariant-loop-at
invariant-loop-at l = record {
  walks : Walks l.proxies.keys (proxy_key_of l.apartment l.object) (Bounds l.apartment l.object l.rows l.lowest) l.at;
  candidate : IfSome l.lowest (IsCandidate l.apartment l.object l.rows);
}

abbrev pub decreases-loop-at : goal.decreases-loop-at
decreases-loop-at l = reach l.at
