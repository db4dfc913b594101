use Rattle.std.proofs.Common.{◌≡◌, ◌<◌, ℕ}
use Rattle.com_keyed.specs.Indices.{reach}
use Rattle.com_keyed.proofs.Walking.{Walks}
use Rattle.com_proxy.specs.Rows.{row_at, no_public}
use Rattle.com_proxy.proofs.cut_all.Given as goal

abbrev pub invariant-loop-at : goal.invariant-loop-at
invariant-loop-at l = record {
  walks : Walks l.objects.keys l.object (λ p. row_at l.rows p ≡ no_public (row_at l.fn.rows p)) l.at;
  ahead : (p : ℕ) → p < reach l.at → row_at l.rows p ≡ row_at l.fn.rows p;
  others : (p : ℕ) → ((row_at l.fn.rows p).object ≡ l.object → ⊥) → row_at l.rows p ≡ row_at l.fn.rows p;
}

abbrev pub decreases-loop-at : goal.decreases-loop-at
decreases-loop-at l = reach l.at
