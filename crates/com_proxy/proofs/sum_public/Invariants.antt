use Rattle.std.proofs.Common.{◌≡◌, ◌<◌, ◌^◌}
use Rattle.com_keyed.specs.Indices.{reach}
use Rattle.com_keyed.proofs.Summing.{sum_from}
use Rattle.com_keyed.proofs.Walking.{Walks}
use Rattle.com_proxy.specs.Rows.{public_any, public_sum}
use Rattle.com_proxy.proofs.sum_public.Given as goal

abbrev pub invariant-loop-latest : goal.invariant-loop-latest
invariant-loop-latest l = record {
  walks : Walks l.objects.keys l.object (λ p. Unit {0}) l.latest;
  summed : public_sum l.object l.rows < 2 ^ 64 → l.sum ≡ sum_from (public_any l.object) l.rows (reach l.latest);
}

abbrev pub decreases-loop-latest : goal.decreases-loop-latest
decreases-loop-latest l = reach l.latest
