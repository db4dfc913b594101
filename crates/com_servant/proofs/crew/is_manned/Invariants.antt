use Rattle.std.proofs.Common.{◌≡◌, ◌<◌, ℕ, map, slice_index_or}
use Rattle.com_servant.specs.Rows.{row}
use Rattle.com_servant.proofs.crew.is_manned.Given as goal

abbrev pub invariant-loop-at : goal.invariant-loop-at
invariant-loop-at g l =
    (k : ℕ) (d : _) → k < l.at → map (λ b. (goal.Servant-dyn g (b.vtable, b.value)).kind_of b.value) (slice_index_or l.crew.items k d).items ≡ row
