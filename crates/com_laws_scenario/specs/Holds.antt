-- What holds of whatever a reading gives.
use Rattle.std.specs.Prelude.{◌≡◌, Result, Ok}
use Rattle.com_read_operands.specs.declared.faults.Fault.{Fault}

-- where a reading gives a value, P holds of it
pub record Holds {A : Type 0} (P : A → Type 0) (r : Result A Fault) : Type 0 where
  pub of : (x : A) → r ≡ Ok x → P x
