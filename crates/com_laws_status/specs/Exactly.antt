-- What the statuses of `check` and `migrate` say of a trace.
use Rattle.std.specs.Prelude.{◌≡◌, ℕ, ◌⊎◌, List, Some}
use Rattle.com_io.specs.Faults.{Rose}
use Rattle.com_commands.specs.declared.statuses.TheConstants.{DIFFERS_CODE, DONE_CODE, MEMORY_CODE}
use Rattle.com_commands.specs.Statuses.{Sides}

-- The source tells its bytes, and no count of faults rose in the call.
pub record IsUndisturbed (sides : Sides) (bytes : List ℕ) : Type 0 where
  pub told : sides.left ≡ Some bytes
  pub no_read_fault : Rose sides.read_faults sides.read_faults_after → ⊥
  pub no_write_fault : Rose sides.write_faults sides.write_faults_after → ⊥

-- The code is that of `Done` where this holds, and that of `Differs` where it does not; or want of memory came.
abbrev pub TellsExactly : (code : ℕ) → Type 0 → Type 0
TellsExactly code Holds =
    ((code ≡ DONE_CODE) × Holds) ⊎ ((code ≡ DIFFERS_CODE) × (Holds → ⊥)) ⊎ (code ≡ MEMORY_CODE)
