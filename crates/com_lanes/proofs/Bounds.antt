-- When the bound of a pump is reached.
use Rattle.std.proofs.Common.{◌≡◌, ℕ, zero, suc, Bool, false, nat_le, List, [], ◌∷◌, Option, Some, refl}
use Rattle.com_model.specs.declared.keeps.Opener.{Opener}
use Rattle.com_model.specs.declared.keeps.Opener.TheVariants.{Pumps, Waits, Enters}
use Rattle.com_model.specs.Lists.{first}
use Rattle.com_model.specs.Waiting.{bound_reached}

abbrev pub bound_is_met : Option Opener → ℕ → Bool
bound_is_met (Some (Pumps zero)) n = false
bound_is_met (Some (Pumps (suc k))) n = nat_le (suc k) n
bound_is_met _ n = false

pub bound_of_first : (os : List Opener) (n : ℕ) → bound_reached os n ≡ bound_is_met (first os) n
bound_of_first [] n = refl
bound_of_first (Pumps zero ∷ os) n = refl
bound_of_first (Pumps (suc k) ∷ os) n = refl
bound_of_first (Waits c ∷ os) n = refl
bound_of_first (Enters c o a ∷ os) n = refl
