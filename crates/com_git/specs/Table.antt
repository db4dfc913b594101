-- What a contract sees of a `Git`.
use Rattle.std.specs.Prelude.{ℕ, List, Option}
use Rattle.com_base.specs.declared.value.RefValue.{RefValue}

-- the reference, or nothing, of each cookie that was given, in order from the cookie 1, and how many
-- more registrations are sure to find memory
pub record Table : Type 0 where
  pub entries : List (Option RefValue)
  pub spare : ℕ
