-- The lesser of two times.
use Rattle.std.specs.Prelude.{ℕ, min, Option, Some, None}

-- Where there are any.
abbrev pub sooner : Option ℕ → Option ℕ → Option ℕ
sooner None p = p
sooner (Some t) None = Some t
sooner (Some t) (Some u) = Some (min t u)
