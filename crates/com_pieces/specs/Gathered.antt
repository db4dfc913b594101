-- What a sink holds behind which bytes are gathered.
use Rattle.std.specs.Prelude.{ℕ, List, ◌++◌, Option, option_map}

-- What a sink holds, where it tells it, and these bytes behind that.
abbrev pub with_kept : Option (List ℕ) → List ℕ → Option (List ℕ)
with_kept held kept = option_map (λ front. front ++ kept) held
