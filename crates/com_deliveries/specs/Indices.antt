-- The index of a cookie.
use Rattle.std.specs.Prelude.{ℕ, suc, ℤ, List, [], ◌∷◌, if◌then◌else◌}
use Rattle.com_laws_sources.specs.Sinks.{is_cookie}

-- The first index of a cookie that is this number, or how many there are.
abbrev pub index_in : ℤ → List ℕ → ℕ
index_in n [] = 0
index_in n (c ∷ cs) = if is_cookie n c then 0 else suc (index_in n cs)
