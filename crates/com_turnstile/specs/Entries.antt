-- Lists of entries. Each entry has the number of a lane.
use Rattle.std.specs.Prelude.{◌≡◌, ℕ, ◌==◌, ◌⊎◌, List, All, filter}

-- the entries of the lane n, in their order
abbrev pub of_lane : {E : Type 0} → (E → ℕ) → ℕ → List E → List E
of_lane lane n entries = filter (λ e. lane e == n) entries

-- each of the entries has the lane n, or lane 0, which is the lane of no pass
abbrev pub AreOf : {E : Type 0} → (E → ℕ) → ℕ → List E → Type 0
AreOf lane n entries = All (λ e. (lane e ≡ n) ⊎ (lane e ≡ 0)) entries
