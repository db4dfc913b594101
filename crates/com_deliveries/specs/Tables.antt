-- Which classes of a scenario are sources, as a table.
use Rattle.std.specs.Prelude.{◌≡◌, ℕ, ◌≤◌, List, Option, Some, length}
use Rattle.com_deliveries.specs.Book.{source_at}
use Rattle.com_model.specs.declared.scenario.Scenario.{Scenario}
use Rattle.com_laws_sources.specs.Sources.{IsSource}

-- The table has for each class the number of its interface, exactly where it is a source.
unfoldable pub AreSources : Scenario → List (Option ℕ) → Type 0
AreSources s table =
    (k i : ℕ) → (source_at table k ≡ Some i → IsSource s k i) × (IsSource s k i → source_at table k ≡ Some i)

-- The answer for a class: the number of its interface, exactly where it is a source.
abbrev pub Says : Scenario → Option ℕ → (class : ℕ) → Type 0
Says s x k = (i : ℕ) → (x ≡ Some i → IsSource s k i) × (IsSource s k i → x ≡ Some i)

-- The table has the answers for the classes that it has rows for.
unfoldable pub Upto : Scenario → List (Option ℕ) → Type 0
Upto s table = (k : ℕ) → k ≤ length table → Says s (source_at table k) k
