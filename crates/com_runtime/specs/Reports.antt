-- What a report counts of an object, by the tables of a state.
use Rattle.std.specs.Prelude.{ℕ, ◌+◌, ◌≤◌, List, map, sum_by}
use Rattle.com_refs_books.specs.Changes.{Books, in_normal, in_table, in_cookie}
use Rattle.com_refs_books.specs.Counting.{sum_below}
use Rattle.com_model.specs.declared.counts.Counts.{Counts}
use Rattle.com_model.specs.declared.scenario.Scenario.{Scenario}
use Rattle.com_model.specs.Lists.{is_member, one_to}
use Rattle.com_model.specs.Places.{direct_places}
use Rattle.com_model.specs.Ends.{state_of, over_interfaces}
use Rattle.com_model.specs.State.{State, next_sta_in, objects_in, named_in, class_in, scene_in, books_in}
use Rattle.com_model.specs.State.{ground_in}

-- An object was made: they are numbered from 1, in order of making.
abbrev pub WasMade : State → (object : ℕ) → Type 0
WasMade st o = (1 ≤ o) × (o ≤ objects_in st)

abbrev pub counts_by : Scenario → State → Books → ℕ → Counts
counts_by s st b o = record {
  class = class_in st o;
  owner = named_in st o;
  state = state_of (is_member o st.finaled) (b.live o);
  direct = direct_places s (ground_in s st) (scene_in st) o;
  proxies = sum_below (next_sta_in st) (λ a. over_interfaces s (b.proxy a o));
  packets = sum_by (in_normal o) b.packets;
  tables = sum_by (in_table o) b.packets + sum_by (in_cookie o) b.cookies;
  stub = over_interfaces s (b.stub o);
}

-- What the report's line of an object counts, by its number, in a state.
unfoldable pub counts_in : Scenario → State → ℕ → Counts
counts_in s st o = counts_by s st (books_in st) o

-- Of all objects, in order of making.
abbrev pub all_counts_in : Scenario → State → List Counts
all_counts_in s st = map (counts_in s st) (one_to (objects_in st))
