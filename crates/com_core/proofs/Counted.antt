-- What a report counts of an object is what it counts in the core's state.
use Rattle.std.proofs.Common.{◌≡◌, ℕ, ap, ◌∙◌, ◌+◌}
use Rattle.std.specs.Prelude.{sum_by}
use Rattle.com_refs_books.specs.Changes.{Books, in_normal, in_table, in_cookie}
use Rattle.com_refs_books.specs.Counting.{sum_below}
use Rattle.com_model.specs.declared.counts.ObjectState.{ObjectState}
use Rattle.com_model.specs.declared.scenario.Scenario.{Scenario}
use Rattle.com_model.specs.Ends.{over_interfaces, state_of}
use Rattle.com_model.specs.Lists.{is_member}
use Rattle.com_model.specs.Places.{direct_places}
use Rattle.com_model.specs.State.{State, books_in, class_in, ground_in, named_in, next_sta_in, scene_in}
use Rattle.com_runtime.specs.Reports.{counts_in}
use Rattle.com_refs_rows.specs.Books.{Held, books_held}
use Rattle.com_ledger.specs.Ties.{Ties}

pub counts_read : (s : Scenario) (st : State) (w : Held) (o class owner : ℕ) (z : ObjectState) (direct proxies packets tables stub : ℕ) → Ties s st w
    → class ≡ class_in st o → owner ≡ named_in st o → z ≡ state_of (is_member o st.finaled) ((books_held w).live o)
    → direct ≡ direct_places s (ground_in s st) (scene_in st) o
    → proxies ≡ sum_below (next_sta_in st) (λ a. over_interfaces s ((books_in st).proxy a o))
    → packets ≡ sum_by (in_normal o) (books_in st).packets
    → tables ≡ sum_by (in_table o) (books_in st).packets + sum_by (in_cookie o) (books_in st).cookies
    → stub ≡ over_interfaces s ((books_in st).stub o)
    → record { class = class; owner = owner; state = z; direct = direct; proxies = proxies; packets = packets; tables = tables; stub = stub } ≡ counts_in s st o
unfolding counts_in
counts_read s st w o class owner z direct proxies packets tables stub t c n y d p k g u =
    let live : z ≡ state_of (is_member o st.finaled) ((books_in st).live o) = y ∙ ap (λ (b : Books). state_of (is_member o st.finaled) (b.live o)) t.books in
    λ i. record { class = c i; owner = n i; state = live i; direct = d i; proxies = p i; packets = k i; tables = g i; stub = u i }
