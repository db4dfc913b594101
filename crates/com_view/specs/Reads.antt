-- When the parts that are read, with these books, are those of a state.
use Rattle.std.specs.Prelude.{◌≡◌, true, All}
use Rattle.com_refs_books.specs.Changes.{Books}
use Rattle.com_model.specs.State.{State, SameBooks, books_in, dies_in}
use Rattle.com_state.specs.Parts.{lanes_of, objects_of, calls_of}
use Rattle.com_calls.specs.Kept.{IsNamed}
use Rattle.com_view.specs.Seen.{Seen}

-- Each object that waits for its Final is dying, and the apartment that is kept of a call is that of its
-- target. Both are so of the state of each legal history.
pub record Reads (w : Seen) (b : Books) (st : State) : Type 0 where
  pub lanes : lanes_of st ≡ w.lanes
  pub objects : objects_of st ≡ w.objects
  pub calls : calls_of st ≡ w.calls.tables
  pub scene : st.scene ≡ w.scene
  pub books : SameBooks (books_in st) b
  pub fallen : st.fallen ≡ w.fallen
  pub clock : st.clock ≡ w.clock
  pub named : IsNamed (objects_of st) w.calls
  pub dying : All (λ o. dies_in w.scenario st o ≡ true) st.fallen
