-- The books after an entry's rows and before its end, by the state and by the history.
use Rattle.std.specs.Prelude.{ℕ, Bool, not, ◌&&◌, ◌||◌, List, ◌∷◌}
use Rattle.com_refs_books.specs.Changes.{Books, entered_rows}
use Rattle.com_model.specs.declared.deeds.Deed.{Deed}
use Rattle.com_model.specs.declared.deeds.Entry.{Entry}
use Rattle.com_model.specs.declared.scenario.Scenario.{Scenario}
use Rattle.com_model.specs.Lists.{is_number, number_or_zero}
use Rattle.com_model.specs.Apartments.{ends_sta, running}
use Rattle.com_model.specs.Objects.{makes, disconnects, named, owns}
use Rattle.com_model.specs.Frames.{act}
use Rattle.com_model.specs.Endings.{ending, is_leave}
use Rattle.com_model.specs.Books.{made_by, rows, kept, books}
use Rattle.com_model.specs.State.{State, books_in, ending_in, named_in, owns_in, running_in, sight_of}

-- The books with the rows of an entry, and with what it keeps of packets.
abbrev pub rows_entered : Scenario → (before after : State) → Entry → Books
rows_entered s st su e =
    kept (books_in st) e.deed
    (entered_rows (owns_in s su) (books_in st)
    (rows s ((sight_of s st).act e.lane) (λ c. is_leave (ending_in st c)) (books_in st)
    (number_or_zero (running_in s st e.lane)) e.deed))

-- An object that is made is connected; one that is disconnected, or whose owner ends, is not any more.
abbrev pub connects : Deed → (named : ℕ → ℕ) → (ℕ → Bool) → ℕ → Bool
connects d named live o =
    (made_by (makes d) o || live o)
    && (not (is_number o (disconnects d)) && not (is_number (named o) (ends_sta d)))

-- The books in which what a deed makes is connected, and what it cuts off is not any more.
abbrev pub connected : Deed → (named : ℕ → ℕ) → Books → Books
connected d named b = record b { live = connects d named b.live }

-- The books before the entry ends.
abbrev pub books_entered : Scenario → (before after : State) → Entry → Books
books_entered s st su e = connected e.deed (named_in su) (rows_entered s st su e)

-- The books before the entry ends, over histories.
abbrev pub history_entered : Scenario → List Entry → Entry → Books
history_entered s h e =
    connected e.deed (named (e ∷ h))
    (kept (books s h) e.deed
    (entered_rows (owns s (e ∷ h)) (books s h)
    (rows s (act s h e.lane) (λ c. is_leave (ending s h c)) (books s h)
    (number_or_zero (running s h e.lane)) e.deed)))
