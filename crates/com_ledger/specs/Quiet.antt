-- Entries that move no reference and have no row in the books.
use Rattle.std.specs.Prelude.{◌≡◌, ℕ, ◌+◌, Bool, List, [], ◌∷◌, ◌++◌, length, is_some, Option, None}
use Rattle.com_body.specs.declared.actions.Action.{Action}
use Rattle.com_refs_books.specs.Counting.{count_if}
use Rattle.com_model.specs.declared.deeds.Deed.{Deed}
use Rattle.com_model.specs.declared.deeds.Deed.TheVariants as deed
use Rattle.com_model.specs.declared.scenario.Scenario.{Scenario}
use Rattle.com_model.specs.Calls.{issues}
use Rattle.com_model.specs.Objects.{makes}
use Rattle.com_refs_holders.specs.Tables.{Tables}
use Rattle.com_refs_rows.specs.declared.calls.CallPackets.{CallPackets}
use Rattle.com_refs_rows.specs.Books.{books_with}
use Rattle.com_refs_rows.specs.Calls.{no_packets}
use Rattle.com_refs_rows.specs.Entries.{Around, entered, tally}

-- The packets of each call after such an entry: one that an Out issues has none.
abbrev pub calls_passed : Deed → List CallPackets → List CallPackets
calls_passed (deed.Out c o i m r k bytes) calls = calls ++ no_packets ∷ []
calls_passed _ calls = calls

-- The books with the row of the deed, and with what it keeps of packets, are those before it, beside these
-- packets of calls; and it makes no object.
pub record LeavesBooks (g : Around) (d : Deed) (t : Tables) (calls later : List CallPackets) : Type 0 where
  pub books : (s : Scenario) (x : Option Action) (owned : ℕ → ℕ → Bool)
      → entered s x g owned d (books_with t calls) ≡ books_with t later
  pub number : (l : ℕ) → length later ≡ count_if (is_some (issues l d)) + length calls
  pub makes_none : makes d ≡ None
