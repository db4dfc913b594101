-- The books that a ledger stands for.
use Rattle.std.specs.Prelude.{◌≡◌, ℕ, ◌+◌, ◌<◌, ◌≤◌, Bool, not, ◌&&◌, List, [], ◌∷◌, ◌++◌, length}
use Rattle.com_base.specs.declared.value.RefValue.{RefValue}
use Rattle.com_refs_books.specs.Changes.{Books, Row, Makes, changed, change, entered_rows, made_since, first_of}
use Rattle.com_refs_books.specs.Changes.{cut}
use Rattle.com_refs_books.specs.Ends.{ends}
use Rattle.com_refs_holders.specs.Places.{Counts, SamePlaces}
use Rattle.com_refs_holders.specs.Stands.{Tells}
use Rattle.com_refs_holders.specs.Steps.{made_live}
use Rattle.com_refs_holders.specs.Tables.{Tables, books_of, owns_of}
use Rattle.com_model.specs.Lists.{put}
use Rattle.com_reference_moves.specs.declared.moves.Move.{Move}
use Rattle.com_refs.specs.Totals.{Totals}
use Rattle.com_refs_rows.specs.declared.calls.CallPackets.{CallPackets}
use Rattle.com_refs_rows.specs.Calls.{arguments_in, result_in}
use Rattle.com_refs_rows.specs.Moving.{plus, AllBelow, HoldsMore}
use Rattle.com_refs_rows.specs.Owners.{AsOwned}

-- Who holds references, as tables; the packets of each call; and the objects that lost their last holder in
-- the last entry.
pub record Held : Type 0 where
  pub tables : Tables
  pub calls : List CallPackets
  pub touched : List ℕ

-- The books of these tables, with the packets that carry the arguments and the result of each call.
abbrev pub books_with : Tables → List CallPackets → Books
books_with t calls = record (books_of t) { arguments = arguments_in calls; result = result_in calls }

-- The books that a ledger stands for.
abbrev pub books_held : Held → Books
books_held w = books_with w.tables w.calls

-- A reference that comes to a place of an apartment.
abbrev pub moved_to : ℕ → RefValue → Move
moved_to a r = record { apartment = a; reference = r }

-- A row of the table of reference counting was entered.
abbrev pub Rowed : (before after : Tables) → Row → Type 0
Rowed t u r = books_of u ≡ changed (books_of t) (change (owns_of t.objects) (books_of t) r)

-- Places were brought: these are held beside those before, of the same objects.
pub record Brought (t u : Tables) (moves : List Move) : Type 0 where
  pub made : length u.objects ≡ length t.objects
  pub owns : (x c : ℕ) → owns_of u.objects x c ≡ owns_of t.objects x c
  pub counts : (n : ℕ) (places : ℕ → ℕ → ℕ) → AllBelow n moves → Counts n places t
      → Counts n (plus places moves) u

-- Rows were entered that take no holder. The places that they bring are of one apartment, and are written
-- down behind others.
pub record Gained (apartment : ℕ) (rows : List Row) (t u : Tables) (before after : List Move) : Type 0 where
  pub moves : List Move
  pub written : after ≡ before ++ moves
  pub below : (n : ℕ) → apartment < n → AllBelow n moves
  pub places : Brought t u moves
  pub books : books_of u ≡ entered_rows (owns_of t.objects) (books_of t) rows

-- A row that takes a holder was entered, to the end of its entry.
pub record Taken (row : Row) (t u : Tables) : Type 0 where
  pub books : (n : ℕ) (places : ℕ → ℕ → ℕ) → Tells n places u → Totals n places u
      → books_of u ≡ ends n places (changed (books_of t) (change (owns_of t.objects) (books_of t) row))
  pub places : SamePlaces t u

-- These objects are not connected any more.
pub record Cut (gone : ℕ → Bool) (t u : Tables) : Type 0 where
  pub books : books_of u ≡ cut (λ x. (books_of t).live x && not (gone x)) (books_of t)
  pub places : SamePlaces t u

-- What the row brought, and all that comes to places, is held once.
pub record Exchanged (brought gained : List Move) (t u : Tables) : Type 0 where
  pub objects : AsOwned t u
  pub none : brought ≡ [] → books_of u ≡ books_of t
  pub counts : (n : ℕ) (places : ℕ → ℕ → ℕ) → AllBelow n brought → AllBelow n gained
      → Counts n (plus places brought) t → Counts n (plus places gained) u
  pub books : (n : ℕ) (places later : ℕ → ℕ → ℕ) → AllBelow n brought → AllBelow n gained
      → Counts n (plus places brought) t → ((c x : ℕ) → later c x ≤ plus places gained c x)
      → ends n later (books_of u) ≡ ends n later (books_of t)

-- Rows were entered that bring and take no place.
pub record Marshalled (rows : List Row) (t u : Tables) : Type 0 where
  pub books : books_of u ≡ entered_rows (owns_of t.objects) (books_of t) rows
  pub places : SamePlaces t u

-- The packets that were made since carry the arguments of a call; the first of them carries its result.
abbrev pub with_arguments : ℕ → (before after : Books) → Books
with_arguments c before after = record after { arguments = put c (made_since before after) after.arguments }

-- The first packet that was made since carries the result of a call; if none was made, the result has none.
abbrev pub with_answer : ℕ → (before after : Books) → Books
with_answer c before after = record after { result = put c (first_of (made_since before after)) after.result }

-- No place holds an object that was not made, where so many were.
abbrev pub AreMade : ℕ → (ℕ → ℕ → ℕ) → Type 0
AreMade made places = (c x : ℕ) → made < x → places c x ≡ 0

-- The next object was made, and a place of it was brought.
pub record Made (apartment : ℕ) (held : RefValue) (t u : Tables) : Type 0 where
  pub next : held.object ≡ length t.objects + 1
  pub owns : (x c : ℕ) → x ≤ length t.objects → owns_of u.objects x c ≡ owns_of t.objects x c
  pub counts : (n : ℕ) (places : ℕ → ℕ → ℕ) → apartment < n → AreMade (length t.objects) places
      → Counts n places t → Counts n (plus places (moved_to apartment held ∷ [])) u
  pub books : books_of u ≡ made_live held.object (changed (books_of t)
      (change (owns_of u.objects) (books_of t) (Makes apartment held.object held.iface)))

-- No object has fewer holders, where places are counted and none holds an object that was not made.
abbrev pub KeepsHeld : ℕ → (t u : Tables) → Type 0
KeepsHeld a t u = (n : ℕ) (places : ℕ → ℕ → ℕ) → a < n → AreMade (length t.objects) places → Counts n places t
    → HoldsMore t u
