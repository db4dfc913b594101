-- What ties a ledger to a state: its books are the state's, its tables count the state's places, its objects
-- and calls are the state's, the objects' sets those of the classes, and few references were given.
use Rattle.std.specs.Prelude.{◌≡◌, ◌<◌, ◌≤◌, ◌⊎◌, ℕ, ◌+◌, ◌*◌, Bool, true, false, ◌==◌, if◌then◌else◌, List, []}
use Rattle.std.specs.Prelude.{length, Option, Some, None}
use Rattle.com_classes.specs.Lookups.{has_interface}
use Rattle.com_refs_books.specs.Changes.{Books, entered_rows}
use Rattle.com_refs_books.specs.Counting.{count_if}
use Rattle.com_refs_books.specs.Ends.{ends}
use Rattle.com_refs_holders.specs.Places.{Counts}
use Rattle.com_refs_holders.specs.Tables.{Tables, object_in, offers, owns_of}
use Rattle.com_model.specs.declared.deeds.Deed.{Deed}
use Rattle.com_model.specs.declared.keeps.Making.{Making}
use Rattle.com_model.specs.declared.scenario.Scenario.{Scenario}
use Rattle.com_model.specs.Books.{holders_in, kept, rows}
use Rattle.com_model.specs.Endings.{is_leave}
use Rattle.com_model.specs.Lists.{is_member, number_or_zero}
use Rattle.com_model.specs.Objects.{makes, one_more}
use Rattle.com_model.specs.Places.{places}
use Rattle.com_model.specs.State.{State, after, books_in, class_in, ending_in, ground_in, issued_by, named_in}
use Rattle.com_model.specs.State.{next_sta_in, objects_in, owns_in, running_in, scene_in, sight_of}
use Rattle.com_reference_moves.specs.declared.moves.Move.{Move}
use Rattle.com_laws_unchanged.specs.Ends.{books_entered, connected}
use Rattle.com_refs.specs.Totals.{Totals}
use Rattle.com_body.specs.declared.actions.Action.{Action}
use Rattle.com_refs.specs.Counts.{holders_of}
use Rattle.com_refs_rows.specs.Books.{AreMade, Held, books_held}
use Rattle.com_refs_rows.specs.Entries.{Around, Carries, Tally, books_tallied, brings_to}
use Rattle.com_refs_rows.specs.Fits.{most_given}
use Rattle.com_refs_rows.specs.Moving.{plus, AllBelow}
use Rattle.com_refs_rows.specs.Owners.{OffersMore, owns_by}

-- The places of a state, by apartment and object, and the holders of an object.
abbrev pub places_at : Scenario → State → (apartment object : ℕ) → ℕ
places_at s st = places s (ground_in s st) (scene_in st)

abbrev pub holders_at : Scenario → State → (object : ℕ) → ℕ
holders_at s st o = holders_in s (ground_in s st) (scene_in st) (books_in st) o

-- The objects of a ledger are those that were made, and the same apartments own each.
pub record ObjectsTie (s : Scenario) (st : State) (w : Held) : Type 0 where
  pub number : length w.tables.objects ≡ objects_in st
  pub owns : (o a : ℕ) → owns_of w.tables.objects o a ≡ owns_in s st o a

-- The owner of an object after an entry, and whether an apartment owns it, where the entry makes one.
abbrev pub owner_after : Option Making → (object owner : ℕ) → ℕ
owner_after None o x = x
owner_after (Some m) o x = if m.object == o then m.apartment else x

abbrev pub owns_after : Scenario → Option Making → (object apartment : ℕ) → Bool → Bool
owns_after s m o a x = owns_by s.classes m o a x

-- A made object is one more.
pub record ObjectsGrow (s : Scenario) (d : Deed) (w u : Held) : Type 0 where
  pub number : length u.tables.objects ≡ one_more (makes d) (length w.tables.objects)
  pub owns : (o a : ℕ) → owns_of u.tables.objects o a
      ≡ owns_after s (makes d) o a (owns_of w.tables.objects o a)

-- The set of each object has the interfaces of the object's class.
abbrev pub OffersTie : Scenario → State → Held → Type 0
OffersTie s st w =
    (o i : ℕ) → has_interface s.classes (class_in st o) i ≡ true → offers w.tables o i ≡ true

-- A ledger is tied to a state: it has the state's books, it counts the state's places, its objects, their sets and its
-- calls are the state's, and it gave 32 references at most for each entry that was made.
pub record Ties (s : Scenario) (st : State) (w : Held) : Type 0 where
  pub books : books_held w ≡ books_in st
  pub counts : Counts (next_sta_in st) (places_at s st) w.tables
  pub totals : Totals (next_sta_in st) (places_at s st) w.tables
  pub objects : ObjectsTie s st w
  pub offers : OffersTie s st w
  pub calls : length w.calls ≡ length st.issues
  pub issued : w.tables.issued ≤ most_given * st.entries

-- No object was made, no call was issued, and nothing is held.
pub record IsNew (w : Held) : Type 0 where
  pub objects : w.tables.objects ≡ []
  pub stubs : w.tables.stubs ≡ []
  pub proxies : w.tables.proxies ≡ []
  pub packets : w.tables.packets ≡ []
  pub cookies : w.tables.cookies ≡ []
  pub calls : w.calls ≡ []
  pub issued : w.tables.issued ≡ 0

-- A ledger at the end of an entry: its tables count these places, and its books are those with the entry's
-- rows, ended for them.
pub record EndedAt (n : ℕ) (later : ℕ → ℕ → ℕ) (entered : Books) (u : Held) : Type 0 where
  pub counts : Counts n later u.tables
  pub totals : Totals n later u.tables
  pub books : books_held u ≡ ends n later entered

-- What a ledger is after an entry, by its tables and by the objects and calls that it had: it ends at the
-- places after the entry, with the books with the entry's rows; it has one more object and one more call,
-- where the entry makes or issues one; the object's set has the interfaces of its class; and it has given few
-- references more.
pub record EntryEnds (s : Scenario) (st : State) (l : ℕ) (d : Deed) (w u : Held) : Type 0 where
  pub ended : EndedAt (next_sta_in (after s st l d)) (places_at s (after s st l d))
      (books_entered s st (after s st l d) (record { lane = l; deed = d })) u
  pub objects : ObjectsGrow s d w u
  pub offers : OffersMore s.classes (makes d) w.tables u.tables
  pub calls : length u.calls ≡ count_if (issued_by (record { lane = l; deed = d })) + length w.calls
  pub issued : u.tables.issued ≤ w.tables.issued + most_given

-- Books with the rows of the next entry of a lane, with what calls keep of packets and with what it
-- connects and what not.
abbrev pub books_by_rows : Scenario → State → (lane : ℕ) → Deed → (owned : ℕ → ℕ → Bool) → Books → Books
books_by_rows s st l d owned b =
    connected d (named_in st)
    (kept b d (entered_rows owned b (rows s ((sight_of s st).act l) (λ c. is_leave (ending_in st c)) b
    (number_or_zero (running_in s st l)) d)))

-- An entry was applied to a ledger: whatever it takes as who owns objects, it is right of those that were
-- made before, and of the one that the entry makes; and where the places before the entry are what was
-- counted, the places after it are what is counted, and the books are those with the entry's rows, at their
-- end for these places.
pub record AppliedAs (s : Scenario) (st : State) (l : ℕ) (d : Deed) (gained lost : List Move)
    (w u : Held) : Type 0 where
  pub owned : ℕ → ℕ → Bool
  pub others : (o c : ℕ) → (makes d ≡ None) ⊎ (o ≤ length w.tables.objects)
      → owned o c ≡ owns_of w.tables.objects o c
  pub made : (m : Making) → makes d ≡ Some m → owned m.object (number_or_zero (running_in s st l))
      ≡ owns_in s (after s st l d) m.object (number_or_zero (running_in s st l))
  pub counts : AllBelow (next_sta_in (after s st l d)) gained → AllBelow (next_sta_in (after s st l d)) lost
      → ((c o : ℕ) → length w.tables.objects < o → places_at s st c o ≡ 0)
      → Counts (next_sta_in (after s st l d)) (places_at s st) w.tables
      → ((c o : ℕ) → plus (places_at s (after s st l d)) lost c o ≡ plus (places_at s st) gained c o)
      → Counts (next_sta_in (after s st l d)) (places_at s (after s st l d)) u.tables
  pub books : AllBelow (next_sta_in (after s st l d)) gained → AllBelow (next_sta_in (after s st l d)) lost
      → ((c o : ℕ) → length w.tables.objects < o → places_at s st c o ≡ 0)
      → Counts (next_sta_in (after s st l d)) (places_at s st) w.tables
      → ((c o : ℕ) → plus (places_at s (after s st l d)) lost c o ≡ plus (places_at s st) gained c o)
      → books_held u ≡ ends (next_sta_in (after s st l d)) (places_at s (after s st l d))
      (books_by_rows s st l d owned (books_held w))
  pub totals : (n : ℕ) (places : ℕ → ℕ → ℕ) → Counts n places u.tables → Totals n places u.tables

-- Each object that had a holder in the one state and has none in the other is in the list. Objects have
-- numbers from 1 on.
abbrev pub AllTouched : Scenario → (before after : State) → List ℕ → Type 0
AllTouched s st su touched =
    (o : ℕ) → 1 ≤ o → (holders_at s st o == 0) ≡ false → (holders_at s su o == 0) ≡ true
    → is_member o touched ≡ true

-- Each object that had a holder in the one tables and has none in the others was written down.
pub record Notes (before after : Tables) (touched : List ℕ) : Type 0 where
  pub all : (o : ℕ) → 1 ≤ o → 0 < holders_of before o → holders_of after o ≡ 0 → is_member o touched ≡ true

-- An entry was applied: where the places are counted, and those that are lost and gained are counted off and
-- on, each object that had a holder before it and has none after it is among those that were written down.
abbrev pub NotesLost : Around → Deed → (gained lost : List Move) → (w v : Tally) → (touched : List ℕ) → Type 0
NotesLost g d gained lost w v touched =
    (s : Scenario) (x : Option Action) → Carries s x (books_tallied w) d g.carried
    → (n : ℕ) (places later : ℕ → ℕ → ℕ) → brings_to g.apartment d < n → AllBelow n gained → AllBelow n lost
    → AreMade (length w.tables.objects) places
    → Counts n places w.tables → ((c x : ℕ) → plus later lost c x ≡ plus places gained c x)
    → Notes w.tables v.tables touched

-- The owner of each object is the apartment that its making names.
abbrev pub OwnersTie : State → Held → Type 0
OwnersTie st w = (o : ℕ) → (object_in w.tables.objects o).owner ≡ named_in st o

abbrev pub OwnersGrow : Deed → (w u : Held) → Type 0
OwnersGrow d w u = (o : ℕ) → (object_in u.tables.objects o).owner
    ≡ owner_after (makes d) o (object_in w.tables.objects o).owner
