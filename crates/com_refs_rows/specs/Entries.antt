-- What an entry makes of the books of a ledger.
use Rattle.std.specs.Prelude.{◌≡◌, ℕ, ◌+◌, ◌<◌, ◌≤◌, Bool, true, false, not, if◌then◌else◌, List, [], ◌∷◌}
use Rattle.std.specs.Prelude.{◌++◌, length, Option, Some, None, is_some, ◌⊎◌, ◌||◌}
use Rattle.std.specs.Prelude.{slice_index_or}
use Rattle.com_base.specs.declared.hresult.HResult.{HResult}
use Rattle.com_base.specs.declared.value.RefValue.{RefValue}
use Rattle.com_base.specs.declared.value.Value.{Value}
use Rattle.com_body.specs.declared.actions.Action.{Action}
use Rattle.com_body.specs.declared.operands.Asked.{Asked}
use Rattle.com_body.specs.declared.operands.Asked.TheVariants as asked
use Rattle.com_refs_books.specs.Changes.{Books, entered_rows}
use Rattle.com_refs_books.specs.Counting.{count_if}
use Rattle.com_refs_books.specs.Ends.{ends}
use Rattle.com_classes.specs.Tables.{Tables as ClassTables}
use Rattle.com_refs_holders.specs.Places.{Counts, SamePlaces}
use Rattle.com_refs_holders.specs.Tables.{Tables, offers, owns_of}
use Rattle.com_model.specs.declared.deeds.Deed.{Deed}
use Rattle.com_model.specs.declared.deeds.Deed.TheVariants as deed
use Rattle.com_model.specs.declared.scenario.Scenario.{Scenario}
use Rattle.com_model.specs.Books.{rows, kept, out_values}
use Rattle.com_model.specs.Calls.{issues}
use Rattle.com_model.specs.Endings.{is_leave}
use Rattle.com_model.specs.Lists.{from_one, number_or_zero}
use Rattle.com_model.specs.Objects.{makes}
use Rattle.com_model.specs.State.{State, books_in, running_in, sight_of}
use Rattle.com_model.specs.Values.{carried, result_list}
use Rattle.com_reference_moves.specs.declared.moves.Move.{Move}
use Rattle.com_laws_places.specs.Moves.{Moves as Movings}
use Rattle.com_laws_unchanged.specs.Ends.{connected}
use Rattle.com_state.specs.Parts.{CallTables, ObjectTables, calls_of, named_at, objects_of}
use Rattle.com_refs_rows.specs.declared.calls.CallPackets.{CallPackets}
use Rattle.com_refs_rows.specs.Books.{AreMade, Gained, Made, books_with, moved_to}
use Rattle.com_refs_rows.specs.Calls.{call_at}
use Rattle.com_refs_rows.specs.Moving.{no_move, plus, AllBelow, HoldsMore, Touches}
use Rattle.com_refs_rows.specs.Owners.{Grown, offers_made}

-- What an entry's change rests on beside the entry: the tables of calls and of objects, the classes, the
-- references that a marshalled Out or Leave carries, and the apartment in which the lane runs.
pub record Around : Type 0 where
  pub calls : CallTables
  pub objects : ObjectTables
  pub classes : ClassTables
  pub carried : List RefValue
  pub apartment : ℕ

-- What an entry rests on, of these parts.
abbrev pub around : CallTables → ObjectTables → ClassTables → List RefValue → ℕ → Around
around calls objects classes carried apartment = record {
  calls = calls;
  objects = objects;
  classes = classes;
  carried = carried;
  apartment = apartment;
}

-- Who holds references, and the packets of each call.
pub record Tally : Type 0 where
  pub tables : Tables
  pub calls : List CallPackets

-- A tally of these tables and calls.
abbrev pub tally : Tables → List CallPackets → Tally
tally t calls = record { tables = t; calls = calls }

-- The books that a tally stands for.
abbrev pub books_tallied : Tally → Books
books_tallied w = books_with w.tables w.calls

-- The answer of a call is its body's Leave.
abbrev pub left_by : CallTables → ℕ → Bool
left_by t c = is_leave (from_one t.endings c None)

-- The references that are carried are those of the values that an Out sends, or that a Leave answers.
abbrev pub Carries : Scenario → Option Action → Books → Deed → List RefValue → Type 0
Carries s x b (deed.Out c o i m r k (Some bytes)) rs = rs ≡ carried (out_values s b true x)
Carries s x b (deed.Leave c hr v (Some bytes)) rs = rs ≡ carried (result_list v)
Carries s x b _ rs = Unit {0}

-- What an entry rests on is that of the state before it: its calls and objects, the classes of the scenario,
-- the apartment in which the entry's lane runs, and what the entry carries.
pub record StandsAround (s : Scenario) (st : State) (l : ℕ) (d : Deed) (g : Around) : Type 0 where
  pub calls : g.calls ≡ calls_of st
  pub objects : g.objects ≡ objects_of st
  pub classes : g.classes ≡ s.classes
  pub apartment : g.apartment ≡ number_or_zero (running_in s st l)
  pub carried : Carries s ((sight_of s st).act l) (books_in st) d g.carried

-- The books with the rows of the entry, with what it keeps of packets, and which objects it connects.
abbrev pub entered : Scenario → Option Action → Around → (owned : ℕ → ℕ → Bool) → Deed → Books → Books
entered s x g owned d b =
    connected d (named_at g.objects)
    (kept b d (entered_rows owned b (rows s x (left_by g.calls) b g.apartment d)))

-- The row of the deed can end a holder that is no place, and it brings no reference.
abbrev pub ends_holder : (left : ℕ → Bool) → Deed → Bool
ends_holder left (deed.DropPacket p hr) = true
ends_holder left (deed.Revoke g hr) = true
ends_holder left (deed.Back c hr v) = not (left c)
ends_holder left (deed.Disconnect o hr) = true
ends_holder left (deed.Uninit home n) = true
ends_holder left _ = false

-- The deed makes, asks for, marshals, unmarshals, registers or gets a reference.
abbrev pub is_of_reference : Deed → Bool
is_of_reference (deed.Made o a k i hr) = true
is_of_reference (deed.Query o i hr) = true
is_of_reference (deed.Marshal p m held refs hr bytes) = true
is_of_reference (deed.Unmarshal p held refs hr) = true
is_of_reference (deed.Register g held hr) = true
is_of_reference (deed.Get g held refs hr) = true
is_of_reference _ = false

-- The apartment to which the row brings places.
abbrev pub brings_to : ℕ → Deed → ℕ
brings_to a (deed.Enter c o y t vs) = y
brings_to a _ = a

-- The row of a deed leaves no object fewer holders, where places are counted and none holds an object that
-- was not made.
abbrev pub KeepsHeldBy : (apartment : ℕ) → Deed → (t u : Tables) → Type 0
KeepsHeldBy a d t u = (n : ℕ) (places : ℕ → ℕ → ℕ) → brings_to a d < n → AreMade (length t.objects) places
    → Counts n places t → HoldsMore t u

-- The row of a deed was entered, but for one that ends a holder: the books are with it, and it brought these
-- places.
pub record Given (g : Around) (e : (ℕ → ℕ → Bool) → Books) (d : Deed) (w : Tally) (before : List Move)
    (v : Tally) (after : List Move) : Type 0 where
  pub moves : List Move
  pub written : after ≡ before ++ moves
  pub none : ends_holder (left_by g.calls) d ≡ true → moves ≡ []
  pub below : (n : ℕ) → brings_to g.apartment d < n → AllBelow n moves
  pub owns : (x c : ℕ) → (makes d ≡ None) ⊎ (x ≤ length w.tables.objects)
      → owns_of v.tables.objects x c ≡ owns_of w.tables.objects x c
  pub objects : Grown g.classes (makes d) w.tables v.tables
  pub counts : (n : ℕ) (places : ℕ → ℕ → ℕ) → AllBelow n moves → AreMade (length w.tables.objects) places
      → Counts n places w.tables → Counts n (plus places moves) v.tables
  pub calls : (l : ℕ) → length v.calls ≡ count_if (is_some (issues l d)) + length w.calls
  pub books : books_tallied v ≡ e (owns_of v.tables.objects)

-- The row of a deed was entered, for each scenario and action by which the deed carries these references. One that
-- ends a holder waits for the end of the entry.
abbrev pub Gives : Around → Deed → Tally → List Move → Tally → List Move → Type 0
Gives g d w before v after = (s : Scenario) (x : Option Action) → Carries s x (books_tallied w) d g.carried
    → Given g (λ owned. if ends_holder (left_by g.calls) d then books_tallied w
    else entered s x g owned d (books_tallied w)) d w before v after

-- The rows of a deed that keeps nothing of packets were entered.
abbrev pub RowsOf : (apartment : ℕ) → Deed → (before after : Tables) → (written more : List Move) → Type 0
RowsOf a d t u xs ys = (s : Scenario) (x : Option Action) (left : ℕ → Bool) (b : Books)
    → Gained a (rows s x left b a d) t u xs ys

-- The row of a deed that ends a holder was entered, to the end of the entry, and that of another changed
-- nothing.
pub record Closed (e : Books) (w v : Tally) : Type 0 where
  pub places : SamePlaces w.tables v.tables
  pub books : (n : ℕ) (places later : ℕ → ℕ → ℕ) → Counts n places v.tables
      → ((c x : ℕ) → later c x ≤ places c x) → ends n later (books_tallied v) ≡ ends n later e

-- For each scenario, action and way of owning: the row of a deed that ends a holder was entered, to the end of the
-- entry; any other deed leaves the end of the books as it was.
abbrev pub Closes : Around → Deed → Tally → Tally → Type 0
Closes g d w v = (s : Scenario) (x : Option Action) (owned : ℕ → ℕ → Bool)
    → Closed (if ends_holder (left_by g.calls) d then entered s x g owned d (books_tallied w)
    else books_tallied w) w v

-- The row of a deed that ends a holder, whatever calls carry and whatever owns.
abbrev pub ClosesTables : ObjectTables → Deed → (before after : Tables) → Type 0
ClosesTables objects d t u =
    (s : Scenario) (x : Option Action) (g : Around) (owned : ℕ → ℕ → Bool) (calls : List CallPackets)
    → g.objects ≡ objects
    → Closed (entered s x g owned d (books_with t calls)) (tally t calls) (tally u calls)

-- The result of a call that comes back is given up: its packet has this number, or there is none.
abbrev pub GivesUp : (number : ℕ) → (before after : Tables) → Type 0
GivesUp number t u =
    (s : Scenario) (x : Option Action) (g : Around) (owned : ℕ → ℕ → Bool) (calls : List CallPackets)
    (c : ℕ) (hr : HResult) (v : Option Value)
    → left_by g.calls c ≡ false → (call_at calls c).result ≡ number
    → Closed (entered s x g owned (deed.Back c hr v) (books_with t calls)) (tally t calls) (tally u calls)

-- How many packets a deed reads, where calls carry these.
abbrev pub asked_packets : List CallPackets → Deed → ℕ
asked_packets calls (deed.Enter c o y t vs) = (call_at calls c).count
asked_packets calls _ = 0

-- How many calls of the tables a row makes at most.
abbrev pub row_steps : List CallPackets → (carried : List RefValue) → Deed → ℕ
row_steps calls carried d = asked_packets calls d + length carried + 2

-- How many objects the end of an apartment may disconnect, where so many were made.
abbrev pub ended_objects : ℕ → Deed → ℕ
ended_objects n (deed.Uninit home count) = n
ended_objects n _ = 0

-- How many objects at most an entry leaves without a holder.
abbrev pub most_left : List CallPackets → ObjectTables → Deed → Movings → ℕ
most_left calls objects d m =
    length m.lost + asked_packets calls d + 3 + ended_objects (length objects.makings) d

-- Each reference is by an interface in its object's set, once the deed has made its object.
abbrev pub AllGiven : ClassTables → Tables → Deed → List Move → Type 0
AllGiven classes t d ms = (k : ℕ) → k < length ms
    → (offers t (slice_index_or ms k no_move).reference.object (slice_index_or ms k no_move).reference.iface
    || offers_made classes (makes d) (slice_index_or ms k no_move).reference.object
    (slice_index_or ms k no_move).reference.iface) ≡ true

-- The row of a new object, or none.
abbrev pub MakesOrNone : ClassTables → (apartment : ℕ) → (object owner : Option ℕ) → (class iface : Asked)
    → (before after : Tables) → (written more : List Move) → Type 0
MakesOrNone classes a (Some o) (Some w) (asked.Number k) (asked.Number i) t u xs ys =
    Made a (record { object = o; iface = i }) t u
    × (ys ≡ xs ++ moved_to a (record { object = o; iface = i }) ∷ [])
    × Grown classes (Some (record { object = o; apartment = w; class = k })) t u
MakesOrNone classes a None w k i t u xs ys = (u ≡ t) × (ys ≡ xs)
MakesOrNone classes a (Some o) w k i t u xs ys = ⊥

-- An entry was applied: where the places are counted, and those that are lost and gained are counted off and
-- on, the places after it are counted, and the books are those with the entry's rows, at the entry's end.
-- What owns objects is exact for those after it: one that it makes is owned as its making says.
pub record Applied (e : (ℕ → ℕ → Bool) → Books) (g : Around) (d : Deed) (gained lost : List Move)
    (w v : Tally) : Type 0 where
  pub calls : (l : ℕ) → length v.calls ≡ count_if (is_some (issues l d)) + length w.calls
  pub owned : ℕ → ℕ → Bool
  pub owns : (x c : ℕ) → (makes d ≡ None) ⊎ (x ≤ length w.tables.objects)
      → owned x c ≡ owns_of w.tables.objects x c
  pub exact : (x c : ℕ) → owned x c ≡ owns_of v.tables.objects x c
  pub objects : Grown g.classes (makes d) w.tables v.tables
  pub counts : (n : ℕ) (places later : ℕ → ℕ → ℕ) → brings_to g.apartment d < n → AllBelow n gained
      → AllBelow n lost → AreMade (length w.tables.objects) places
      → Counts n places w.tables → ((c x : ℕ) → plus later lost c x ≡ plus places gained c x)
      → Counts n later v.tables
  pub books : (n : ℕ) (places later : ℕ → ℕ → ℕ) → brings_to g.apartment d < n → AllBelow n gained
      → AllBelow n lost → AreMade (length w.tables.objects) places
      → Counts n places w.tables → ((c x : ℕ) → plus later lost c x ≡ plus places gained c x)
      → books_tallied v ≡ ends n later (e owned)

-- An entry was applied, with the places that it gains and loses, for each scenario and action by which its deed
-- carries these references.
abbrev pub Applies : Around → Deed → (gained lost : List Move) → Tally → Tally → Type 0
Applies g d gained lost w v = (s : Scenario) (x : Option Action) → Carries s x (books_tallied w) d g.carried
    → Applied (λ owned. entered s x g owned d (books_tallied w)) g d gained lost w v

-- An entry was applied: where the places are counted, and those that are lost and gained are counted off and
-- on, each object that had a holder before it and has none after it is among those that were written down.
abbrev pub Loses : Around → Deed → (gained lost : List Move) → (w v : Tally) → (touched : List ℕ) → Type 0
Loses g d gained lost w v touched =
    (s : Scenario) (x : Option Action) → Carries s x (books_tallied w) d g.carried
    → (n : ℕ) (places later : ℕ → ℕ → ℕ) → brings_to g.apartment d < n → AllBelow n gained → AllBelow n lost
    → AreMade (length w.tables.objects) places
    → Counts n places w.tables → ((c x : ℕ) → plus later lost c x ≡ plus places gained c x)
    → Touches w.tables v.tables [] touched
