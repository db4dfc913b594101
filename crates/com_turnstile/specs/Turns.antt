-- The rule of the lock. It holds at every moment, and ties the three words and the slot to what the passes
-- know. What a pass knows is its view. The published list is the opening list, with which the lock was made,
-- and then what was published since, `later`.
use Rattle.std.specs.Prelude.{◌≡◌, ◌≢◌, ◌⊎◌, ℕ, ◌+◌, ◌<◌, ◌≤◌, true, false, List, [], ◌∷◌, ◌++◌, length}
use Rattle.std.specs.Prelude.{slice_index, Option, Some, None}
use mathlib.Core.Option.{none, some}
use mathlib.Core.List.{IsPrefix}
use lib.ListN.{get_elem?}
use Rattle.atomic_table.specs.Table.{State}
use Rattle.com_turnstile.specs.declared.view.View.{View}
use Rattle.com_turnstile.specs.Entries.{of_lane}

-- the first word: how many tickets were drawn
abbrev pub tickets_drawn : {S V : Type 0} → State S V → ℕ
tickets_drawn s = slice_index s.words 0

-- the second word: the ticket that is served
abbrev pub ticket_served : {S V : Type 0} → State S V → ℕ
ticket_served s = slice_index s.words 1

-- the third word: how many entries were published
abbrev pub entries_published : {S V : Type 0} → State S V → ℕ
entries_published s = slice_index s.words 2

-- 1 for a ticket, and 0 for none
abbrev pub ticket_count : Option ℕ → ℕ
ticket_count None = 0
ticket_count (Some t) = 1

module _ {E : Type 0} where
  -- what the first pass knows
  abbrev pub first_view : List E → View E
  first_view opening = record {
    number = 1;
    splits = true;
    ticket = None;
    turn = false;
    opening = opening;
    seen = opening;
    mine = [];
  }

  -- the view with the index j
  abbrev pub IsViewAt : List (View E) → ℕ → View E → Type 0
  IsViewAt views j v = get_elem? views j ≡ some v

  -- how many of the views have a ticket
  abbrev pub tickets_out : List (View E) → ℕ
  tickets_out [] = 0
  tickets_out (v ∷ vs) = ticket_count v.ticket + tickets_out vs

  -- no view has its turn
  abbrev pub NoTurn : List (View E) → Type 0
  NoTurn views = (j : ℕ) (v : View E) → IsViewAt views j v → v.turn ≡ false

  -- some view has seen just this list
  abbrev pub IsSeen : List (View E) → List E → Type 0
  IsSeen views entries = (j : ℕ) × ((v : View E) × IsViewAt views j v × (v.seen ≡ entries))

  -- one of the two lists begins with the other
  abbrev pub OneBeginsOther : List E → List E → Type 0
  OneBeginsOther xs ys = IsPrefix xs ys ⊎ IsPrefix ys xs

-- What is so of each view by itself, where so many tickets were drawn and this one is served
pub record Fits {E : Type 0} (lane : E → ℕ) (opening later : List E) (drawn serving : ℕ)
    (v : View E) : Type 0 where
  -- its number is above 0
  pub numbered : 0 < v.number
  -- it keeps the opening list
  pub opens : v.opening ≡ opening
  -- the published list begins with what it has seen
  pub saw : IsPrefix v.seen (opening ++ later)
  -- its own entries are those of its lane in the published list after the opening list
  pub own : v.mine ≡ of_lane lane v.number later
  -- its ticket is not served yet or is served now, and was drawn
  pub waits : (t : ℕ) → v.ticket ≡ Some t → (serving ≤ t) × (t < drawn)
  -- if it has its turn, its ticket is the one that is served, and it has seen the published list
  pub turns : v.turn ≡ true → (v.ticket ≡ Some serving) × (v.seen ≡ opening ++ later)

-- The rule, of the words, of the slot, which is the one home, and of the views
pub record InTurn {T E : Type 0} (list : T → List E) (lane : E → ℕ) (opening : List E)
    (s : State (Option T) (View E)) : Type 0 where
  -- what was published after the opening list
  pub later : List E
  -- there are three words
  pub three_words : length s.words ≡ 3
  -- there is one slot
  pub one_slot : length s.homes ≡ 1
  -- what is so of each view by itself
  pub each : (j : ℕ) (v : View E) → IsViewAt s.views j v
      → Fits lane opening later (tickets_drawn s) (ticket_served s) v
  -- the numbers of the views are different
  pub apart : (i j : ℕ) (v w : View E) → IsViewAt s.views i v → IsViewAt s.views j w → v.number ≡ w.number
      → i ≡ j
  -- a view that may be split has the greatest number
  pub greatest : (i j : ℕ) (v w : View E) → IsViewAt s.views i v → IsViewAt s.views j w → v.splits ≡ true
      → w.number ≤ v.number
  -- a number above 0 that no view has has no entry after the opening list
  pub absent : (n : ℕ) → 0 < n → ((j : ℕ) (v : View E) → IsViewAt s.views j v → v.number ≢ n)
      → of_lane lane n later ≡ []
  -- the ticket that is served, and the number of views with a ticket, make the number of tickets drawn
  pub tally : ticket_served s + tickets_out s.views ≡ tickets_drawn s
  -- the number of tickets drawn fits a word
  pub fits_word : tickets_drawn s < 18446744073709551616
  -- the tickets are different
  pub tickets : (i j : ℕ) (v w : View E) → IsViewAt s.views i v → IsViewAt s.views j w → (t : ℕ)
      → v.ticket ≡ Some t → w.ticket ≡ Some t → i ≡ j
  -- of what any two views have seen one begins with the other
  pub nested : (i j : ℕ) (v w : View E) → IsViewAt s.views i v → IsViewAt s.views j w
      → OneBeginsOther v.seen w.seen
  -- the longest that any has seen is the published list
  pub longest : IsSeen s.views (opening ++ later)
  -- the published list has as many entries as the third word says
  pub counted : entries_published s ≡ length (opening ++ later)
  -- while no view has its turn, the slot is at home with a value whose list is the published list
  pub home : NoTurn s.views → (x : T) × (get_elem? s.homes 0 ≡ some (some (Some x)))
      × (list x ≡ opening ++ later)
  -- while a view has its turn, the slot is out
  pub out : (j : ℕ) (v : View E) → IsViewAt s.views j v → v.turn ≡ true → get_elem? s.homes 0 ≡ some none
